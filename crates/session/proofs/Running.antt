-- What the run of a turn tells is true of its query.
use Rattle.std.proofs.Common.{◌≡◌, ℕ, ◌+◌, ◌-◌, ◌^◌, ◌≤◌, ◌<◌, ◌==◌, min, Bool, true, false, ◌||◌, if◌then◌else◌, List, [], length, take, drop, nat_le, Option, Some, None, All, refl, ap, sym, subst, ◌∙◌, inl, inr, arith}
use Rattle.std.specs.Prelude.{◌⊎◌}
use Rattle.std.specs.Option.{MatchOption, is_some}
use Rattle.std.proofs.lemmas.Bool.{cases_eq, le-leb, lt-leb, leb-true, eq-eqb, ne_eqb, eqb-true, or_cases, or_parts, both_ways}
use Rattle.std.proofs.lemmas.List.{length-take, drop-take}
use Rattle.std.proofs.lemmas.List.Elements.{All-weaker}
use Rattle.solve_model.specs.Trace.{world_of}
use Rattle.event_core.specs.declared.event.Event.{Event}
use Rattle.event_core.specs.declared.rest.Rest.{Rest}
use Rattle.event_core.specs.Parts.{Part}
use Rattle.event_core.specs.Laws.{StaysInside, replying}
use Rattle.event_core.specs.Reaching.{IsBegun, IsWhole}
use Rattle.event_core.specs.Standing.{chunk_of, style_of}
use Rattle.event_core.specs.Texts.{quoted}
use Rattle.event_core.specs.Fits.{fits}
use Rattle.event_core.specs.Names.{answer_term}
use Rattle.event_core.proofs.Rising.{steps_never_fall}
use Rattle.session.specs.Turns.{last_step, IsFull, Turned, Turns}
use Rattle.session.specs.Views.{Gone, TurnView}
use Rattle.session.specs.TurnsKept.{part_seen, Starts, IsGone, ends_at}
use Rattle.session.proofs.Turning.{Rises, rises, Reached, cut_from_part, in_reached, in_part, full_turned, open_turned, starved_at_start}

-- the steps of a query's events never fall
up : (t : TurnView) → Rises (part_seen t).events
up t =
    rises (part_seen t).events
    (steps_never_fall (world_of t.program [] t.settings.limit) (fits quoted) (style_of t.settings t.query.asked) t.query.asked.goal (answer_term t.settings.names t.query.asked) (chunk_of t.settings t.query.asked) t.query.requests)

is_some_if : {A : Type 0} (b : Bool) (x : A) (o : Option A) → o ≡ (if b then Some x else None) → is_some o ≡ b
is_some_if true x o e = ap is_some e
is_some_if false x o e = ap is_some e

none_if : (b : Bool) (o : Option Rest) → o ≡ None → (if b then o else None) ≡ None
none_if true o e = e
none_if false o e = refl

module _ (t : TurnView) (g : Gone) (b reaches : ℕ) (L : List (ℕ × Event)) (rest : Option Rest)
    (some : 0 < b) (room : 0 < t.room) (most : reaches ≤ t.steps + b) (all_steps : reaches < t.settings.limit → reaches ≡ t.steps + b)
    (known : MatchOption rest ((reaches < t.settings.limit) × IsBegun reaches L (part_seen t).events) (λ x. IsWhole (part_seen t) L x))
    (left : rest ≡ None → StaysInside (replying (world_of t.program [] t.settings.limit) t.query.requests) t.query.asked.goal (answer_term t.settings.names t.query.asked) → length L < length (part_seen t).events)
    (in_time : All (λ x. x.0 ≤ min reaches t.settings.limit) L)
    (events_are : g.events ≡ take t.room (drop t.events L)) (rest_is : g.rest ≡ (if (t.events + length g.events) == length L then rest else None)) where
  abbrev E : List (ℕ × Event)
  E = (part_seen t).events

  abbrev M : ℕ
  M = length (take t.room (drop t.events L))

  made_is : length g.events ≡ M
  made_is = ap (λ (l : List (ℕ × Event)). length l) events_are

  module _ (s : Starts t) where
    reached : (o : Option Rest) → rest ≡ o → Reached (part_seen t) L t.steps t.events b t.room reaches
    reached (Some x) e =
        let w : IsWhole (part_seen t) L x = subst (λ o. MatchOption o ((reaches < t.settings.limit) × IsBegun reaches L E) (λ x. IsWhole (part_seen t) L x)) e known in
        inl w.events
    reached None e =
        let w : (reaches < t.settings.limit) × IsBegun reaches L E = subst (λ o. MatchOption o ((reaches < t.settings.limit) × IsBegun reaches L E) (λ x. IsWhole (part_seen t) L x)) e known in
        inr (record { all_steps = all_steps w.0; fewer = left e s.inside; begun = w.1 })

    within : Reached (part_seen t) L t.steps t.events b t.room reaches
    within = reached rest refl

    timely : All (λ x. x.0 ≤ reaches) L
    timely = All-weaker (λ x. x.0 ≤ min reaches t.settings.limit) (λ x. x.0 ≤ reaches) (λ x h. omega (arith, h)) L in_time

    L_most : length L ≤ length E
    L_most = in_part (part_seen t) L t.steps t.events b t.room reaches within timely most some room s.more s.before s.later (up t)

    so_far : t.events + M ≤ length L
    so_far = in_reached (part_seen t) L t.steps t.events b t.room reaches within timely most some room s.more s.before s.later (up t)

    pub made : g.events ≡ drop t.events (take (t.events + length g.events) E)
    made =
        events_are
        ∙ cut_from_part (part_seen t) L t.steps t.events b t.room reaches within timely most some room s.more s.before s.later (up t)
        ∙ ap (λ k. drop t.events (take (t.events + k) E)) (sym made_is)

    rest_at : (o : Option Rest) → rest ≡ o → g.rest ≡ (if nat_le (length E) (t.events + length g.events) then Some (part_seen t).rest else None)
    rest_at (Some x) e =
        let w : IsWhole (part_seen t) L x = subst (λ o. MatchOption o ((reaches < t.settings.limit) × IsBegun reaches L E) (λ x. IsWhole (part_seen t) L x)) e known in
        let all : length L ≡ length E = ap (λ (l : List (ℕ × Event)). length l) w.events in
        rest_is ∙ ap (λ o. if (t.events + length g.events) == length L then o else None) (e ∙ ap Some w.rest) ∙ ap (λ c. if c then Some (part_seen t).rest else None) (same all (cases_eq (t.events + length g.events) (length L)))
      where
        same : length L ≡ length E → (t.events + length g.events ≡ length L) ⊎ (t.events + length g.events ≡ length L → ⊥) → ((t.events + length g.events) == length L) ≡ nat_le (length E) (t.events + length g.events)
        same all (inl h) = eq-eqb (t.events + length g.events) (length L) h ∙ sym (le-leb (length E) (t.events + length g.events) (omega (arith, h, all)))
        same all (inr h) = ne_eqb (t.events + length g.events) (length L) h ∙ sym (lt-leb (length E) (t.events + length g.events) (omega (arith, h, all, so_far, made_is)))
    rest_at None e =
        let fewer : length L < length E = left e s.inside in
        rest_is ∙ none_if ((t.events + length g.events) == length L) rest e
        ∙ sym (ap (λ c. if c then Some (part_seen t).rest else None) (lt-leb (length E) (t.events + length g.events) (omega (arith, fewer, so_far, made_is))))

    pub rest_told : g.rest ≡ (if nat_le (length E) (t.events + length g.events) then Some (part_seen t).rest else None)
    rest_told = rest_at rest refl

    module _ (full : Bool) (full_is : full ≡ (is_some g.rest || (length g.events == t.room))) (end : ℕ) (end_is : end ≡ ends_at full (last_step (length g.events) g.events) reaches) (steps_are : g.steps ≡ end - t.steps) where
      told : is_some g.rest ≡ nat_le (length E) (t.events + length g.events)
      told = is_some_if (nat_le (length E) (t.events + length g.events)) (part_seen t).rest g.rest rest_told

      fills : full ≡ true → IsFull (part_seen t) t.events t.room (length g.events)
      fills e = go (or_cases (is_some g.rest) (length g.events == t.room) (sym full_is ∙ e))
        where
          go : (is_some g.rest ≡ true) ⊎ ((length g.events == t.room) ≡ true) → IsFull (part_seen t) t.events t.room (length g.events)
          go (inl h) = let l : length E ≤ t.events + length g.events = leb-true (length E) (t.events + length g.events) (sym told ∙ h) in inr (omega (arith, l, so_far, L_most, made_is))
          go (inr h) = inl (eqb-true (length g.events) t.room h)

      is_open : full ≡ false → ¬ IsFull (part_seen t) t.events t.room (length g.events)
      is_open e = go (or_parts (is_some g.rest) (length g.events == t.room) (sym full_is ∙ e))
        where
          go : (is_some g.rest ≡ false) × ((length g.events == t.room) ≡ false) → ¬ IsFull (part_seen t) t.events t.room (length g.events)
          go h (inl k) = both_ways (length g.events == t.room) h.1 (eq-eqb (length g.events) t.room k)
          go h (inr k) = both_ways (is_some g.rest) h.0 (told ∙ le-leb (length E) (t.events + length g.events) (omega (arith, k)))

      as_cut : Turned (part_seen t) t.steps t.events b t.room g.steps M → Turned (part_seen t) t.steps t.events b t.room g.steps (length g.events)
      as_cut h = subst (λ k. Turned (part_seen t) t.steps t.events b t.room g.steps k) (sym made_is) h

      last_is : last_step (length g.events) g.events ≡ last_step M (take t.room (drop t.events L))
      last_is = ap (λ (l : List (ℕ × Event)). last_step (length l) l) events_are

      by : (c : Bool) → full ≡ c → Turned (part_seen t) t.steps t.events b t.room g.steps (length g.events)
      by true e =
          as_cut (full_turned (part_seen t) L t.steps t.events b t.room reaches within timely most some room s.more s.before s.later (up t)
          (subst (λ k. IsFull (part_seen t) t.events t.room k) made_is (fills e)) g.steps (last_step (length g.events) g.events) last_is
          (steps_are ∙ ap (λ n. n - t.steps) (end_is ∙ ap (λ c. ends_at c (last_step (length g.events) g.events) reaches) e)))
      by false e =
          as_cut (open_turned (part_seen t) L t.steps t.events b t.room reaches within timely most some room s.more s.before s.later (up t)
          (subst (λ k. ¬ IsFull (part_seen t) t.events t.room k) made_is (is_open e)) g.steps
          (steps_are ∙ ap (λ n. n - t.steps) (end_is ∙ ap (λ c. ends_at c (last_step (length g.events) g.events) reaches) e)) within)

      pub turned : Turned (part_seen t) t.steps t.events b t.room g.steps (length g.events)
      turned = by full refl

  -- what is known of it
  pub gone : Starts t → g.starved ≡ false → Turned (part_seen t) t.steps t.events b t.room g.steps (length g.events) → t.steps + g.steps < 2 ^ 64 → t.events + length g.events < 2 ^ 64 → IsGone t g
  gone s ample turns steps events = record {
    steps = steps;
    events = events;
    room = let k : M ≤ t.room = cut_room in omega (arith, k, made_is);
    made = made s;
    rest = λ f. rest_told s;
    turned = (b, subst (λ c. Turns (part_seen t) t.steps t.events b t.room g.steps (length g.events) c) (sym ample) turns);
  }
    where
      cut_room : M ≤ t.room
      cut_room = omega (arith, length-take t.room (drop t.events L))

-- want of memory at the start
abbrev pub starved : Gone
starved = record { steps = 0; events = []; starved = true; rest = None }

pub starved_turns : (t : TurnView) (b : ℕ) → 0 < t.room → Starts t → Turns (part_seen t) t.steps t.events b t.room 0 0 true
starved_turns t b room s = starved_at_start (part_seen t) t.steps t.events b t.room room s.more s.later

pub starved_gone : (t : TurnView) → 0 < t.room → Starts t → t.steps < 2 ^ 64 → t.events < 2 ^ 64 → IsGone t starved
starved_gone t some s steps events = record {
  steps = (let i : t.steps + 0 ≡ t.steps = omega arith in omega (arith, steps, i));
  events = (let i : t.events + 0 ≡ t.events = omega arith in omega (arith, events, i));
  room = omega arith;
  made = sym (drop-take t.events 0 (part_seen t).events);
  rest = λ f. absurd (differ f);
  turned = (0, starved_turns t 0 some s);
}
  where
    differ : true ≡ false → ⊥
    differ e = cc

-- what a turn has made isn't nothing
pub moves : (p : Part) (n e b r : ℕ) (g : Gone) (steps events : ℕ) → steps ≡ g.steps → events ≡ (if g.starved then length g.events + 1 else length g.events) → Turns p n e b r g.steps (length g.events) g.starved → (0 < steps) ⊎ (0 < events)
moves p n e b r g steps events s k h = go g.starved refl
  where
    at_last : Turned p n e b r g.steps (length g.events) → events ≡ length g.events → (0 < steps) ⊎ (0 < events)
    at_last h k = elim h.moves [ inl l ↦ inl (omega (arith, l, s)) | inr l ↦ inr (omega (arith, l, k)) ]

    go : (c : Bool) → g.starved ≡ c → (0 < steps) ⊎ (0 < events)
    go true f = let m : events ≡ length g.events + 1 = k ∙ ap (λ c. if c then length g.events + 1 else length g.events) f in inr (omega (arith, m))
    go false f = at_last (subst (λ c. Turns p n e b r g.steps (length g.events) c) f h) (k ∙ ap (λ c. if c then length g.events + 1 else length g.events) f)
