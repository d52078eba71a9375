-- A turn starts as it is to be: its query has an event to come, and those before came within its steps.
use Rattle.std.proofs.Common.{◌≡◌, ℕ, zero, suc, ◌+◌, ◌≤◌, ◌<◌, Bool, true, false, ◌&&◌, if◌then◌else◌, List, [], ◌∷◌, ◌++◌, length, take, drop, slice_get, nat_le, nat_lt, Option, Some, None, All, refl, ap, sym, subst, ◌∙◌, inr, arith}
use Rattle.std.specs.Prelude.{AllPairs}
use Rattle.std.specs.Option.{option_map}
use Rattle.std.proofs.lemmas.Bool.{leb-true, leb-false}
use Rattle.std.proofs.lemmas.List.{take-append-drop, take-take}
use Rattle.std.proofs.lemmas.List.Elements.{All-append, All-weaker, All-nil, All-cons}
use Rattle.event_core.specs.declared.event.Event.{Event}
use Rattle.event_core.specs.declared.event.Event.TheVariants as event
use Rattle.event_core.specs.declared.request.Ask.{Ask}
use Rattle.event_core.specs.declared.request.Request.{Request}
use Rattle.event_core.specs.declared.request.Request.TheVariants as request
use Rattle.event_core.specs.declared.rest.Rest.{Rest}
use Rattle.event_core.specs.declared.rest.Rest.TheVariants as rest
use Rattle.event_core.specs.Parts.{Part, part}
use Rattle.event_core.specs.Full.{Spec, Query, part_of, events_of, span}
use Rattle.event_core.specs.Laws.{Begins}
use Rattle.event_core.proofs.Longer.{requests_only_add}
use Rattle.event_core.proofs.Rising.{steps_never_fall}
use Rattle.session.specs.After as state
use Rattle.session.specs.After.{State, Idle, Running, Ended, Pengine, waiting, emits, ends, begins, fits, first_consumed, consumes_now, settled, Entry, Sent, Pulled, Abort, Destroy, Taken, Given, rest_at, advances, turned_at, aborted_at, destroyed_at, struck, handed_out, entered, after_entry, after, made, most_waiting}
use Rattle.session.specs.Legal.{TurnsAt, IsAllowed, IsLegal, ArePossible}
use Rattle.session.specs.Turns.{last_step, Turned}
use Rattle.session.specs.Laws.{IsResolution}
use Rattle.session.proofs.Schedule.{Fitting, allowed, after_next, after_respond, Lively}
use Rattle.session.proofs.Resolution.{resolution_lively}
use Rattle.session.proofs.Turning.{get_append, Rises, rises, rises_after, rises_before}

module _ {A : Type 0} where
  -- the item whose step this is
  at_step : (o : Option (ℕ × A)) (n : ℕ) → option_map (λ (x : ℕ × A). x.0) o ≡ Some n → (y : ℕ × A) × (o ≡ Some y) × (y.0 ≡ n)
  at_step None n e = cc
  at_step (Some y) n e = (y, refl, subst (λ (z : Option ℕ). there z) e refl)
    where
      there : Option ℕ → Type 0
      there None = Unit {0}
      there (Some k) = y.0 ≡ k

  from_none : (xs : List (ℕ × A)) → All (λ x. 0 ≤ x.0) xs
  from_none [] = All-nil (λ x. 0 ≤ x.0)
  from_none (x ∷ xs) = All-cons (λ x. 0 ≤ x.0) x xs (omega arith) (from_none xs)

module _ (spec : Spec) (real : IsResolution spec) where
  law : Lively spec
  law = resolution_lively spec real

  up : (q : Query) → Rises (events_of spec q)
  up q =
      rises (events_of spec q)
      (subst (λ (p : Part). AllPairs (λ x y. x.0 ≤ y.0) p.events) (sym (real.is_part q.asked q.requests))
      (steps_never_fall real.world real.fits (real.style q.asked) q.asked.goal (real.answer q.asked) (real.chunk q.asked) q.requests))

  further : (a : Ask) (rs more : List Request) → Begins (spec.part a rs).events (spec.part a (rs ++ more)).events
  further a rs more =
      subst (λ (p : Part). Begins p.events (spec.part a (rs ++ more)).events) (sym (real.is_part a rs))
      (subst (λ (p : Part). Begins (part real.world real.fits (real.style a) a.goal (real.answer a) (real.chunk a) rs).events p.events) (sym (real.is_part a (rs ++ more)))
      (requests_only_add real.world real.fits (real.style a) a.goal (real.answer a) (real.chunk a) rs more))

  -- a query that runs, after n steps and e events
  pub record IsOn (q : Query) (n e : ℕ) : Type 0 where
    pub fitting : Fitting spec q.asked q.requests
    pub more : e < length (events_of spec q)
    pub before : All (λ x. x.0 ≤ n) (take e (events_of spec q))
    pub later : All (λ x. n ≤ x.0) (drop e (events_of spec q))

  -- a query that rests so
  pub record Rests (q : Query) (r : Rest) (n e : ℕ) : Type 0 where
    pub fitting : Fitting spec q.asked q.requests
    pub all : length (events_of spec q) ≡ e
    pub rest : (part_of spec q).rest ≡ r
    pub last : last_step e (events_of spec q) ≡ Some n

  abbrev pub StandsAt : State → (n e : ℕ) → Type 0
  StandsAt Idle n e = Unit {0}
  StandsAt (Running q) n e = IsOn q n e
  StandsAt (state.More q) n e = Rests q rest.More n e
  StandsAt (state.Prompting q) n e = Rests q rest.Prompting n e
  StandsAt Ended n e = Unit {0}

  abbrev Stands : Pengine → Type 0
  Stands p = StandsAt p.state p.steps p.events

  ends_stands : (b : Bool) (p : Pengine) → Stands (ends b p)
  ends_stands true p = tt
  ends_stands false p = tt

  -- ---- a request more

  goes_on : (q : Query) (r : Rest) (n e : ℕ) (x : Request) → Rests q r n e → Fitting spec q.asked (q.requests ++ x ∷ []) → length (events_of spec q) < length (spec.part q.asked (q.requests ++ x ∷ [])).events → IsOn (record q { requests = q.requests ++ x ∷ [] }) n e
  goes_on q r n zero x h f l = absurd (none h.last)
    where
      none : None ≡ Some n → ⊥
      none e = cc
  goes_on q r n (suc k) x h f l =
      let q' : Query = record q { requests = q.requests ++ x ∷ [] } in
      let y : (y : ℕ × Event) × (slice_get (events_of spec q) k ≡ Some y) × (y.0 ≡ n) = at_step (slice_get (events_of spec q) k) n h.last in
      let longer : Begins (events_of spec q) (events_of spec q') = further q.asked q.requests (x ∷ []) in
      let there : slice_get (events_of spec q') k ≡ Some y.0 = ap (λ (z : List (ℕ × Event)). slice_get z k) longer.1 ∙ get_append (events_of spec q) longer.0 k y.0 y.1 in
      record {
        fitting = f;
        more = omega (arith, l, h.all);
        before = All-weaker (λ z. z.0 ≤ y.0.0) (λ z. z.0 ≤ n) (λ z g. omega (arith, g, y.2)) (take (suc k) (events_of spec q')) (rises_before (events_of spec q') k y.0 (up q') there);
        later = All-weaker (λ z. y.0.0 ≤ z.0) (λ z. n ≤ z.0) (λ z g. omega (arith, g, y.2)) (drop (suc k) (events_of spec q')) (rises_after (events_of spec q') k y.0 (up q') there);
      }

  begun : (a : Ask) (v : Option _) → spec.refusal a ≡ v → (p : Pengine) → Stands (begins spec a v p)
  begun a None w p = record {
    fitting = allowed w;
    more = law.asked a w;
    before = All-nil (λ x. x.0 ≤ 0);
    later = from_none (spec.part a []).events;
  }
  begun a (Some t) w p = ends_stands spec.destroys (emits (event.Error t) (record p { number = suc p.number; steps = 0; events = 0 }))

  fits_stands : (s : State) (r : Request) (p : Pengine) → StandsAt s p.steps p.events → Stands (fits spec s r (record p { state = s }))
  fits_stands Idle (request.Ask a) p h = begun a (spec.refusal a) refl (record p { state = Idle })
  fits_stands Idle (request.Next c) p h = tt
  fits_stands Idle request.Stop p h = tt
  fits_stands Idle (request.Respond x) p h = tt
  fits_stands (Running q) (request.Ask a) p h = h
  fits_stands (Running q) (request.Next c) p h = h
  fits_stands (Running q) request.Stop p h = h
  fits_stands (Running q) (request.Respond x) p h = h
  fits_stands (state.More q) (request.Ask a) p h = h
  fits_stands (state.More q) (request.Next c) p h = goes_on q rest.More p.steps p.events (request.Next c) h (after_next c h.fitting h.rest) (law.nexted q.asked q.requests c h.fitting h.rest)
  fits_stands (state.More q) request.Stop p h = ends_stands spec.destroys (emits event.Stop (record p { state = state.More q }))
  fits_stands (state.More q) (request.Respond x) p h = h
  fits_stands (state.Prompting q) (request.Ask a) p h = h
  fits_stands (state.Prompting q) (request.Next c) p h = h
  fits_stands (state.Prompting q) request.Stop p h = h
  fits_stands (state.Prompting q) (request.Respond x) p h =
      goes_on q rest.Prompting p.steps p.events (request.Respond x) h (after_respond x h.fitting h.rest) (law.responded q.asked q.requests x h.fitting h.rest)
  fits_stands Ended (request.Ask a) p h = tt
  fits_stands Ended (request.Next c) p h = tt
  fits_stands Ended request.Stop p h = tt
  fits_stands Ended (request.Respond x) p h = tt

  first_stands : (ms : List Request) (p : Pengine) → Stands p → Stands (first_consumed spec ms p)
  first_stands [] p h = h
  first_stands (r ∷ ms) p h = fits_stands p.state r (record p { mailbox = ms; consumed = suc p.consumed }) h

  settled_stands : (n : ℕ) (p : Pengine) → Stands p → Stands (settled spec n p)
  unfolding settled
  settled_stands zero p h = h
  settled_stands (suc n) p h = go (settled_stands n (first_consumed spec p.mailbox p) (first_stands p.mailbox p h)) (consumes_now p.state && nat_lt (waiting p) most_waiting)
    where
      go : Stands (settled spec n (first_consumed spec p.mailbox p)) → (b : Bool) → Stands (elim b as (λ z. Pengine) [ true ↦ settled spec n (first_consumed spec p.mailbox p) | false ↦ p ])
      go ih true = ih
      go ih false = h

  -- ---- a turn

  comes : (q : Query) (w : Rest) (p : Pengine) → Fitting spec q.asked q.requests → length (events_of spec q) ≡ p.events → (part_of spec q).rest ≡ w → last_step p.events (events_of spec q) ≡ Some p.steps → Stands (rest_at spec q w p)
  comes q rest.More p f a w l = record { fitting = f; all = a; rest = w; last = l }
  comes q rest.Prompting p f a w l = record { fitting = f; all = a; rest = w; last = l }
  comes q rest.Over p f a w l = ends_stands spec.destroys p

  turned : (q : Query) (budget room n e : ℕ) (p : Pengine) → IsOn q p.steps p.events → Turned (part_of spec q) p.steps p.events budget room n e → Stands (advances spec q (p.steps + n) (p.events + e) false (record p { state = Running q; turn = None }))
  turned q budget room n e p h t = go (nat_le (length (events_of spec q)) (p.events + e)) refl
    where
      all : List (ℕ × Event)
      all = events_of spec q

      r : Pengine
      r = record p { state = Running q; turn = None; steps = p.steps + n; events = p.events + e; emitted = p.emitted ++ span spec q p.events (p.events + e) }

      early : All (λ x. x.0 ≤ p.steps + n) (take (p.events + e) all)
      early =
          subst (λ (z : List (ℕ × Event)). All (λ x. x.0 ≤ p.steps + n) z) (take-append-drop p.events (take (p.events + e) all))
          (All-append (λ x. x.0 ≤ p.steps + n) (take p.events (take (p.events + e) all)) (drop p.events (take (p.events + e) all))
          (subst (λ (z : List (ℕ × Event)). All (λ x. x.0 ≤ p.steps + n) z) (sym (take-take p.events (p.events + e) all (omega arith)))
          (All-weaker (λ x. x.0 ≤ p.steps) (λ x. x.0 ≤ p.steps + n) (λ x g. omega (arith, g)) (take p.events all) h.before)) t.none_early)

      go : (b : Bool) → nat_le (length all) (p.events + e) ≡ b → Stands (if b then rest_at spec q (part_of spec q).rest r else r)
      go true w =
          let o : length all ≤ p.events + e = leb-true (length all) (p.events + e) w in
          let v : length all ≡ p.events + e = omega (arith, o, t.within) in
          comes q (part_of spec q).rest r h.fitting v refl (t.stopped (inr (sym v)))
      go false w =
          let o : p.events + e < length all = leb-false (length all) (p.events + e) w in
          record { fitting = h.fitting; more = o; before = early; later = t.none_missed }

  kept : (budget n e : ℕ) (starved : Bool) (p : Pengine) (s : State) (t : Option ℕ) → TurnsAt spec budget s t p n e starved → StandsAt s p.steps p.events → Stands (turned_at spec n e starved s (record p { state = s; turn = None }))
  kept budget n e false p (Running q) (Some room) l h = turned q budget room n e p h l
  kept budget n e true p (Running q) (Some room) l h =
      ends_stands spec.destroys (emits event.Memory (record p { state = Running q; turn = None; steps = p.steps + n; events = p.events + e; emitted = p.emitted ++ span spec q p.events (p.events + e) }))
  kept budget n e starved p Idle t l h = absurd l
  kept budget n e starved p (Running q) None l h = absurd l
  kept budget n e starved p (state.More q) t l h = absurd l
  kept budget n e starved p (state.Prompting q) t l h = absurd l
  kept budget n e starved p Ended t l h = absurd l

  aborted : (s : State) (p : Pengine) → StandsAt s p.steps p.events → Stands (aborted_at spec s (struck (record p { state = s })))
  aborted Idle p h = tt
  aborted (Running q) p h = ends_stands spec.destroys (emits event.Abort (struck (record p { state = Running q })))
  aborted (state.More q) p h = ends_stands spec.destroys (emits event.Abort (struck (record p { state = state.More q })))
  aborted (state.Prompting q) p h = ends_stands spec.destroys (emits event.Abort (struck (record p { state = state.Prompting q })))
  aborted Ended p h = tt

  destroyed : (s : State) (p : Pengine) → Stands (handed_out (destroyed_at s (struck (record p { state = s }))))
  destroyed Idle p = tt
  destroyed (Running q) p = tt
  destroyed (state.More q) p = tt
  destroyed (state.Prompting q) p = tt
  destroyed Ended p = tt

  enters : (budget : ℕ) (e : Entry) (p : Pengine) → IsAllowed spec budget e p → Stands p → Stands (entered spec e p)
  enters budget (Sent r) p l h = h
  enters budget (Pulled m) p l h = h
  enters budget Abort p l h = aborted p.state p h
  enters budget Destroy p l h = destroyed p.state p
  enters budget Taken p l h = h
  enters budget (Given k n e starved false) p l h = h
  enters budget (Given k n e starved true) p l h = kept budget n e starved p p.state p.turn l.1 h

  all_stand : (es : List Entry) (p : Pengine) → ArePossible spec es p → Stands p → Stands (after spec es p)
  unfolding after ArePossible
  all_stand [] p l h = h
  all_stand (e ∷ es) p l h =
      let q : Pengine = entered spec e p in
      all_stand es (after_entry spec e p) l.1 (settled_stands (length q.mailbox) q (enters l.0.0 e p l.0.1 h))

  pub running : (es : List Entry) → ArePossible spec es made → (q : Query) → (after spec es made).state ≡ Running q → IsOn q (after spec es made).steps (after spec es made).events
  running es l q e = subst (λ s. StandsAt s (after spec es made).steps (after spec es made).events) e (all_stand es made l tt)

-- a legal list is possible
pub legal_possible : (spec : Spec) (budget : ℕ) (es : List Entry) (p : Pengine) → IsLegal spec budget es p → ArePossible spec es p
unfolding IsLegal ArePossible
legal_possible spec budget [] p l = tt
legal_possible spec budget (e ∷ es) p l = ((budget, l.0), legal_possible spec budget es (after_entry spec e p) l.1)
