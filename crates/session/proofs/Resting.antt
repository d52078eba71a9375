-- What a session comes to, call by call.
use Rattle.std.proofs.Common.{◌≡◌, ℕ, zero, suc, ◌+◌, ◌-◌, ◌≤◌, ◌<◌, ◌^◌, ◌⊎◌, inl, inr, Bool, true, false, ◌&&◌, List, [], ◌∷◌, ◌++◌, length, drop, nat_lt, nat_le, if◌then◌else◌, Option, Some, None, refl, ap, sym, subst, ◌∙◌, append_assoc, append-nil, length-append, eq-eqb, arith}
use Rattle.std.proofs.lemmas.Bool.{ltb-true}
use Rattle.std.proofs.Math.Seq.{drop-append_seam, drop-length}
use Rattle.event_core.specs.declared.event.Event.{Event}
use Rattle.event_core.specs.declared.event.Event.TheVariants as event
use Rattle.event_core.specs.declared.request.Request.{Request}
use Rattle.event_core.specs.declared.request.Request.TheVariants as request
use Rattle.event_core.specs.declared.rest.Rest.{Rest}
use Rattle.event_core.specs.declared.rest.Rest.TheVariants as rest
use Rattle.event_core.specs.Full.{Spec, Query, part_of, events_of, span, Place, Free, In, Closed, Reading, at, closes, gives_all_at, gives_all, consumes_at, step, ByAbort, ByDestroy, strikes_at}
use Rattle.event_core.proofs.Reading.{all_on}
use Rattle.event_core.proofs.Stepping.{front, closes_front, gives_all_front, step_front}
use Rattle.session.specs.After as state
use Rattle.session.specs.After.{State, Pengine, waiting, emits, ends, begins, fits, first_consumed, consumes_now, settled, Entry, Sent, Pulled, Abort, Taken, Given, rest_at, advances, turned_at, aborted_at, struck, entered, after_entry, after, made, most_waiting}
use Rattle.session.specs.Legal.{ArePossible, TurnsAt, IsAllowed}
use Rattle.session.specs.Turns.{Turns}
use Rattle.session.specs.declared.answers.Given.TheVariants as given
use Rattle.session.specs.declared.took.Took.TheVariants as took
use Rattle.session.specs.Answers.{is_turn, takes, takes_at, gives, last_of}
use Rattle.session.specs.Begun.{first_of}
use Rattle.session.specs.TurnsKept.{IsGone}
use Rattle.session.specs.Views.{Look, Idle, Running, Out, More, Prompting, Ended, View, Gone, TurnView, IsLook, IsKept, IsSeen, spec_seen, taken}
use Rattle.session.specs.Recorded.{stood, IsOut, IsRecord, IsRecorded, Lengthens, Takes, GivesBack, given_back}
use Rattle.session.specs.Resting.{place_of, comes, IsHome, IsStill, IsLed, Rests, Leads, Hears, RunsOn}
use Rattle.session.proofs.Schedule.{Lively, Stands, Agrees, Enters, place_at, seen, SoundAt, TurnAt, fits_stands, rests_here, settle_agrees, turn, entry_enters, made_agrees}
use Rattle.session.proofs.Growing.{after_append, after_one, after_none, entry_pulls}
use Rattle.session.proofs.Recording.{Ready, ready_of, possible_later, possible_head, gone_out}
use Rattle.session.proofs.Resolution.{resolution_lively}
use Rattle.session.proofs.Sandboxed.{kept_programs_resolve}
use Rattle.session.proofs.Seen.{settled_none, goes, waits_as, same_spec}
use Rattle.sandbox_walk.specs.Keeping.{KeepsSandbox}
use Rattle.program.specs.Loaded.{Loaded}

module _ (spec : Spec) where
  -- ---- the reading that the entries of a session agree with

  pub record Found (p : Pengine) : Type 0 where
    pub requests : List Request
    pub count : ℕ
    pub reading : Reading
    pub agrees : Agrees spec requests count reading p

  found_from : Lively spec → (es : List Entry) (rs : List Request) (c : ℕ) (x : Reading) (p : Pengine) → ArePossible spec es p → Agrees spec rs c x p → Found (after spec es p)
  unfolding ArePossible after
  found_from law [] rs c x p a h = record { requests = rs; count = c; reading = x; agrees = h }
  found_from law (e ∷ es) rs c x p a h =
      let t : Enters spec e p rs c x = entry_enters spec a.0.0 e p rs c x a.0.1 h in
      found_from law es t.still t.done t.reading (after_entry spec e p) a.1 (settle_agrees spec law (length (entered spec e p).mailbox) t.still t.done t.reading (entered spec e p) t.agrees)

  pub found : Lively spec → (es : List Entry) → ArePossible spec es made → Found (after spec es made)
  found law es a = found_from law es [] 0 (at Free (event.Create ∷ [])) made a (made_agrees spec)

  -- ---- what a pengine comes to, entry by entry

  end_of : (rs : List Request) (n : ℕ) (p : Pengine) (y : Reading) → Stands spec rs n p y → gives_all spec (seen p) ≡ gives_all spec y
  end_of rs n p y h = sym (ap (gives_all spec) h.here) ∙ all_on spec p.events y.place y.emitted h.below

  quiet : (p : Pengine) → p.mailbox ≡ [] → settled spec (length p.mailbox) p ≡ p
  quiet p e = ap (λ (ms : List Request). settled spec (length ms) p) e ∙ settled_none spec p

  -- what a kept turn leaves
  record Left (r p : Pengine) : Type 0 where
    pub mailbox : p.mailbox ≡ []
    pub turn : p.turn ≡ None
    pub steps : p.steps ≡ r.steps
    pub events : p.events ≡ r.events

  ends_left : (b : Bool) (r : Pengine) → r.mailbox ≡ [] → r.turn ≡ None → Left r (ends b r)
  ends_left true r m t = record { mailbox = refl; turn = t; steps = refl; events = refl }
  ends_left false r m t = record { mailbox = m; turn = t; steps = refl; events = refl }

  rest_left : (q : Query) (w : Rest) (r : Pengine) → r.mailbox ≡ [] → r.turn ≡ None → Left r (rest_at spec q w r)
  rest_left q rest.More r m t = record { mailbox = m; turn = t; steps = refl; events = refl }
  rest_left q rest.Prompting r m t = record { mailbox = m; turn = t; steps = refl; events = refl }
  rest_left q rest.Over r m t = ends_left spec.destroys r m t

  advances_left : (q : Query) (n e : ℕ) (p : Pengine) → p.mailbox ≡ [] → p.turn ≡ None → Left (record p { steps = n; events = e }) (advances spec q n e false p)
  advances_left q n e p m t = go (nat_le (length (events_of spec q)) e)
    where
      r : Pengine
      r = record p { steps = n; events = e; emitted = p.emitted ++ span spec q p.events e }

      go : (b : Bool) → Left (record p { steps = n; events = e }) (if b then rest_at spec q (part_of spec q).rest r else r)
      go true = let l : Left r (rest_at spec q (part_of spec q).rest r) = rest_left q (part_of spec q).rest r m t in record { mailbox = l.mailbox; turn = l.turn; steps = l.steps; events = l.events }
      go false = record { mailbox = m; turn = t; steps = refl; events = refl }

  -- a turn of the query came back, which didn't starve
  pub record Turned (p q : Pengine) (n e : ℕ) : Type 0 where
    pub comes : gives_all spec (seen q) ≡ gives_all spec (seen p)
    pub mailbox : q.mailbox ≡ []
    pub turn : q.turn ≡ None
    pub steps : q.steps ≡ p.steps + n
    pub events : q.events ≡ p.events + e
    pub moves : (0 < n) ⊎ (0 < e)

  kept_turn : (budget n e : ℕ) (p : Pengine) (s : State) (t : Option ℕ) → p.mailbox ≡ [] → TurnsAt spec budget s t p n e false → gives_all spec (seen (turned_at spec n e false s (record p { turn = None }))) ≡ gives_all spec (seen p) → Turned p (turned_at spec n e false s (record p { turn = None })) n e
  kept_turn budget n e p (state.Running q) (Some room) m l h =
      let k : Left (record p { turn = None; steps = p.steps + n; events = p.events + e }) (advances spec q (p.steps + n) (p.events + e) false (record p { turn = None })) = advances_left q (p.steps + n) (p.events + e) (record p { turn = None }) m refl in
      record { comes = h; mailbox = k.mailbox; turn = k.turn; steps = k.steps; events = k.events; moves = l.moves }
  kept_turn budget n e p (state.Running q) None m l h = absurd l
  kept_turn budget n e p state.Idle t m l h = absurd l
  kept_turn budget n e p (state.More q) t m l h = absurd l
  kept_turn budget n e p (state.Prompting q) t m l h = absurd l
  kept_turn budget n e p state.Ended t m l h = absurd l

  given_turned : (budget k n e : ℕ) (p : Pengine) → Found p → p.mailbox ≡ [] → IsAllowed spec budget (Given k n e false true) p → Turned p (after_entry spec (Given k n e false true) p) n e
  given_turned budget k n e p f m a =
      let h : Agrees spec f.requests f.count f.reading p = f.agrees in
      let q : Pengine = turned_at spec n e false p.state (record p { turn = None }) in
      let t : Stands spec h.later (f.count + length h.before) q _ = turn spec budget n e h.later (f.count + length h.before) p _ p.state p.turn a.1 h.stands in
      let r : Turned p q n e = kept_turn budget n e p p.state p.turn m a.1 (end_of _ _ q _ t ∙ sym (end_of _ _ p _ h.stands)) in
      subst (λ (z : Pengine). Turned p z n e) (sym (quiet q r.mailbox)) r

  pulled_is : (m : ℕ) (p : Pengine) → p.mailbox ≡ [] → after_entry spec (Pulled m) p ≡ record p { pulled = p.pulled + m }
  pulled_is m p e = quiet (record p { pulled = p.pulled + m }) e

  taken_is : (p : Pengine) → p.mailbox ≡ [] → after_entry spec Taken p ≡ record p { turn = Some (most_waiting - waiting p) }
  taken_is p e = quiet (record p { turn = Some (most_waiting - waiting p) }) e

  -- a request is consumed at once where the pengine rests
  pub record Asked (p q : Pengine) (r : Request) : Type 0 where
    pub comes : gives_all spec (seen q) ≡ front p.emitted (step spec r (place_at p.state p.events))
    pub mailbox : q.mailbox ≡ []
    pub turn : q.turn ≡ None
    pub pulled : q.pulled ≡ p.pulled

  -- what one request leaves
  record Fitted (r p : Pengine) : Type 0 where
    pub mailbox : p.mailbox ≡ []
    pub turn : p.turn ≡ None
    pub pulled : p.pulled ≡ r.pulled

  ends_fitted : (b : Bool) (r : Pengine) → r.mailbox ≡ [] → r.turn ≡ None → Fitted r (ends b r)
  ends_fitted true r m t = record { mailbox = refl; turn = t; pulled = refl }
  ends_fitted false r m t = record { mailbox = m; turn = t; pulled = refl }

  kept_fitted : (r p : Pengine) → p.mailbox ≡ r.mailbox → p.turn ≡ r.turn → p.pulled ≡ r.pulled → r.mailbox ≡ [] → r.turn ≡ None → Fitted r p
  kept_fitted r p a b c m t = record { mailbox = a ∙ m; turn = b ∙ t; pulled = c }

  begins_fitted : (a : _) (v : Option _) (r : Pengine) → r.mailbox ≡ [] → r.turn ≡ None → Fitted r (begins spec a v r)
  begins_fitted a None r m t = record { mailbox = m; turn = t; pulled = refl }
  begins_fitted a (Some e) r m t =
      let l : Fitted _ _ = ends_fitted spec.destroys (emits (event.Error e) (record r { number = suc r.number; steps = 0; events = 0 })) m t in
      record { mailbox = l.mailbox; turn = l.turn; pulled = l.pulled }

  stops_fitted : (r : Pengine) → r.mailbox ≡ [] → r.turn ≡ None → Fitted r (ends spec.destroys (emits event.Stop r))
  stops_fitted r m t = let l : Fitted _ _ = ends_fitted spec.destroys (emits event.Stop r) m t in record { mailbox = l.mailbox; turn = l.turn; pulled = l.pulled }

  fits_fitted : (s : State) (r : Request) (p : Pengine) → p.mailbox ≡ [] → p.turn ≡ None → Fitted p (fits spec s r p)
  fits_fitted state.Idle (request.Ask a) p m t = begins_fitted a (spec.refusal a) p m t
  fits_fitted state.Idle (request.Next c) p m t = record { mailbox = m; turn = t; pulled = refl }
  fits_fitted state.Idle request.Stop p m t = record { mailbox = m; turn = t; pulled = refl }
  fits_fitted state.Idle (request.Respond x) p m t = record { mailbox = m; turn = t; pulled = refl }
  fits_fitted (state.Running q) r p m t = record { mailbox = m; turn = t; pulled = refl }
  fits_fitted (state.More q) (request.Ask a) p m t = record { mailbox = m; turn = t; pulled = refl }
  fits_fitted (state.More q) (request.Next c) p m t = record { mailbox = m; turn = t; pulled = refl }
  fits_fitted (state.More q) request.Stop p m t = stops_fitted p m t
  fits_fitted (state.More q) (request.Respond x) p m t = record { mailbox = m; turn = t; pulled = refl }
  fits_fitted (state.Prompting q) (request.Ask a) p m t = record { mailbox = m; turn = t; pulled = refl }
  fits_fitted (state.Prompting q) (request.Next c) p m t = record { mailbox = m; turn = t; pulled = refl }
  fits_fitted (state.Prompting q) request.Stop p m t = record { mailbox = m; turn = t; pulled = refl }
  fits_fitted (state.Prompting q) (request.Respond x) p m t = record { mailbox = m; turn = t; pulled = refl }
  fits_fitted state.Ended r p m t = record { mailbox = m; turn = t; pulled = refl }

  still_turn : (s : State) (t : Option ℕ) → consumes_now s ≡ true → TurnAt s t → t ≡ None
  still_turn state.Idle t i h = h
  still_turn (state.Running q) t i h = cc
  still_turn (state.More q) t i h = h
  still_turn (state.Prompting q) t i h = h
  still_turn state.Ended t i h = cc

  both_true : (a b : Bool) → a ≡ true → b ≡ true → a && b ≡ true
  both_true a b x y = rw (x, y) refl

  consumed_at_once : (r : Request) (p : Pengine) → p.mailbox ≡ [] → consumes_now p.state ≡ true → nat_lt (waiting p) most_waiting ≡ true → after_entry spec (Sent r) p ≡ fits spec p.state r (record p { mailbox = []; consumed = suc p.consumed })
  consumed_at_once r p m i w =
      let one : (record p { mailbox = p.mailbox ++ r ∷ [] }) ≡ (record p { mailbox = r ∷ [] }) = ap (λ (ms : List Request). record p { mailbox = ms ++ r ∷ [] }) m in
      let q : Pengine = record p { mailbox = r ∷ [] } in
      ap (λ (z : Pengine). settled spec (length z.mailbox) z) one
      ∙ goes spec 0 q (both_true (consumes_now p.state) (nat_lt (waiting p) most_waiting) i w)
      ∙ settled_none spec (first_consumed spec (r ∷ []) q)

  sent_asked : Lively spec → (r : Request) (p : Pengine) → Found p → p.mailbox ≡ [] → consumes_now p.state ≡ true → nat_lt (waiting p) most_waiting ≡ true → Asked p (after_entry spec (Sent r) p) r
  sent_asked law r p f m i w =
      let h : Agrees spec f.requests f.count f.reading p = f.agrees in
      let o : Pengine = record p { mailbox = []; consumed = suc p.consumed } in
      let q : Pengine = fits spec p.state r o in
      let s : Stands spec [] (suc p.consumed) q (consumes_at spec r (place_at p.state p.events) p.emitted) = fits_stands spec law p.state r o i h.stands.sound h.stands.turn in
      let l : Fitted o q = fits_fitted p.state r o refl (still_turn p.state p.turn i h.stands.turn) in
      subst (λ (z : Pengine). Asked p z r) (sym (consumed_at_once r p m i w)) (record {
        comes = end_of _ _ q _ s ∙ step_front spec r (place_at p.state p.events) p.emitted;
        mailbox = l.mailbox;
        turn = l.turn;
        pulled = l.pulled;
      })

  -- an abort
  pub record Broken (p q : Pengine) : Type 0 where
    pub comes : gives_all spec (seen q) ≡ strikes_at spec ByAbort (place_at p.state p.events) p.emitted
    pub mailbox : q.mailbox ≡ []
    pub turn : q.turn ≡ None
    pub pulled : q.pulled ≡ p.pulled

  abbrev Ends : Bool → Pengine → Reading → Type 0
  Ends b p y =
      (gives_all spec (seen (ends b (emits event.Abort (struck p)))) ≡ y) × ((ends b (emits event.Abort (struck p))).mailbox ≡ [])
      × ((ends b (emits event.Abort (struck p))).turn ≡ None) × ((ends b (emits event.Abort (struck p))).pulled ≡ p.pulled)

  ends_broken : (b : Bool) (p : Pengine) (y : Reading) → gives_all spec (seen (ends b (emits event.Abort (struck p)))) ≡ y → Ends b p y
  ends_broken true p y h = (h, refl, refl, refl)
  ends_broken false p y h = (h, refl, refl, refl)

  closed_as : (b : Bool) (p : Pengine) → gives_all spec (seen (ends b (emits event.Abort (struck p)))) ≡ closes b (p.emitted ++ event.Abort ∷ [])
  closed_as true p = refl
  closed_as false p = refl

  aborted_broken : (s : State) (p : Pengine) → Broken (record p { state = s }) (aborted_at spec s (struck (record p { state = s })))
  aborted_broken state.Idle p = record { comes = refl; mailbox = refl; turn = refl; pulled = refl }
  aborted_broken (state.Running q) p = let r : Pengine = record p { state = state.Running q } in let h : Ends spec.destroys r _ = ends_broken spec.destroys r _ (closed_as spec.destroys r) in record { comes = h.0; mailbox = h.1; turn = h.2; pulled = h.3 }
  aborted_broken (state.More q) p = let r : Pengine = record p { state = state.More q } in let h : Ends spec.destroys r _ = ends_broken spec.destroys r _ (closed_as spec.destroys r) in record { comes = h.0; mailbox = h.1; turn = h.2; pulled = h.3 }
  aborted_broken (state.Prompting q) p = let r : Pengine = record p { state = state.Prompting q } in let h : Ends spec.destroys r _ = ends_broken spec.destroys r _ (closed_as spec.destroys r) in record { comes = h.0; mailbox = h.1; turn = h.2; pulled = h.3 }
  aborted_broken state.Ended p = record { comes = refl; mailbox = refl; turn = refl; pulled = refl }

  abort_broken : (p : Pengine) → Broken p (after_entry spec Abort p)
  abort_broken p =
      let h : Broken p (aborted_at spec p.state (struck p)) = aborted_broken p.state p in
      subst (λ (z : Pengine). Broken p z) (sym (quiet (aborted_at spec p.state (struck p)) h.mailbox)) h

-- ---- how it looks

-- without the first n events
abbrev cut : ℕ → Reading → Reading
cut n x = at x.place (drop n x.emitted)

look_place : (l : Look) (s : State) (t : Option ℕ) (e e' : ℕ) → IsHome l → e ≡ e' → IsLook l s t → place_of l e ≡ place_at s e'
look_place Idle s t e e' h k l = rw (l.0) refl
look_place (Running q) s t e e' h k l = rw (l.0, k) refl
look_place (Out room further) s t e e' h k l = absurd h
look_place (More q) s t e e' h k l = rw (l.0, k) refl
look_place (Prompting q) s t e e' h k l = rw (l.0, k) refl
look_place Ended s t e e' h k l = rw (l.0) refl

look_home : (l : Look) (s : State) (t : Option ℕ) → t ≡ None → IsLook l s t → IsHome l
look_home Idle s t e l = tt
look_home (Running q) s t e l = tt
look_home (Out room further) s t e l = let w : None ≡ Some room = sym e ∙ l.1 in cc
look_home (More q) s t e l = tt
look_home (Prompting q) s t e l = tt
look_home Ended s t e l = tt

-- what it comes to is what its pengine comes to, without the events that were pulled
pub comes_is : (v : View) (p : Pengine) → IsSeen v p → IsHome v.look → comes v ≡ cut p.pulled (gives_all (spec_seen v) (seen p))
comes_is v p h home =
    let z : Spec = spec_seen v in
    let k : IsKept v p = h.kept in
    let place : place_of v.look v.events ≡ place_at p.state p.events = look_place v.look p.state p.turn v.events p.events home k.events h.look in
    let all : gives_all z (seen p) ≡ front k.before (gives_all_at z (place_at p.state p.events) v.queue) =
    ap (λ (es : List Event). gives_all_at z (place_at p.state p.events) es) k.emitted ∙ gives_all_front z (place_at p.state p.events) k.before v.queue in
    let y : Reading = gives_all_at z (place_at p.state p.events) v.queue in
    ap (λ (w : Place). gives_all_at z w v.queue) place
    ∙ ap (λ (es : List Event). at y.place es) (sym (drop-append_seam k.before y.emitted) ∙ ap (λ (n : ℕ). drop n (k.before ++ y.emitted)) k.handed)
    ∙ ap (λ (x : Reading). cut p.pulled x) (sym all)

-- ---- the calls

-- the pengine after one more entry, over the spec of before
one_entry : (v w : View) (es : List Entry) (e : Entry) → w.program ≡ v.program → w.settings ≡ v.settings → IsRecord (es ++ e ∷ []) w → IsSeen w (after_entry (spec_seen v) e (stood v es))
one_entry v w es e c s r =
    subst (λ (z : Pengine). IsSeen w z) (after_append (spec_seen v) es (e ∷ []) made ∙ after_one (spec_seen v) e (stood v es))
    (subst (λ (z : Spec). IsSeen w (after z (es ++ e ∷ []) made)) (same_spec w.program v.program w.settings v.settings c s) r.seen)

-- and the entry was allowed
allowed_entry : (v w : View) (es : List Entry) (e : Entry) → w.program ≡ v.program → w.settings ≡ v.settings → IsRecord (es ++ e ∷ []) w → (budget : ℕ) × IsAllowed (spec_seen v) budget e (stood v es)
allowed_entry v w es e c s r =
    possible_head (spec_seen v) e [] (stood v es) (possible_later (spec_seen v) es (e ∷ []) made
    (subst (λ (z : Spec). ArePossible z (es ++ e ∷ []) made) (same_spec w.program v.program w.settings v.settings c s) r.possible))

lively : (v : View) → KeepsSandbox v.program → Lively (spec_seen v)
lively v keeps = resolution_lively (spec_seen v) (kept_programs_resolve v.program v.settings keeps)

record_more : (v w : View) (es : List Entry) → w.program ≡ v.program → KeepsSandbox v.program → IsRecord es w → IsRecorded w
record_more v w es c keeps r = record { keeps = subst (λ (l : Loaded). KeepsSandbox l) (sym c) keeps; entries = es; recorded = r }

look_turn : (l : Look) (s : State) (t : Option ℕ) → IsHome l → IsLook l s t → t ≡ None
look_turn Idle s t h l = l.1
look_turn (Running q) s t h l = l.1
look_turn (Out room further) s t h l = absurd h
look_turn (More q) s t h l = l.1
look_turn (Prompting q) s t h l = l.1
look_turn Ended s t h l = l.1

-- what a session comes to after a call, by the pengine after it
comes_after : (v w : View) (p q : Pengine) (k : ℕ) (x : Reading) → w.program ≡ v.program → w.settings ≡ v.settings → IsSeen w q → IsHome w.look → q.pulled ≡ k → gives_all (spec_seen v) (seen q) ≡ x → comes w ≡ cut k x
comes_after v w p q k x c s h home pulled all =
    comes_is w q h home
    ∙ ap (λ (n : ℕ). cut n (gives_all (spec_seen w) (seen q))) pulled
    ∙ ap (λ (z : Spec). cut k (gives_all z (seen q))) (same_spec w.program v.program w.settings v.settings c s)
    ∙ ap (λ (y : Reading). cut k y) all

drop_one : {A : Type 0} (n : ℕ) (xs : List A) → drop (suc n) xs ≡ drop 1 (drop n xs)
drop_one zero xs = refl
drop_one (suc n) [] = refl
drop_one (suc n) (x ∷ xs) = drop_one n xs

drop_more : {A : Type 0} (n : ℕ) (xs : List A) → drop (n + 1) xs ≡ drop 1 (drop n xs)
drop_more n xs = let e : n + 1 ≡ suc n = omega arith in ap (λ (k : ℕ). drop k xs) e ∙ drop_one n xs

-- an event is pulled
pub hears : (v w : View) (e : Event) (es : List Event) → IsLed v → v.queue ≡ e ∷ es → Lengthens (Pulled 1 ∷ []) v w → Hears v e w
hears v w e es led queue l =
    let z : Spec = spec_seen v in
    let r : IsRecorded v = led.recorded in
    let p : Pengine = stood v r.entries in
    let m : p.mailbox ≡ [] = sym r.recorded.seen.kept.mailbox ∙ led.mailbox in
    let q : Pengine = record p { pulled = p.pulled + 1 } in
    let more : IsRecord (r.entries ++ Pulled 1 ∷ []) w = l.recorded r.entries r.recorded in
    let h : IsSeen w q = subst (λ (x : Pengine). IsSeen w x) (pulled_is z 1 p m) (one_entry v w r.entries (Pulled 1) l.program l.settings more) in
    let home : IsHome w.look = look_home w.look q.state q.turn (look_turn v.look p.state p.turn led.home r.recorded.seen.look) h.look in
    let was : comes v ≡ cut p.pulled (gives_all z (seen p)) = comes_is v p r.recorded.seen led.home in
    let first : comes v ≡ front (e ∷ []) (gives_all_at z (place_of v.look v.events) es) = ap (λ (qs : List Event). gives_all_at z (place_of v.look v.events) qs) queue ∙ gives_all_front z (place_of v.look v.events) (e ∷ []) es in
    let y : Reading = gives_all_at z (place_of v.look v.events) es in
    let now : comes w ≡ y =
    comes_after v w p q (p.pulled + 1) (gives_all z (seen p)) l.program l.settings h home refl refl
    ∙ ap (λ (es : List Event). at (gives_all z (seen p)).place es) (drop_more p.pulled (gives_all z (seen p)).emitted)
    ∙ ap (λ (x : Reading). cut 1 x) (sym was ∙ first) in
    record {
      led = record { recorded = record_more v w (r.entries ++ Pulled 1 ∷ []) l.program r.keeps more; mailbox = h.kept.mailbox ∙ m; home = home };
      program = l.program;
      settings = l.settings;
      heard = first ∙ ap (λ (x : Reading). at x.place (e ∷ x.emitted)) (sym now);
    }

-- a turn that was taken is kept at once
pub kept_at_once : (v : View) (t : TurnView) → takes v ≡ took.Turn t → gives (taken v) t.number ≡ given.Kept
kept_at_once v t e =
    let r : Ready v t = ready_of v t e in
    rw (r.turn, r.runs) (ap (λ (b : Bool). if b then given.Kept else given.Dropped) (eq-eqb v.number v.number refl))

-- a turn is taken, goes, and comes back
pub runs_on : (v w : View) (t u : TurnView) (g : Gone) → IsLed v → takes v ≡ took.Turn t → Takes v t (taken v) → u ≡ record t { gone = Some g } → IsGone u g → g.starved ≡ false → GivesBack (taken v) u g true w → RunsOn v w
runs_on v w t u g led e tk gone bounds ample back =
    let z : Spec = spec_seen v in
    let r : IsRecorded v = led.recorded in
    let p : Pengine = stood v r.entries in
    let m : p.mailbox ≡ [] = sym r.recorded.seen.kept.mailbox ∙ led.mailbox in
    let es : List Entry = r.entries ++ Taken ∷ [] in
    let one : IsRecord es (taken v) = tk.lengthens.recorded r.entries r.recorded in
    let o : Pengine = stood (taken v) es in
    let o_is : o ≡ record p { turn = Some (most_waiting - waiting p) } = after_append z r.entries (Taken ∷ []) made ∙ after_one z Taken p ∙ taken_is z p m in
    let om : o.mailbox ≡ [] = ap (λ (x : Pengine). x.mailbox) o_is ∙ m in
    let k : ℕ = u.number in
    let n : ℕ = g.steps in
    let c : ℕ = length g.events in
    let same : given_back u g true ≡ Given k n c false true = ap (λ (b : Bool). Given k n c b true) ample in
    let two : IsRecord (es ++ Given k n c false true ∷ []) w = subst (λ (x : Entry). IsRecord (es ++ x ∷ []) w) same (back.recorded es one (subst (λ (x : TurnView). IsOut o x) (sym gone) (gone_out o t g (tk.out r.entries r.recorded)))) in
    let q : Pengine = after_entry z (Given k n c false true) o in
    let h : IsSeen w q = one_entry (taken v) w es (Given k n c false true) back.program back.settings two in
    let a : (budget : ℕ) × IsAllowed z budget (Given k n c false true) o = allowed_entry (taken v) w es (Given k n c false true) back.program back.settings two in
    let f : Turned z o q n c = given_turned z a.0 k n c o (found z (lively v r.keeps) es one.possible) om a.1 in
    let home : IsHome w.look = look_home w.look q.state q.turn f.turn h.look in
    let ready : Ready v t = ready_of v t e in
    let start : (u.steps ≡ v.steps) × (u.events ≡ v.events) = rw (gone, ready.turn) (refl, refl) in
    let steps : w.steps ≡ v.steps + n = h.kept.steps ∙ f.steps ∙ ap (λ (x : ℕ). x + n) (ap (λ (x : Pengine). x.steps) o_is ∙ sym r.recorded.seen.kept.steps) in
    let events : w.events ≡ v.events + c = h.kept.events ∙ f.events ∙ ap (λ (x : ℕ). x + c) (ap (λ (x : Pengine). x.events) o_is ∙ sym r.recorded.seen.kept.events) in
    record {
      leads = record {
        led = record { recorded = record_more v w (es ++ Given k n c false true ∷ []) back.program r.keeps two; mailbox = h.kept.mailbox ∙ f.mailbox; home = home };
        program = back.program;
        settings = back.settings;
        comes_to =
            comes_after v w p q p.pulled (gives_all z (seen p)) back.program back.settings h home
            (entry_pulls z (Given k n c false true) o ∙ ap (λ (x : Pengine). x.pulled) o_is)
            (f.comes ∙ ap (λ (x : Pengine). gives_all z (seen x)) o_is)
            ∙ sym (comes_is v p r.recorded.seen led.home);
      };
      further = elim f.moves [ inl some ↦ omega (arith, some, steps, events) | inr some ↦ omega (arith, some, steps, events) ];
      steps = subst (λ (x : ℕ). x < 2 ^ 64) (ap (λ (x : ℕ). x + n) start.0 ∙ sym steps) bounds.steps;
      events = subst (λ (x : ℕ). x < 2 ^ 64) (ap (λ (x : ℕ). x + c) start.1 ∙ sym events) bounds.events;
    }

-- ---- at rest

still_consumes : (l : Look) (s : State) (t : Option ℕ) → IsStill l → (l ≡ Ended → ⊥) → IsLook l s t → consumes_now s ≡ true
still_consumes Idle s t i n l = rw (l.0) refl
still_consumes (Running q) s t i n l = absurd i
still_consumes (Out room further) s t i n l = absurd i
still_consumes (More q) s t i n l = rw (l.0) refl
still_consumes (Prompting q) s t i n l = rw (l.0) refl
still_consumes Ended s t i n l = absurd (n refl)

still_rests : (spec : Spec) (l : Look) (s : State) (t : Option ℕ) (e : ℕ) (es : List Event) → IsStill l → SoundAt spec s e → IsLook l s t → gives_all_at spec (place_at s e) es ≡ at (place_at s e) es
still_rests spec Idle s t e es i h l = rests_here spec s e es (still_consumes Idle s t i (λ x. cc) l) h
still_rests spec (Running q) s t e es i h l = absurd i
still_rests spec (Out room further) s t e es i h l = absurd i
still_rests spec (More q) s t e es i h l = rests_here spec s e es (still_consumes (More q) s t i (λ x. cc) l) h
still_rests spec (Prompting q) s t e es i h l = rests_here spec s e es (still_consumes (Prompting q) s t i (λ x. cc) l) h
still_rests spec Ended s t e es i h l = rw (l.0) refl

-- the pengine of a session that rests: all its events were pulled, and it stands where it comes to
record Resting (v : View) (p : Pengine) : Type 0 where
  pub pulled : length p.emitted ≡ p.pulled
  pub rests : gives_all (spec_seen v) (seen p) ≡ seen p
  pub place : (comes v).place ≡ place_at p.state p.events
  pub none : comes v ≡ at (place_at p.state p.events) []

rests_at : (v : View) (led : IsLed v) → Rests v → Resting v (stood v led.recorded.entries)
rests_at v led h =
    let z : Spec = spec_seen v in
    let r : IsRecorded v = led.recorded in
    let p : Pengine = stood v r.entries in
    let k : IsKept v p = r.recorded.seen.kept in
    let f : Found z p = found z (lively v r.keeps) r.entries r.recorded.possible in
    let emitted : p.emitted ≡ k.before = k.emitted ∙ ap (λ (es : List Event). k.before ++ es) h.queue ∙ append-nil k.before in
    let pulled : length p.emitted ≡ p.pulled = ap (λ (es : List Event). length es) emitted ∙ k.handed in
    let rests : gives_all z (seen p) ≡ seen p = still_rests z v.look p.state p.turn p.events p.emitted h.still f.agrees.stands.sound r.recorded.seen.look in
    let comes_to : comes v ≡ cut p.pulled (seen p) = comes_is v p r.recorded.seen led.home ∙ ap (λ (x : Reading). cut p.pulled x) rests in
    let none : drop p.pulled p.emitted ≡ [] = ap (λ (n : ℕ). drop n p.emitted) (sym pulled) ∙ drop-length p.emitted in
    record {
      pulled = pulled;
      rests = rests;
      place = ap (λ (x : Reading). x.place) comes_to;
      none = comes_to ∙ ap (λ (es : List Event). at (place_at p.state p.events) es) none;
    }

-- nothing is to come
pub none_comes : (v : View) → IsLed v → Rests v → (comes v).emitted ≡ []
none_comes v led h = ap (λ (x : Reading). x.emitted) (rests_at v led h).none

-- events behind those that were pulled
cut_front : (n : ℕ) (es : List Event) (x : Reading) → length es ≡ n → cut n (front es x) ≡ x
cut_front n es x e = ap (λ (fs : List Event). at x.place fs) (ap (λ (k : ℕ). drop k (es ++ x.emitted)) (sym e) ∙ drop-append_seam es x.emitted)

-- what is sent is consumed at once
pub asks : (v w : View) (r : Request) → IsLed v → Rests v → (v.look ≡ Ended → ⊥) → Lengthens (Sent r ∷ []) v w → Leads v w (step (spec_seen v) r (comes v).place)
asks v w r led h live l =
    let z : Spec = spec_seen v in
    let d : IsRecorded v = led.recorded in
    let p : Pengine = stood v d.entries in
    let m : p.mailbox ≡ [] = sym d.recorded.seen.kept.mailbox ∙ led.mailbox in
    let t : Resting v p = rests_at v led h in
    let q : Pengine = after_entry z (Sent r) p in
    let more : IsRecord (d.entries ++ Sent r ∷ []) w = l.recorded d.entries d.recorded in
    let s : IsSeen w q = one_entry v w d.entries (Sent r) l.program l.settings more in
    let i : consumes_now p.state ≡ true = still_consumes v.look p.state p.turn h.still live d.recorded.seen.look in
    let few : nat_lt (waiting p) most_waiting ≡ true = rw (waits_as v p d.recorded.seen.kept, h.queue) refl in
    let f : Asked z p q r = sent_asked z (lively v d.keeps) r p (found z (lively v d.keeps) d.entries d.recorded.possible) m i few in
    let home : IsHome w.look = look_home w.look q.state q.turn f.turn s.look in
    record {
      led = record { recorded = record_more v w (d.entries ++ Sent r ∷ []) l.program d.keeps more; mailbox = s.kept.mailbox ∙ f.mailbox; home = home };
      program = l.program;
      settings = l.settings;
      comes_to =
          comes_after v w p q p.pulled (front p.emitted (step z r (place_at p.state p.events))) l.program l.settings s home f.pulled f.comes
          ∙ cut_front p.pulled p.emitted (step z r (place_at p.state p.events)) t.pulled
          ∙ ap (λ (x : Place). step z r x) (sym t.place);
    }

strikes_front : (spec : Spec) (x : Place) (es : List Event) → strikes_at spec ByAbort x es ≡ front es (strikes_at spec ByAbort x [])
strikes_front spec Free es = ap (λ (fs : List Event). at Free fs) (sym (append-nil es))
strikes_front spec (In q g) es = closes_front spec spec.destroys es (event.Abort ∷ [])
strikes_front spec Closed es = ap (λ (fs : List Event). at Closed fs) (sym (append-nil es))

-- an abort
pub breaks_off : (v w : View) → IsLed v → Rests v → Lengthens (Abort ∷ []) v w → Leads v w (strikes_at (spec_seen v) ByAbort (comes v).place [])
breaks_off v w led h l =
    let z : Spec = spec_seen v in
    let d : IsRecorded v = led.recorded in
    let p : Pengine = stood v d.entries in
    let t : Resting v p = rests_at v led h in
    let q : Pengine = after_entry z Abort p in
    let more : IsRecord (d.entries ++ Abort ∷ []) w = l.recorded d.entries d.recorded in
    let s : IsSeen w q = one_entry v w d.entries Abort l.program l.settings more in
    let f : Broken z p q = abort_broken z p in
    let home : IsHome w.look = look_home w.look q.state q.turn f.turn s.look in
    record {
      led = record { recorded = record_more v w (d.entries ++ Abort ∷ []) l.program d.keeps more; mailbox = s.kept.mailbox ∙ f.mailbox; home = home };
      program = l.program;
      settings = l.settings;
      comes_to =
          comes_after v w p q p.pulled (strikes_at z ByAbort (place_at p.state p.events) p.emitted) l.program l.settings s home f.pulled f.comes
          ∙ ap (λ (x : Reading). cut p.pulled x) (strikes_front z (place_at p.state p.events) p.emitted)
          ∙ cut_front p.pulled p.emitted (strikes_at z ByAbort (place_at p.state p.events) []) t.pulled
          ∙ ap (λ (x : Place). strikes_at z ByAbort x []) (sym t.place);
    }

-- where no turn is given and no event waits, nothing runs
still_of : (v : View) (l : Look) → v.look ≡ l → v.queue ≡ [] → IsHome l → is_turn (takes_at v l) ≡ false → IsStill l
still_of v Idle e q h t = tt
still_of v (Running x) e q h t = let w : is_turn (takes_at v (Running x)) ≡ true = rw (q) refl in cc
still_of v (Out room further) e q h t = absurd h
still_of v (More x) e q h t = tt
still_of v (Prompting x) e q h t = tt
still_of v Ended e q h t = tt

pub rests_of : (v : View) → v.queue ≡ [] → IsHome v.look → is_turn (takes v) ≡ false → Rests v
rests_of v q h t = record { queue = q; still = still_of v v.look refl q h t }

-- where it has ended it comes to the end, and where it hasn't it comes elsewhere
pub ended_closed : (v : View) → v.look ≡ Ended → (comes v).place ≡ Closed
ended_closed v e = rw (e) refl

not_closed : (l : Look) (s : State) (t : Option ℕ) (e : ℕ) → IsStill l → (l ≡ Ended → ⊥) → IsLook l s t → place_at s e ≡ Closed → ⊥
not_closed Idle s t e i n l c = let w : place_at state.Idle e ≡ Closed = subst (λ (x : State). place_at x e ≡ Closed) l.0 c in cc
not_closed (Running q) s t e i n l c = absurd i
not_closed (Out room further) s t e i n l c = absurd i
not_closed (More q) s t e i n l c = let w : place_at (state.More q) e ≡ Closed = subst (λ (x : State). place_at x e ≡ Closed) l.0 c in cc
not_closed (Prompting q) s t e i n l c = let w : place_at (state.Prompting q) e ≡ Closed = subst (λ (x : State). place_at x e ≡ Closed) l.0 c in cc
not_closed Ended s t e i n l c = absurd (n refl)

pub open_elsewhere : (v : View) → IsLed v → Rests v → (v.look ≡ Ended → ⊥) → (comes v).place ≡ Closed → ⊥
open_elsewhere v led h live c =
    let p : Pengine = stood v led.recorded.entries in
    not_closed v.look p.state p.turn p.events h.still live led.recorded.recorded.seen.look (sym (rests_at v led h).place ∙ c)

-- a session that was just made
pub begins_led : (v : View) → KeepsSandbox v.program → IsRecord [] v → IsLed v × (comes v ≡ at Free [])
begins_led v keeps r =
    let s : IsSeen v made = subst (λ (p : Pengine). IsSeen v p) (after_none (spec_seen v) made) r.seen in
    let home : IsHome v.look = look_home v.look made.state made.turn refl s.look in
    (record { recorded = record { keeps = keeps; entries = []; recorded = r }; mailbox = s.kept.mailbox; home = home }, comes_is v made s home)

-- the events of a session that is destroyed at rest
last_events : (spec : Spec) (l : Look) (s : State) (t : Option ℕ) (e : ℕ) → IsStill l → IsLook l s t → last_of l ≡ (strikes_at spec ByDestroy (place_at s e) []).emitted
last_events spec Idle s t e i l = rw (l.0) refl
last_events spec (Running q) s t e i l = absurd i
last_events spec (Out room further) s t e i l = absurd i
last_events spec (More q) s t e i l = rw (l.0) refl
last_events spec (Prompting q) s t e i l = rw (l.0) refl
last_events spec Ended s t e i l = rw (l.0) refl

pub last_told : (v : View) → IsLed v → Rests v → v.queue ++ last_of v.look ≡ (strikes_at (spec_seen v) ByDestroy (comes v).place []).emitted
last_told v led h =
    let p : Pengine = stood v led.recorded.entries in
    ap (λ (es : List Event). es ++ last_of v.look) h.queue
    ∙ last_events (spec_seen v) v.look p.state p.turn p.events h.still led.recorded.recorded.seen.look
    ∙ ap (λ (x : Place). (strikes_at (spec_seen v) ByDestroy x []).emitted) (sym (rests_at v led h).place)
