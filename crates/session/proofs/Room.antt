-- The mailbox and the queue of a pengine are bounded.
use Rattle.std.proofs.Common.{◌≡◌, ℕ, zero, suc, ◌+◌, ◌-◌, ◌≤◌, ◌<◌, Bool, true, false, ◌&&◌, List, [], ◌∷◌, ◌++◌, length, nat_le, nat_lt, if◌then◌else◌, Option, Some, None, refl, ap, ◌∙◌, length-append, length-take, length-drop, arith}
use Rattle.std.proofs.lemmas.Bool.{ltb-true}
use Rattle.std.proofs.lemmas.List.{length-map}
use Rattle.event_core.specs.declared.event.Event.{Event}
use Rattle.event_core.specs.declared.event.Event.TheVariants as event
use Rattle.event_core.specs.declared.request.Request.{Request}
use Rattle.event_core.specs.declared.request.Request.TheVariants as request
use Rattle.event_core.specs.declared.rest.Rest.{Rest}
use Rattle.event_core.specs.declared.rest.Rest.TheVariants as rest
use Rattle.event_core.specs.Requests.{kind_of}
use Rattle.event_core.specs.Full.{Spec, Query, part_of, events_of, span}
use Rattle.session.specs.After as state
use Rattle.session.specs.After.{State, Idle, Running, Ended, Pengine, waiting, emits, ends, begins, fits, first_consumed, consumes_now, settled, Entry, Sent, Pulled, Abort, Destroy, Taken, Given, rest_at, advances, turned_at, aborted_at, destroyed_at, struck, handed_out, entered, after_entry, after, made, most_waiting}
use Rattle.session.specs.Legal.{IsRunning, TurnsAt, IsAllowed, ArePossible}
use Rattle.session.specs.Laws.{NoMoreWait}

-- how many events may wait
abbrev pub places : State → ℕ
places Idle = 65
places (Running q) = 64
places (state.More q) = 64
places (state.Prompting q) = 64
places Ended = 66

-- a turn that is out has its room
abbrev pub RoomAt : State → Option ℕ → (emitted pulled : ℕ) → Type 0
RoomAt (Running q) (Some room) n m = n + room ≤ m + 64
RoomAt (Running q) None n m = Unit {0}
RoomAt s t n m = t ≡ None

pub record Roomy (p : Pengine) : Type 0 where
  pub pulled : p.pulled ≤ length p.emitted
  pub queue : length p.emitted ≤ p.pulled + places p.state
  pub box : length p.mailbox ≤ 64
  pub turn : RoomAt p.state p.turn (length p.emitted) p.pulled

said : (p : Pengine) (e : Event) → length (p.emitted ++ e ∷ []) ≡ suc (length p.emitted)
said p e = length-append p.emitted (e ∷ []) ∙ one (length p.emitted)
  where
    one : (n : ℕ) → n + 1 ≡ suc n
    one n = omega arith

ends_roomy : (b : Bool) (p : Pengine) → p.turn ≡ None → p.pulled ≤ length p.emitted → length p.emitted ≤ p.pulled + 65 → length p.mailbox ≤ 64 → Roomy (ends b p)
ends_roomy true p t a q m = record { pulled = omega (arith, said p event.Destroy); queue = omega (arith, said p event.Destroy); box = omega arith; turn = t }
ends_roomy false p t a q m = record { pulled = a; queue = q; box = m; turn = t }

-- one event, and the query ends
says_ends : (b : Bool) (e : Event) (p : Pengine) → p.turn ≡ None → p.pulled ≤ length p.emitted → length p.emitted ≤ p.pulled + 64 → length p.mailbox ≤ 64 → Roomy (ends b (emits e p))
says_ends b e p t a q m = ends_roomy b (emits e p) t (omega (arith, said p e)) (omega (arith, said p e)) m

no_turn : (q : Query) (t : Option ℕ) (n m : ℕ) → t ≡ None → RoomAt (Running q) t n m
no_turn q None n m h = tt
no_turn q (Some r) n m h = cc

runs_roomy : (q : Query) (p : Pengine) → p.turn ≡ None → p.pulled ≤ length p.emitted → length p.emitted ≤ p.pulled + 64 → length p.mailbox ≤ 64 → Roomy (record p { state = Running q })
runs_roomy q p t a k m = record { pulled = a; queue = k; box = m; turn = no_turn q p.turn _ _ t }

-- one event in a state of rest
says_roomy : (s : State) (e : Event) (p : Pengine) → consumes_now s ≡ true → p.turn ≡ None → p.pulled ≤ length p.emitted → length p.emitted < p.pulled + 64 → length p.mailbox ≤ 64 → Roomy (emits e (record p { state = s }))
says_roomy Idle e p i t a k m = record { pulled = omega (arith, said p e); queue = omega (arith, said p e); box = m; turn = t }
says_roomy (Running q) e p i t a k m = cc
says_roomy (state.More q) e p i t a k m = record { pulled = omega (arith, said p e); queue = omega (arith, said p e); box = m; turn = t }
says_roomy (state.Prompting q) e p i t a k m = record { pulled = omega (arith, said p e); queue = omega (arith, said p e); box = m; turn = t }
says_roomy Ended e p i t a k m = cc

fits_roomy : (spec : Spec) (s : State) (r : Request) (p : Pengine) → consumes_now s ≡ true → p.turn ≡ None → p.pulled ≤ length p.emitted → length p.emitted < p.pulled + 64 → length p.mailbox ≤ 64 → Roomy (fits spec s r (record p { state = s }))
fits_roomy spec Idle (request.Ask x) p i t a k m = go (spec.refusal x)
  where
    go : (v : Option _) → Roomy (begins spec x v (record p { state = Idle }))
    go None = runs_roomy (record { asked = x; requests = [] }) (record p { number = suc p.number; steps = 0; events = 0 }) t a (omega arith) m
    go (Some e) = says_ends spec.destroys (event.Error e) (record p { state = Idle; number = suc p.number; steps = 0; events = 0 }) t a (omega arith) m
fits_roomy spec Idle (request.Next c) p i t a k m = says_roomy Idle (event.Protocol (kind_of (request.Next c))) p i t a k m
fits_roomy spec Idle request.Stop p i t a k m = says_roomy Idle (event.Protocol (kind_of request.Stop)) p i t a k m
fits_roomy spec Idle (request.Respond x) p i t a k m = says_roomy Idle (event.Protocol (kind_of (request.Respond x))) p i t a k m
fits_roomy spec (Running q) r p i t a k m = cc
fits_roomy spec (state.More q) (request.Ask x) p i t a k m = says_roomy (state.More q) (event.Protocol (kind_of (request.Ask x))) p i t a k m
fits_roomy spec (state.More q) (request.Next c) p i t a k m = runs_roomy (record q { requests = q.requests ++ request.Next c ∷ [] }) p t a (omega arith) m
fits_roomy spec (state.More q) request.Stop p i t a k m = says_ends spec.destroys event.Stop (record p { state = state.More q }) t a (omega arith) m
fits_roomy spec (state.More q) (request.Respond x) p i t a k m = says_roomy (state.More q) (event.Protocol (kind_of (request.Respond x))) p i t a k m
fits_roomy spec (state.Prompting q) (request.Ask x) p i t a k m = says_roomy (state.Prompting q) (event.Protocol (kind_of (request.Ask x))) p i t a k m
fits_roomy spec (state.Prompting q) (request.Next c) p i t a k m = says_roomy (state.Prompting q) (event.Protocol (kind_of (request.Next c))) p i t a k m
fits_roomy spec (state.Prompting q) request.Stop p i t a k m = says_roomy (state.Prompting q) (event.Protocol (kind_of request.Stop)) p i t a k m
fits_roomy spec (state.Prompting q) (request.Respond x) p i t a k m = runs_roomy (record q { requests = q.requests ++ request.Respond x ∷ [] }) p t a (omega arith) m
fits_roomy spec Ended r p i t a k m = cc

resting_turn : (s : State) (t : Option ℕ) (n m : ℕ) → consumes_now s ≡ true → RoomAt s t n m → t ≡ None
resting_turn Idle t n m i h = h
resting_turn (Running q) t n m i h = cc
resting_turn (state.More q) t n m i h = h
resting_turn (state.Prompting q) t n m i h = h
resting_turn Ended t n m i h = h

first_roomy : (spec : Spec) (p : Pengine) → Roomy p → consumes_now p.state ≡ true → waiting p < 64 → (ms : List Request) → p.mailbox ≡ ms → Roomy (first_consumed spec ms p)
first_roomy spec p h i k [] e = h
first_roomy spec p h i k (r ∷ ms) e =
    fits_roomy spec p.state r (record p { mailbox = ms; consumed = suc p.consumed }) i (resting_turn p.state p.turn _ _ i h.turn) h.pulled (omega (arith, h.pulled, k))
    (let l : length p.mailbox ≡ suc (length ms) = ap (λ (z : List Request). length z) e in omega (arith, h.box, l))

settle_roomy : (spec : Spec) (n : ℕ) (p : Pengine) → Roomy p → Roomy (settled spec n p)
unfolding settled
settle_roomy spec zero p h = h
settle_roomy spec (suc n) p h = go (settle_roomy spec n (first_consumed spec p.mailbox p)) (consumes_now p.state) refl (nat_lt (waiting p) most_waiting) refl
  where
    go : (Roomy (first_consumed spec p.mailbox p) → Roomy (settled spec n (first_consumed spec p.mailbox p))) → (a : Bool) → consumes_now p.state ≡ a → (b : Bool) → nat_lt (waiting p) most_waiting ≡ b → Roomy (elim (a && b) as (λ z. Pengine) [ true ↦ settled spec n (first_consumed spec p.mailbox p) | false ↦ p ])
    go ih true e true f = ih (first_roomy spec p h e (ltb-true (waiting p) 64 f) p.mailbox refl)
    go ih true e false f = h
    go ih false e b f = h

span_length : (spec : Spec) (q : Query) (g e : ℕ) → length (span spec q g e) ≤ e - g
span_length spec q g e = simp (length-map, length-drop, length-take) (omega arith)

abort_roomy : (spec : Spec) (s : State) (p : Pengine) → Roomy (record p { state = s }) → Roomy (aborted_at spec s (struck (record p { state = s })))
abort_roomy spec Idle p h = record { pulled = h.pulled; queue = h.queue; box = omega arith; turn = refl }
abort_roomy spec (Running q) p h = says_ends spec.destroys event.Abort (struck (record p { state = Running q })) refl h.pulled h.queue (omega arith)
abort_roomy spec (state.More q) p h = says_ends spec.destroys event.Abort (struck (record p { state = state.More q })) refl h.pulled h.queue (omega arith)
abort_roomy spec (state.Prompting q) p h = says_ends spec.destroys event.Abort (struck (record p { state = state.Prompting q })) refl h.pulled h.queue (omega arith)
abort_roomy spec Ended p h = record { pulled = h.pulled; queue = h.queue; box = omega arith; turn = refl }

gone : Pengine → Pengine
gone q = record q { pulled = length q.emitted }

destroy_roomy : (s : State) (p : Pengine) → Roomy (handed_out (destroyed_at s (struck (record p { state = s }))))
destroy_roomy Idle p = record { pulled = omega arith; queue = omega arith; box = omega arith; turn = refl }
destroy_roomy (Running q) p = record { pulled = omega arith; queue = omega arith; box = omega arith; turn = refl }
destroy_roomy (state.More q) p = record { pulled = omega arith; queue = omega arith; box = omega arith; turn = refl }
destroy_roomy (state.Prompting q) p = record { pulled = omega arith; queue = omega arith; box = omega arith; turn = refl }
destroy_roomy Ended p = record { pulled = omega arith; queue = omega arith; box = omega arith; turn = refl }

rest_roomy : (spec : Spec) (q : Query) (r : Rest) (p : Pengine) → p.turn ≡ None → p.pulled ≤ length p.emitted → length p.emitted ≤ p.pulled + 64 → length p.mailbox ≤ 64 → Roomy (rest_at spec q r p)
rest_roomy spec q rest.More p t a k m = record { pulled = a; queue = k; box = m; turn = t }
rest_roomy spec q rest.Prompting p t a k m = record { pulled = a; queue = k; box = m; turn = t }
rest_roomy spec q rest.Over p t a k m = ends_roomy spec.destroys p t a (omega arith) m

-- what a query gives in a turn
module _ (spec : Spec) (q : Query) (p : Pengine) (n e : ℕ) where
  abbrev gave : Pengine
  gave = record p { state = Running q; turn = None; steps = p.steps + n; events = p.events + e; emitted = p.emitted ++ span spec q p.events (p.events + e) }

  emitted_length : length gave.emitted ≡ length p.emitted + length (span spec q p.events (p.events + e))
  emitted_length = length-append p.emitted (span spec q p.events (p.events + e))

  span_within : length (span spec q p.events (p.events + e)) ≤ e
  span_within = let k : length (span spec q p.events (p.events + e)) ≤ (p.events + e) - p.events = span_length spec q p.events (p.events + e) in omega (arith, k)

  some_roomy : (b : Bool) → p.pulled ≤ length gave.emitted → length gave.emitted ≤ p.pulled + 64 → length p.mailbox ≤ 64 → Roomy (if b then rest_at spec q (part_of spec q).rest gave else gave)
  some_roomy true a k m = rest_roomy spec q (part_of spec q).rest gave refl a k m
  some_roomy false a k m = record { pulled = a; queue = k; box = m; turn = tt }

turn_roomy : (spec : Spec) (budget n e : ℕ) (b : Bool) (s : State) (t : Option ℕ) (p : Pengine) → TurnsAt spec budget s t p n e b → Roomy (record p { state = s; turn = t }) → Roomy (turned_at spec n e b s (record p { state = s; turn = None }))
turn_roomy spec budget n e true (Running q) (Some room) p l h =
    let s : length (gave spec q p n e).emitted ≡ length p.emitted + length (span spec q p.events (p.events + e)) = emitted_length spec q p n e in
    let k : length (span spec q p.events (p.events + e)) ≤ e = span_within spec q p n e in
    says_ends spec.destroys event.Memory (gave spec q p n e) refl (omega (arith, s, h.pulled)) (omega (arith, s, k, h.turn, l.in_room)) h.box
turn_roomy spec budget n e false (Running q) (Some room) p l h =
    let s : length (gave spec q p n e).emitted ≡ length p.emitted + length (span spec q p.events (p.events + e)) = emitted_length spec q p n e in
    let k : length (span spec q p.events (p.events + e)) ≤ e = span_within spec q p n e in
    some_roomy spec q p n e (nat_le (length (events_of spec q)) (p.events + e)) (omega (arith, s, h.pulled)) (omega (arith, s, k, h.turn, l.in_room)) h.box
turn_roomy spec budget n e b Idle t p l h = absurd l
turn_roomy spec budget n e b (Running q) None p l h = absurd l
turn_roomy spec budget n e b (state.More q) t p l h = absurd l
turn_roomy spec budget n e b (state.Prompting q) t p l h = absurd l
turn_roomy spec budget n e b Ended t p l h = absurd l

take_room : (s : State) (n m : ℕ) → IsRunning s → m ≤ n → n - m < 64 → RoomAt s (Some (64 - (n - m))) n m
take_room Idle n m l a k = absurd l
take_room (Running q) n m l a k = omega arith
take_room (state.More q) n m l a k = absurd l
take_room (state.Prompting q) n m l a k = absurd l
take_room Ended n m l a k = absurd l

pull_room : (s : State) (t : Option ℕ) (n m j : ℕ) → RoomAt s t n m → RoomAt s t n (m + j)
pull_room Idle t n m j h = h
pull_room (Running q) (Some room) n m j h = omega (arith, h)
pull_room (Running q) None n m j h = tt
pull_room (state.More q) t n m j h = h
pull_room (state.Prompting q) t n m j h = h
pull_room Ended t n m j h = h

entry_roomy : (spec : Spec) (budget : ℕ) (e : Entry) (p : Pengine) → IsAllowed spec budget e p → Roomy p → Roomy (entered spec e p)
entry_roomy spec budget (Sent r) p l h = record { pulled = h.pulled; queue = h.queue; box = (let k : length (p.mailbox ++ r ∷ []) ≡ length p.mailbox + 1 = length-append p.mailbox (r ∷ []) in omega (arith, k, l.1)); turn = h.turn }
entry_roomy spec budget (Pulled m) p l h = record { pulled = l.1; queue = omega (arith, h.queue); box = h.box; turn = pull_room p.state p.turn (length p.emitted) p.pulled m h.turn }
entry_roomy spec budget Abort p l h = abort_roomy spec p.state p h
entry_roomy spec budget Destroy p l h = destroy_roomy p.state p
entry_roomy spec budget Taken p l h = record { pulled = h.pulled; queue = h.queue; box = h.box; turn = take_room p.state (length p.emitted) p.pulled l.0 h.pulled l.2 }
entry_roomy spec budget (Given k n e starved false) p l h = record { pulled = h.pulled; queue = h.queue; box = h.box; turn = h.turn }
entry_roomy spec budget (Given k n e starved true) p l h = turn_roomy spec budget n e starved p.state p.turn p l.1 h

-- For every list of entries that a pengine can have at most 64 requests stand in the mailbox, and at most 66 events wait: 64 in a query, 65 after it.
pub roomy : (spec : Spec) (es : List Entry) (p : Pengine) → ArePossible spec es p → Roomy p → Roomy (after spec es p)
unfolding after ArePossible
roomy spec [] p l h = h
roomy spec (e ∷ es) p l h = roomy spec es (after_entry spec e p) l.1 (settle_roomy spec (length (entered spec e p).mailbox) (entered spec e p) (entry_roomy spec l.0.0 e p l.0.1 h))

pub made_roomy : Roomy made
made_roomy = record { pulled = omega arith; queue = omega arith; box = omega arith; turn = refl }

places_most : (s : State) → places s ≤ 66
places_most Idle = omega arith
places_most (Running q) = omega arith
places_most (state.More q) = omega arith
places_most (state.Prompting q) = omega arith
places_most Ended = omega arith

pub no_more_wait : NoMoreWait
no_more_wait spec es l =
    let h : Roomy (after spec es made) = roomy spec es made l made_roomy in
    let m : places (after spec es made).state ≤ 66 = places_most (after spec es made).state in
    record { mailbox = h.box; queue = omega (arith, h.queue, m) }
