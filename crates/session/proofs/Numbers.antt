-- A turn that was lost is of an earlier query, or its query has ended.
use Rattle.std.proofs.Common.{◌≡◌, ℕ, zero, suc, ◌+◌, ◌≤◌, ◌<◌, Bool, true, false, ◌&&◌, List, [], ◌∷◌, ◌++◌, length, nat_le, nat_lt, ◌==◌, if◌then◌else◌, Option, Some, None, ◌⊎◌, inl, inr, arith}
use Rattle.event_core.specs.declared.event.Event.TheVariants as event
use Rattle.event_core.specs.declared.request.Request.{Request}
use Rattle.event_core.specs.declared.request.Request.TheVariants as request
use Rattle.event_core.specs.declared.rest.Rest.{Rest}
use Rattle.event_core.specs.declared.rest.Rest.TheVariants as rest
use Rattle.event_core.specs.Full.{Spec, Query, part_of, events_of, span}
use Rattle.session.specs.After as state
use Rattle.session.specs.After.{State, Idle, Running, Ended, Pengine, waiting, emits, ends, begins, fits, first_consumed, consumes_now, settled, Entry, Sent, Pulled, Abort, Destroy, Taken, Given, rest_at, advances, turned_at, aborted_at, destroyed_at, struck, handed_out, entered, after_entry, after, made, without, most_waiting}
use Rattle.session.specs.Legal.{IsRunning, Holds}
use Rattle.session.specs.Laws.{LostTurnsAreOlder}

-- the number k of a lost turn, where the latest query has the number n
abbrev pub Earlier : State → ℕ → ℕ → Type 0
Earlier Idle k n = k ≤ n
Earlier (Running q) k n = k < n
Earlier (state.More q) k n = k < n
Earlier (state.Prompting q) k n = k < n
Earlier Ended k n = k ≤ n

pub record Numbered (p : Pengine) : Type 0 where
  pub lost : (k : ℕ) → Holds k p.lost → Earlier p.state k p.number

earlier : (s : State) (k n : ℕ) → Earlier s k n → k ≤ n
earlier Idle k n h = h
earlier (Running q) k n h = omega (arith, h)
earlier (state.More q) k n h = omega (arith, h)
earlier (state.Prompting q) k n h = omega (arith, h)
earlier Ended k n h = h

ends_numbered : (b : Bool) (p : Pengine) → ((k : ℕ) → Holds k p.lost → k ≤ p.number) → Numbered (ends b p)
ends_numbered true p h = record { lost = h }
ends_numbered false p h = record { lost = h }

fits_numbered : (spec : Spec) (s : State) (r : Request) (p : Pengine) → ((k : ℕ) → Holds k p.lost → Earlier s k p.number) → Numbered (fits spec s r (record p { state = s }))
fits_numbered spec Idle (request.Ask a) p h = go (spec.refusal a)
  where
    go : (v : Option _) → Numbered (begins spec a v (record p { state = Idle }))
    go None = record { lost = λ k x. let i : k ≤ p.number = h k x in omega (arith, i) }
    go (Some e) = ends_numbered spec.destroys (emits (event.Error e) (record p { state = Idle; number = suc p.number; steps = 0; events = 0 })) (λ k x. let i : k ≤ p.number = h k x in omega (arith, i))
fits_numbered spec Idle (request.Next c) p h = record { lost = h }
fits_numbered spec Idle request.Stop p h = record { lost = h }
fits_numbered spec Idle (request.Respond x) p h = record { lost = h }
fits_numbered spec (Running q) (request.Ask a) p h = record { lost = h }
fits_numbered spec (Running q) (request.Next c) p h = record { lost = h }
fits_numbered spec (Running q) request.Stop p h = record { lost = h }
fits_numbered spec (Running q) (request.Respond x) p h = record { lost = h }
fits_numbered spec (state.More q) (request.Ask a) p h = record { lost = h }
fits_numbered spec (state.More q) (request.Next c) p h = record { lost = h }
fits_numbered spec (state.More q) request.Stop p h = ends_numbered spec.destroys (emits event.Stop (record p { state = state.More q })) (λ k x. let i : k < p.number = h k x in omega (arith, i))
fits_numbered spec (state.More q) (request.Respond x) p h = record { lost = h }
fits_numbered spec (state.Prompting q) (request.Ask a) p h = record { lost = h }
fits_numbered spec (state.Prompting q) (request.Next c) p h = record { lost = h }
fits_numbered spec (state.Prompting q) request.Stop p h = record { lost = h }
fits_numbered spec (state.Prompting q) (request.Respond x) p h = record { lost = h }
fits_numbered spec Ended (request.Ask a) p h = record { lost = h }
fits_numbered spec Ended (request.Next c) p h = record { lost = h }
fits_numbered spec Ended request.Stop p h = record { lost = h }
fits_numbered spec Ended (request.Respond x) p h = record { lost = h }

first_numbered : (spec : Spec) (p : Pengine) → Numbered p → (ms : List Request) → Numbered (first_consumed spec ms p)
first_numbered spec p h [] = h
first_numbered spec p h (r ∷ ms) = fits_numbered spec p.state r (record p { mailbox = ms; consumed = suc p.consumed }) h.lost

settle_numbered : (spec : Spec) (n : ℕ) (p : Pengine) → Numbered p → Numbered (settled spec n p)
unfolding settled
settle_numbered spec zero p h = h
settle_numbered spec (suc n) p h = go (settle_numbered spec n (first_consumed spec p.mailbox p) (first_numbered spec p h p.mailbox)) (consumes_now p.state && nat_lt (waiting p) most_waiting)
  where
    go : Numbered (settled spec n (first_consumed spec p.mailbox p)) → (b : Bool) → Numbered (elim b as (λ z. Pengine) [ true ↦ settled spec n (first_consumed spec p.mailbox p) | false ↦ p ])
    go ih true = ih
    go ih false = h

struck_lost : (t : Option ℕ) (p : Pengine) → ((k : ℕ) → Holds k p.lost → k ≤ p.number) → (k : ℕ) → Holds k (struck (record p { turn = t })).lost → k ≤ p.number
unfolding Holds
struck_lost None p h k x = h k x
struck_lost (Some room) p h k (inl e) = omega (arith, e)
struck_lost (Some room) p h k (inr x) = h k x

abort_numbered : (spec : Spec) (s : State) (p : Pengine) → ((k : ℕ) → Holds k p.lost → k ≤ p.number) → Numbered (record p { state = s }) → Numbered (aborted_at spec s (struck (record p { state = s })))
abort_numbered spec Idle p h g = record { lost = struck_lost p.turn p h }
abort_numbered spec (Running q) p h g = ends_numbered spec.destroys (emits event.Abort (struck (record p { state = Running q }))) (struck_lost p.turn p h)
abort_numbered spec (state.More q) p h g = ends_numbered spec.destroys (emits event.Abort (struck (record p { state = state.More q }))) (struck_lost p.turn p h)
abort_numbered spec (state.Prompting q) p h g = ends_numbered spec.destroys (emits event.Abort (struck (record p { state = state.Prompting q }))) (struck_lost p.turn p h)
abort_numbered spec Ended p h g = record { lost = struck_lost p.turn p h }

destroy_numbered : (s : State) (p : Pengine) → ((k : ℕ) → Holds k p.lost → k ≤ p.number) → Numbered (handed_out (destroyed_at s (struck (record p { state = s }))))
destroy_numbered Idle p h = record { lost = struck_lost p.turn p h }
destroy_numbered (Running q) p h = record { lost = struck_lost p.turn p h }
destroy_numbered (state.More q) p h = record { lost = struck_lost p.turn p h }
destroy_numbered (state.Prompting q) p h = record { lost = struck_lost p.turn p h }
destroy_numbered Ended p h = record { lost = struck_lost p.turn p h }

without_holds : (j k : ℕ) (ks : List ℕ) → Holds k (without j ks) → Holds k ks
unfolding Holds
without_holds j k [] h = h
without_holds j k (n ∷ ns) h = go (n == j) h (without_holds j k ns)
  where
    go : (b : Bool) → Holds k (if b then ns else (n ∷ without j ns)) → (Holds k (without j ns) → Holds k ns) → (n ≡ k) ⊎ Holds k ns
    go true h ih = inr h
    go false (inl e) ih = inl e
    go false (inr h) ih = inr (ih h)

rest_numbered : (spec : Spec) (q : Query) (r : Rest) (p : Pengine) → ((k : ℕ) → Holds k p.lost → k < p.number) → Numbered (rest_at spec q r p)
rest_numbered spec q rest.More p h = record { lost = h }
rest_numbered spec q rest.Prompting p h = record { lost = h }
rest_numbered spec q rest.Over p h = ends_numbered spec.destroys p (λ k x. let i : k < p.number = h k x in omega (arith, i))

turned_numbered : (spec : Spec) (n e : ℕ) (b : Bool) (s : State) (p : Pengine) → Numbered (record p { state = s }) → Numbered (turned_at spec n e b s (record p { state = s; turn = None }))
turned_numbered spec n e b (Running q) p h = go b (nat_le (length (events_of spec q)) (p.events + e))
  where
    r : Pengine
    r = record p { state = Running q; turn = None; steps = p.steps + n; events = p.events + e; emitted = p.emitted ++ span spec q p.events (p.events + e) }

    go : (b c : Bool) → Numbered (if b then ends spec.destroys (emits event.Memory r) else (if c then rest_at spec q (part_of spec q).rest r else r))
    go true c = ends_numbered spec.destroys (emits event.Memory r) (λ k x. let i : k < p.number = h.lost k x in omega (arith, i))
    go false true = rest_numbered spec q (part_of spec q).rest r h.lost
    go false false = record { lost = h.lost }
turned_numbered spec n e b Idle p h = record { lost = h.lost }
turned_numbered spec n e b (state.More q) p h = record { lost = h.lost }
turned_numbered spec n e b (state.Prompting q) p h = record { lost = h.lost }
turned_numbered spec n e b Ended p h = record { lost = h.lost }

entry_numbered : (spec : Spec) (e : Entry) (p : Pengine) → Numbered p → Numbered (entered spec e p)
entry_numbered spec (Sent r) p h = record { lost = h.lost }
entry_numbered spec (Pulled m) p h = record { lost = h.lost }
entry_numbered spec Abort p h = abort_numbered spec p.state p (λ k x. earlier p.state k p.number (h.lost k x)) h
entry_numbered spec Destroy p h = destroy_numbered p.state p (λ k x. earlier p.state k p.number (h.lost k x))
entry_numbered spec Taken p h = record { lost = h.lost }
entry_numbered spec (Given k n e starved false) p h = record { lost = λ j x. h.lost j (without_holds k j p.lost x) }
entry_numbered spec (Given k n e starved true) p h = turned_numbered spec n e starved p.state p h

pub numbered : (spec : Spec) (es : List Entry) (p : Pengine) → Numbered p → Numbered (after spec es p)
unfolding after
numbered spec [] p h = h
numbered spec (e ∷ es) p h = numbered spec es (after_entry spec e p) (settle_numbered spec (length (entered spec e p).mailbox) (entered spec e p) (entry_numbered spec e p h))

pub made_numbered : Numbered made
unfolding Holds
made_numbered = record { lost = λ k x. absurd x }

lost_other : (p : Pengine) (k : ℕ) → Numbered p → Holds k p.lost → IsRunning p.state → k < p.number
lost_other p k h x r = go p.state r (h.lost k x)
  where
    go : (s : State) → IsRunning s → Earlier s k p.number → k < p.number
    go Idle r h = absurd r
    go (Running q) r h = h
    go (state.More q) r h = absurd r
    go (state.Prompting q) r h = absurd r
    go Ended r h = absurd r

pub lost_turns_are_older : LostTurnsAreOlder
lost_turns_are_older spec es k h r = lost_other (after spec es made) k (numbered spec es made made_numbered) h r
