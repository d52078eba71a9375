-- Which lists of entries a pengine can have, and the acts that they stand for.
use Rattle.std.specs.Prelude.{◌≡◌, ℕ, ◌+◌, ◌<◌, ◌≤◌, Bool, true, false, ◌⊎◌, List, [], ◌∷◌, length, Option, Some, None}
use Rattle.event_core.specs.Full.{Spec, part_of, Act, Sends, Struck, ByAbort, ByDestroy, ByWant}
use Rattle.session.specs.After.{most_waiting, most_requests, State, Running, Ended, Pengine, waiting, Entry, Sent, Pulled, Abort, Destroy, Taken, Given, after_entry}
use Rattle.session.specs.Turns.{Turns}

abbrev pub IsRunning : State → Type 0
IsRunning (Running q) = Unit {0}
IsRunning s = ⊥

abbrev pub IsLive : State → Type 0
IsLive Ended = ⊥
IsLive s = Unit {0}

-- the turn that is out, where it makes these steps and events
abbrev pub TurnsAt : Spec → ℕ → State → Option ℕ → Pengine → (steps events : ℕ) → Bool → Type 0
TurnsAt spec budget (Running q) (Some room) p n e starved = Turns (part_of spec q) p.steps p.events budget room n e starved
TurnsAt spec budget s t p n e starved = ⊥

-- k is one of the numbers
unfoldable pub Holds : ℕ → List ℕ → Type 0
Holds k [] = ⊥
Holds k (n ∷ ns) = (n ≡ k) ⊎ Holds k ns

-- A request is accepted where the pengine hasn't ended and its mailbox isn't full; events are pulled where so many wait, at least one; a turn is taken where the query runs, none of its turns is out and the queue isn't full; a turn that is given back is dropped where its query was aborted, or the pengine destroyed, since it was taken, and kept otherwise.
abbrev pub IsAllowed : Spec → ℕ → Entry → Pengine → Type 0
IsAllowed spec budget (Sent r) p = IsLive p.state × (length p.mailbox < most_requests)
IsAllowed spec budget (Pulled n) p = (0 < n) × (p.pulled + n ≤ length p.emitted)
IsAllowed spec budget Abort p = Unit {0}
IsAllowed spec budget Destroy p = Unit {0}
IsAllowed spec budget Taken p = IsRunning p.state × (p.turn ≡ None) × (waiting p < most_waiting)
IsAllowed spec budget (Given k n e starved false) p = Holds k p.lost
IsAllowed spec budget (Given k n e starved true) p = (k ≡ p.number) × TurnsAt spec budget p.state p.turn p n e starved

-- each entry is allowed after those before it; a turn makes at most `budget` steps
unfoldable pub IsLegal : Spec → (budget : ℕ) → List Entry → Pengine → Type 0
IsLegal spec budget [] p = Unit {0}
IsLegal spec budget (e ∷ es) p = IsAllowed spec budget e p × IsLegal spec budget es (after_entry spec e p)

-- The same where each turn has a budget of its own.
unfoldable pub ArePossible : Spec → List Entry → Pengine → Type 0
ArePossible spec [] p = Unit {0}
ArePossible spec (e ∷ es) p = ((budget : ℕ) × IsAllowed spec budget e p) × ArePossible spec es (after_entry spec e p)

-- An abort and a destroy strike with the steps and events that the latest query has after its last kept turn, a want of memory with those of the turn itself.
abbrev pub act_of : Entry → Pengine → List Act → List Act
act_of (Sent r) p more = Sends r ∷ more
act_of Abort p more = Struck ByAbort p.consumed p.steps p.events ∷ more
act_of Destroy p more = Struck ByDestroy p.consumed p.steps p.events ∷ more
act_of (Given k n e true true) p more = Struck ByWant p.consumed (p.steps + n) (p.events + e) ∷ more
act_of e p more = more

unfoldable pub acts : Spec → List Entry → Pengine → List Act
acts spec [] p = []
acts spec (e ∷ es) p = act_of e p (acts spec es (after_entry spec e p))
