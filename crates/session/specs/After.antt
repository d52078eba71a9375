-- One pengine (Lager and Wielemaker, TPLP 2014): its state after what was done to it, entry by entry.
use Rattle.std.specs.Prelude.{ℕ, zero, suc, ◌+◌, ◌-◌, Bool, true, false, ◌&&◌, List, [], ◌∷◌, ◌++◌, length, nat_lt, nat_le, ◌==◌, if◌then◌else◌, Option, Some, None}
use Rattle.term_core.specs.Tree.{Tree}
use Rattle.event_core.specs.declared.event.Event.{Event}
use Rattle.event_core.specs.declared.event.Event.TheVariants as event
use Rattle.event_core.specs.declared.request.Ask.{Ask}
use Rattle.event_core.specs.declared.request.Request.{Request}
use Rattle.event_core.specs.declared.request.Request.TheVariants as request
use Rattle.event_core.specs.declared.rest.Rest.{Rest}
use Rattle.event_core.specs.declared.rest.Rest.TheVariants as rest
use Rattle.event_core.specs.Requests.{kind_of}
use Rattle.event_core.specs.Full.{Spec, Query, part_of, events_of, span}

-- how many events may wait before the pengine stands still, and how many requests may
abbrev pub most_waiting : ℕ
most_waiting = 64

abbrev pub most_requests : ℕ
most_requests = 64

pub data State : Type 0 where
  -- outside of a query
  Idle : State
  Running : Query → State
  -- the query rests until a `next` or a `stop`
  More : Query → State
  -- the query rests until a `respond`
  Prompting : Query → State
  Ended : State

pub record Pengine : Type 0 where
  pub state : State
  pub mailbox : List Request
  -- how many requests were consumed
  pub consumed : ℕ
  -- the number of the latest query, and the steps and events that it has made after its last kept turn
  pub number : ℕ
  pub steps : ℕ
  pub events : ℕ
  -- the room of the turn of this query that is out
  pub turn : Option ℕ
  -- the queries of the other turns that are out: their query was aborted or the pengine destroyed since
  pub lost : List ℕ
  -- all events so far, and how many of them were pulled
  pub emitted : List Event
  pub pulled : ℕ

abbrev pub waiting : Pengine → ℕ
waiting p = length p.emitted - p.pulled

abbrev pub emits : Event → Pengine → Pengine
emits e p = record p { emitted = p.emitted ++ e ∷ [] }

-- a query ends, and where the pengine is to be destroyed it ends too
abbrev pub ends : Bool → Pengine → Pengine
ends true p = record p { state = Ended; mailbox = []; emitted = p.emitted ++ event.Destroy ∷ [] }
ends false p = record p { state = Idle }

-- a query begins, unless the sandbox refuses its goal
abbrev pub begins : Spec → Ask → Option Tree → Pengine → Pengine
begins spec a None p = record p {
  state = Running (record { asked = a; requests = [] });
  number = suc p.number;
  steps = 0;
  events = 0;
}
begins spec a (Some t) p = ends spec.destroys (emits (event.Error t) (record p { number = suc p.number; steps = 0; events = 0 }))

abbrev pub goes_on : Query → Request → Pengine → Pengine
goes_on q r p = record p { state = Running (record q { requests = q.requests ++ r ∷ [] }) }

-- one request is consumed; one that doesn't fit the state leaves it as it is
abbrev pub fits : Spec → State → Request → Pengine → Pengine
fits spec Idle (request.Ask a) p = begins spec a (spec.refusal a) p
fits spec (More q) (request.Next c) p = goes_on q (request.Next c) p
fits spec (More q) request.Stop p = ends spec.destroys (emits event.Stop p)
fits spec (Prompting q) (request.Respond t) p = goes_on q (request.Respond t) p
fits spec s r p = emits (event.Protocol (kind_of r)) p

abbrev pub first_consumed : Spec → List Request → Pengine → Pengine
first_consumed spec [] p = p
first_consumed spec (r ∷ rs) p = fits spec p.state r (record p { mailbox = rs; consumed = suc p.consumed })

abbrev pub consumes_now : State → Bool
consumes_now Idle = true
consumes_now (Running q) = false
consumes_now (More q) = true
consumes_now (Prompting q) = true
consumes_now Ended = false

-- at most n requests are consumed, while the pengine rests and fewer than 64 events wait
unfoldable pub settled : Spec → ℕ → Pengine → Pengine
settled spec zero p = p
settled spec (suc n) p = elim (consumes_now p.state && nat_lt (waiting p) most_waiting) [
  | true ↦ settled spec n (first_consumed spec p.mailbox p)
  | false ↦ p
]

-- What is done to a pengine. In `Pulled` stands how many events were taken together. In `Given` stand the number of the turn's query, the steps and the events that the turn made, and whether it ended by want of memory and whether it was kept.
pub data Entry : Type 0 where
  Sent : Request → Entry
  Pulled : (many : ℕ) → Entry
  Abort : Entry
  Destroy : Entry
  Taken : Entry
  Given : (query steps events : ℕ) → (starved kept : Bool) → Entry

abbrev pub rest_at : Spec → Query → Rest → Pengine → Pengine
rest_at spec q rest.More p = record p { state = More q }
rest_at spec q rest.Prompting p = record p { state = Prompting q }
rest_at spec q rest.Over p = ends spec.destroys p

-- The query has n steps and e events: its events up to there, and then `memory`, or where it rests if these are all.
abbrev pub advances : Spec → Query → (n e : ℕ) → Bool → Pengine → Pengine
advances spec q n e starved p =
    let r : Pengine = record p { steps = n; events = e; emitted = p.emitted ++ span spec q p.events e } in
    if starved then ends spec.destroys (emits event.Memory r)
    else (if nat_le (length (events_of spec q)) e then rest_at spec q (part_of spec q).rest r else r)

-- a kept turn
abbrev pub turned_at : Spec → (steps events : ℕ) → Bool → State → Pengine → Pengine
turned_at spec n e starved (Running q) p = advances spec q (p.steps + n) (p.events + e) starved p
turned_at spec n e starved s p = p

abbrev pub aborted_at : Spec → State → Pengine → Pengine
aborted_at spec Idle p = p
aborted_at spec (Running q) p = ends spec.destroys (emits event.Abort p)
aborted_at spec (More q) p = ends spec.destroys (emits event.Abort p)
aborted_at spec (Prompting q) p = ends spec.destroys (emits event.Abort p)
aborted_at spec Ended p = p

abbrev pub destroyed_at : State → Pengine → Pengine
destroyed_at Ended p = p
destroyed_at s p = ends true p

abbrev pub losing : Option ℕ → ℕ → List ℕ → List ℕ
losing None k ks = ks
losing (Some room) k ks = k ∷ ks

-- at an abort and a destroy: the requests that wait are dropped, and a turn that is out is lost
abbrev pub struck : Pengine → Pengine
struck p = record p { mailbox = []; turn = None; lost = losing p.turn p.number p.lost }

-- the list less its first k
abbrev pub without : ℕ → List ℕ → List ℕ
without k [] = []
without k (n ∷ ns) = if n == k then ns else (n ∷ without k ns)

-- all events were handed out
abbrev pub handed_out : Pengine → Pengine
handed_out p = record p { pulled = length p.emitted }

-- what one entry does, before requests are consumed
abbrev pub entered : Spec → Entry → Pengine → Pengine
entered spec (Sent r) p = record p { mailbox = p.mailbox ++ r ∷ [] }
entered spec (Pulled n) p = record p { pulled = p.pulled + n }
entered spec Abort p = aborted_at spec p.state (struck p)
entered spec Destroy p = handed_out (destroyed_at p.state (struck p))
entered spec Taken p = record p { turn = Some (most_waiting - waiting p) }
entered spec (Given k n e starved false) p = record p { lost = without k p.lost }
entered spec (Given k n e starved true) p = turned_at spec n e starved p.state (record p { turn = None })

-- after each entry requests are consumed
abbrev pub after_entry : Spec → Entry → Pengine → Pengine
after_entry spec e p = let q : Pengine = entered spec e p in settled spec (length q.mailbox) q

unfoldable pub after : Spec → List Entry → Pengine → Pengine
after spec [] p = p
after spec (e ∷ es) p = after spec es (after_entry spec e p)

-- A pengine that was just made. The creation hands out the event `create`, and its query, if there is one, is its first entry.
abbrev pub made : Pengine
made = record {
  state = Idle;
  mailbox = [];
  consumed = 0;
  number = 0;
  steps = 0;
  events = 0;
  turn = None;
  lost = [];
  emitted = event.Create ∷ [];
  pulled = 1;
}
