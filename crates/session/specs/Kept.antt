-- How a pengine is kept.
use Rattle.std.specs.Prelude.{◌≡◌, ℕ, ◌+◌, ◌^◌, ◌≤◌, ◌<◌, Bool, true, false, if◌then◌else◌, nat_le, take, drop, List, [], ◌∷◌, ◌++◌, map, length, Option, Some, None, All}
use Rattle.circular_buffer.specs.Buffer.{buffer}
use Rattle.term_core.specs.Tree.{Tree}
use Rattle.program.specs.Loaded.{Loaded}
use Rattle.event_core.specs.declared.event.Event.{Event}
use Rattle.event_core.specs.declared.event.Event.TheVariants as event
use Rattle.event_core.specs.declared.request.Request.{Request}
use Rattle.event_core.specs.declared.request.Request.TheVariants as request
use Rattle.event_core.specs.declared.rest.Rest.{Rest}
use Rattle.event_core.specs.declared.rest.Rest.TheVariants as rest
use Rattle.event_core.specs.declared.settings.Settings.{Settings}
use Rattle.event_core.specs.Full.{Spec, Query, part_of, events_of}
use Rattle.event_core.specs.Standing.{spec_of}
use Rattle.session.specs.declared.query.Query as kept
use Rattle.session.specs.declared.turn.Gone as kept_turn
use Rattle.session.specs.declared.letter.Letter.{Letter}
use Rattle.session.specs.declared.state.State.{State}
use Rattle.session.specs.declared.state.State.TheVariants as state
use Rattle.session.specs.declared.automaton.Automaton.{Automaton}
use Rattle.session.specs.After as after
use Rattle.session.specs.After.{Pengine, turned_at}
use Rattle.session.specs.Views.{Look, Idle, Running, Out, More, Prompting, Ended, View, IsSeen, spec_seen}

abbrev pub query_of : kept.Query → Query
query_of q = record { asked = q.ask; requests = q.requests }

abbrev pub look_of : State → Look
look_of state.Idle = Idle
look_of (state.Running q) = Running (query_of q)
look_of (state.Out room further) = Out room further
look_of (state.More q) = More (query_of q)
look_of (state.Prompting q) = Prompting (query_of q)
look_of state.Ended = Ended

abbrev pub requests_of : List Letter → List Request
requests_of ls = map (λ l. l.node) ls

abbrev pub view_of : Automaton → View
view_of a = record {
  program = a.program.value;
  settings = a.settings;
  look = look_of a.state;
  mailbox = requests_of a.mailbox.items;
  number = a.number;
  steps = a.steps;
  events = a.events;
  pulled = a.pulled;
  queue = a.queue.items;
}

-- a query that rests
abbrev pub resting : Rest → Query → Look
resting rest.More q = More q
resting rest.Prompting q = Prompting q
resting rest.Over q = Idle

-- the refusal that is kept with a request is that of its goal
abbrev pub Refuses : Spec → Request → Option Tree → Type 0
Refuses spec (request.Ask a) t = t ≡ spec.refusal a
Refuses spec r t = Unit {0}

pub record IsLetter (cs : Loaded) (s : Settings) (l : Letter) : Type 0 where
  pub program : l.program.value ≡ cs
  pub refusal : Refuses (spec_of cs s) l.node l.refusal

abbrev pub rests : Rest → kept.Query → State
rests rest.More q = state.More q
rests rest.Prompting q = state.Prompting q
rests rest.Over q = state.Idle

-- whether requests are consumed there
abbrev pub rests_now : State → Bool
rests_now state.Idle = true
rests_now (state.Running q) = false
rests_now (state.Out room further) = false
rests_now (state.More q) = true
rests_now (state.Prompting q) = true
rests_now state.Ended = false

-- whether a query runs or rests
abbrev pub is_busy : State → Bool
is_busy state.Idle = false
is_busy (state.Running q) = true
is_busy (state.Out room further) = true
is_busy (state.More q) = true
is_busy (state.Prompting q) = true
is_busy state.Ended = false

-- so many events may wait: a turn that is out has its room
abbrev pub MayWait : State → ℕ → Type 0
MayWait state.Idle n = n ≤ 65
MayWait (state.Running q) n = n ≤ 64
MayWait (state.Out room further) n = n + room ≤ 64
MayWait (state.More q) n = n ≤ 64
MayWait (state.Prompting q) n = n ≤ 64
MayWait state.Ended n = n ≤ 66

-- how many requests the query has after its ask
abbrev pub further_of : State → ℕ
further_of state.Idle = 0
further_of (state.Running q) = length q.requests
further_of (state.Out room further) = further
further_of (state.More q) = length q.requests
further_of (state.Prompting q) = length q.requests
further_of state.Ended = 0

-- the query that is kept runs over these program
abbrev pub IsOver : Loaded → State → Type 0
IsOver cs state.Idle = Unit {0}
IsOver cs (state.Running q) = q.program.value ≡ cs
IsOver cs (state.Out room further) = Unit {0}
IsOver cs (state.More q) = q.program.value ≡ cs
IsOver cs (state.Prompting q) = q.program.value ≡ cs
IsOver cs state.Ended = Unit {0}

-- what holds of every pengine that is kept
pub record IsSound (a : Automaton) : Type 0 where
  pub queue_room : a.queue.capacity ≡ 66
  pub mailbox_room : a.mailbox.capacity ≡ 64
  pub waits : MayWait a.state (length a.queue.items)
  pub box : length a.mailbox.items ≤ 64
  pub count : a.number + further_of a.state + length a.mailbox.items ≤ a.accepted
  pub bound : a.accepted ≤ 2 ^ 62
  pub letters : All (IsLetter a.program.value a.settings) a.mailbox.items
  pub program : IsOver a.program.value a.state

-- one event more waits
abbrev pub says : Event → Automaton → Automaton
says e a = record a { queue = buffer (a.queue.items ++ e ∷ []) a.queue.capacity }

-- a query has ended, and where the pengine is to be destroyed it has ended too
abbrev pub closed : Bool → Automaton → Automaton
closed true a = record a { state = state.Ended; mailbox = buffer [] a.mailbox.capacity; queue = buffer (a.queue.items ++ event.Destroy ∷ []) a.queue.capacity }
closed false a = record a { state = state.Idle }

-- the query and the events of a turn that is given back, where it is the one that is out
pub record IsBack (a : Automaton) (q : kept.Query) (g : kept_turn.Gone) : Type 0 where
  pub room : ℕ
  pub further : ℕ
  pub is_out : a.state ≡ state.Out room further
  pub program : q.program.value ≡ a.program.value
  pub requests : length q.requests ≡ further
  pub events : length g.events ≤ room
  pub steps_fit : a.steps + g.steps < 2 ^ 64
  pub events_fit : a.events + length g.events < 2 ^ 64

-- the turn tells what its query gives after the first k events
pub record Tells (spec : Spec) (q : Query) (k : ℕ) (g : kept_turn.Gone) : Type 0 where
  pub made : g.events ≡ drop k (take (k + length g.events) (events_of spec q))
  pub rest : g.starved ≡ false → g.rest ≡ (if nat_le (length (events_of spec q)) (k + length g.events) then Some (part_of spec q).rest else None)

-- the turn was kept, before requests are consumed
pub record TakesBack (q : kept.Query) (g : kept_turn.Gone) (v w : View) : Type 0 where
  pub program : w.program ≡ v.program
  pub settings : w.settings ≡ v.settings
  pub seen : (p : Pengine) → p.state ≡ after.Running (query_of q) → Tells (spec_seen v) (query_of q) v.events g → IsSeen v p → IsSeen w (turned_at (spec_seen v) g.steps (length g.events) g.starved p.state (record p { turn = None }))
