-- What can be seen of a pengine from outside, and which pengines look so.
use Rattle.std.specs.Prelude.{◌≡◌, ℕ, ◌^◌, ◌-◌, min, Bool, List, ◌++◌, length, Option, Some, None}
use Rattle.program.specs.Loaded.{Loaded}
use Rattle.event_core.specs.declared.event.Event.{Event}
use Rattle.event_core.specs.declared.request.Request.{Request}
use Rattle.event_core.specs.declared.rest.Rest.{Rest}
use Rattle.event_core.specs.declared.settings.Settings.{Settings}
use Rattle.event_core.specs.Full.{Spec, Query}
use Rattle.event_core.specs.Standing.{spec_of}
use Rattle.session.specs.After as state
use Rattle.session.specs.After.{State, Pengine, most_waiting, Entry, after_entry}

pub data Look : Type 0 where
  Idle : Look
  Running : Query → Look
  -- The query runs, and is with the turn that is out: the turn's room, and how many fitting requests came after the ask.
  Out : (room further : ℕ) → Look
  More : Query → Look
  Prompting : Query → Look
  Ended : Look

pub record View : Type 0 where
  pub program : Loaded
  pub settings : Settings
  pub look : Look
  pub mailbox : List Request
  -- the number of the latest query, and the steps and events that it has made after its last kept turn
  pub number : ℕ
  pub steps : ℕ
  pub events : ℕ
  -- how many events were pulled, and those that wait
  pub pulled : ℕ
  pub queue : List Event

abbrev pub spec_seen : View → Spec
spec_seen v = spec_of v.program v.settings

-- where a pengine stands and whether a turn of its query is out
abbrev pub IsLook : Look → State → Option ℕ → Type 0
IsLook Idle s t = (s ≡ state.Idle) × (t ≡ None)
IsLook (Running q) s t = (s ≡ state.Running q) × (t ≡ None)
IsLook (Out room further) s t = ((q : Query) × (s ≡ state.Running q) × (length q.requests ≡ further)) × (t ≡ Some room)
IsLook (More q) s t = (s ≡ state.More q) × (t ≡ None)
IsLook (Prompting q) s t = (s ≡ state.Prompting q) × (t ≡ None)
IsLook Ended s t = (s ≡ state.Ended) × (t ≡ None)

-- all but where it stands; the count of events that were pulled stands still at its type's end
pub record IsKept (v : View) (p : Pengine) : Type 0 where
  pub mailbox : v.mailbox ≡ p.mailbox
  pub number : v.number ≡ p.number
  pub steps : v.steps ≡ p.steps
  pub events : v.events ≡ p.events
  pub pulled : v.pulled ≡ min p.pulled (2 ^ 64 - 1)
  pub before : List Event
  pub handed : length before ≡ p.pulled
  pub emitted : p.emitted ≡ before ++ v.queue

-- the pengine p looks so
pub record IsSeen (v : View) (p : Pengine) : Type 0 where
  pub look : IsLook v.look p.state p.turn
  pub kept : IsKept v p

-- What looked like v looks like w after f was done to it, and has the same program and settings.
pub record Does (f : Pengine → Pengine) (v w : View) : Type 0 where
  pub program : w.program ≡ v.program
  pub settings : w.settings ≡ v.settings
  pub seen : (p : Pengine) → IsSeen v p → IsSeen w (f p)

-- the entry was done
abbrev pub Enters : Entry → View → View → Type 0
Enters e v w = Does (after_entry (spec_seen v) e) v w

-- the query is given to a turn with so much room
abbrev pub out : Look → ℕ → Look
out (Running q) room = Out room (length q.requests)
out l room = l

-- how the pengine looks without its query
abbrev pub taken : View → View
taken v = record v { look = out v.look (most_waiting - length v.queue) }

-- what a turn that has gone has made: each event with its step, and where the query rests if these were all
pub record Gone : Type 0 where
  pub steps : ℕ
  pub events : List (ℕ × Event)
  pub starved : Bool
  pub rest : Option Rest

-- A turn of a query: what it runs over, where it starts, and how many events it may make.
pub record TurnView : Type 0 where
  pub program : Loaded
  pub settings : Settings
  pub query : Query
  pub number : ℕ
  pub steps : ℕ
  pub events : ℕ
  pub room : ℕ
  pub gone : Option Gone

-- the turn that a view gives
abbrev pub turn_at : View → Query → TurnView
turn_at v q = record {
  program = v.program;
  settings = v.settings;
  query = q;
  number = v.number;
  steps = v.steps;
  events = v.events;
  room = most_waiting - length v.queue;
  gone = None;
}

-- the turn of the query that is out
pub record IsPresent (v : View) (t : TurnView) (room further : ℕ) : Type 0 where
  pub program : t.program ≡ v.program
  pub settings : t.settings ≡ v.settings
  pub steps : t.steps ≡ v.steps
  pub events : t.events ≡ v.events
  pub has_room : t.room ≡ room
  pub requests : length t.query.requests ≡ further

-- The turn that is given back is one of this pengine's, and has gone. Where its number is that of the query that is out, it is that query's turn.
pub record IsTurnOf (v : View) (t : TurnView) : Type 0 where
  pub gone : (g : Gone) × (t.gone ≡ Some g)
  pub present : (room further : ℕ) → v.look ≡ Out room further → t.number ≡ v.number → IsPresent v t room further
