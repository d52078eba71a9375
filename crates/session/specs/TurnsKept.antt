-- How a turn is kept, and what it makes.
use Rattle.std.specs.Prelude.{◌≡◌, ℕ, ◌+◌, ◌<◌, ◌≤◌, ◌^◌, Bool, true, false, if◌then◌else◌, ◌⊎◌, [], length, take, drop, nat_le, Option, Some, None, All}
use Rattle.program.specs.Loaded.{Loaded}
use Rattle.solve_model.specs.Trace.{world_of}
use Rattle.event_core.specs.declared.settings.Settings.{Settings}
use Rattle.event_core.specs.Full.{Query, part_of, events_of}
use Rattle.event_core.specs.Laws.{StaysInside, replying}
use Rattle.event_core.specs.Names.{answer_term}
use Rattle.event_core.specs.Parts.{Part}
use Rattle.event_core.specs.Standing.{spec_of}
use Rattle.event_core.specs.declared.made.Made.{Made}
use Rattle.session.specs.declared.turn.Gone as kept
use Rattle.session.specs.declared.turn.Turn.TheInside.{Inside}
use Rattle.session.specs.After as state
use Rattle.session.specs.After.{Pengine, after_entry, most_waiting, Given}
use Rattle.session.specs.Turns.{Turns}
use Rattle.session.specs.Views.{View, IsSeen, spec_seen, Gone, TurnView}

abbrev pub gone_view : kept.Gone → Gone
gone_view g = record { steps = g.steps; events = g.events; starved = g.starved; rest = g.rest }

abbrev pub gone_of : Option kept.Gone → Option Gone
gone_of None = None
gone_of (Some g) = Some (gone_view g)

abbrev pub turn_view : Inside → TurnView
turn_view t = record {
  program = t.query.program.value;
  settings = t.settings;
  query = record { asked = t.query.ask; requests = t.query.requests };
  number = t.number;
  steps = t.steps;
  events = t.events;
  room = t.room;
  gone = gone_of t.gone;
}

-- the part of the query
abbrev pub part_seen : TurnView → Part
part_seen t = part_of (spec_of t.program t.settings) t.query

-- A query that has made n steps and e events and has an event to come: those events came within the n steps, and no further one comes before. It reaches nothing outside.
pub record IsAhead (cs : Loaded) (s : Settings) (q : Query) (n e : ℕ) : Type 0 where
  pub more : e < length (events_of (spec_of cs s) q)
  pub before : All (λ x. x.0 ≤ n) (take e (events_of (spec_of cs s) q))
  pub later : All (λ x. n ≤ x.0) (drop e (events_of (spec_of cs s) q))
  pub inside : StaysInside (replying (world_of cs [] s.limit) q.requests) q.asked.goal (answer_term s.names q.asked)

abbrev pub Starts : TurnView → Type 0
Starts t = IsAhead t.program t.settings t.query t.steps t.events

-- what is known of each turn that has gone
pub record IsGone (t : TurnView) (g : Gone) : Type 0 where
  pub steps : t.steps + g.steps < 2 ^ 64
  pub events : t.events + length g.events < 2 ^ 64
  pub room : length g.events ≤ t.room
  -- its events are those of the query after the first ones
  pub made : g.events ≡ drop t.events (take (t.events + length g.events) (part_seen t).events)
  -- and the rest is that of the query where these are all
  pub rest : g.starved ≡ false → g.rest ≡ (if nat_le (length (part_seen t).events) (t.events + length g.events) then Some (part_seen t).rest else None)
  -- it went by some budget as the definition says
  pub turned : (budget : ℕ) × Turns (part_seen t) t.steps t.events budget t.room g.steps (length g.events) g.starved

abbrev pub IsGoneAt : TurnView → Option Gone → Type 0
IsGoneAt t None = Unit {0}
IsGoneAt t (Some g) = IsGone t g

-- what is known of every turn
pub record IsTurn (t : TurnView) : Type 0 where
  pub starts : Starts t
  pub some_room : 0 < t.room
  pub most_room : t.room ≤ most_waiting
  pub gone : IsGoneAt t t.gone

-- The step at which a turn ends: that of its last event where it is full, and otherwise the last one that it reaches.
abbrev pub ends_at : (is_full : Bool) → (last : Option ℕ) → (reaches : ℕ) → ℕ
ends_at true (Some k) n = k
ends_at b o n = n

-- the event `memory` counts as one that was made
abbrev pub told : Gone → ℕ
told g = if g.starved then length g.events + 1 else length g.events

-- The turn has gone, and tells what it made: this is as a turn is to be.
pub record Goes (budget : ℕ) (before after : TurnView) (made : Made) : Type 0 where
  pub gone : Gone
  pub after_is : after ≡ record before { gone = Some gone }
  pub steps : made.steps ≡ gone.steps
  pub events : made.events ≡ told gone
  pub turned : Turns (part_seen before) before.steps before.events budget before.room gone.steps (length gone.events) gone.starved
  pub moves : (0 < made.steps) ⊎ (0 < made.events)

-- A turn was kept: what looked like v, and whose query the turn had, looks like w after the entry, and the turn went as the definition says.
pub record Keeps (v : View) (t : TurnView) (g : Gone) (w : View) : Type 0 where
  pub program : w.program ≡ v.program
  pub settings : w.settings ≡ v.settings
  pub turned : (budget : ℕ) × Turns (part_seen t) t.steps t.events budget t.room g.steps (length g.events) g.starved
  pub seen : (p : Pengine) → p.state ≡ state.Running t.query → IsSeen v p → IsSeen w (after_entry (spec_seen v) (Given t.number g.steps (length g.events) g.starved true) p)
