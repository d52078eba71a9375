-- What a session comes to when the query that runs is run to its rest, and nothing else is sent.
use Rattle.std.specs.Prelude.{◌≡◌, ℕ, ◌+◌, ◌<◌, ◌^◌, List, [], ◌∷◌, Option, Some, None}
use Rattle.event_core.specs.declared.event.Event.{Event}
use Rattle.event_core.specs.Full.{Place, Free, In, Closed, Reading, at, gives_all_at}
use Rattle.session.specs.Views.{Look, Idle, Running, Out, More, Prompting, Ended, View, spec_seen}
use Rattle.session.specs.Recorded.{IsRecorded}

-- where it stands; of a query that is out nothing is seen
abbrev pub place_of : Look → ℕ → Place
place_of Idle e = Free
place_of (Running q) e = In q e
place_of (Out room further) e = Free
place_of (More q) e = In q e
place_of (Prompting q) e = In q e
place_of Ended e = Closed

-- the place of its rest, and the events that are pulled up to there
abbrev pub comes : View → Reading
comes v = gives_all_at (spec_seen v) (place_of v.look v.events) v.queue

-- no turn is out
abbrev pub IsHome : Look → Type 0
IsHome (Out room further) = ⊥
IsHome l = Unit {0}

-- nothing runs
abbrev pub IsStill : Look → Type 0
IsStill (Running q) = ⊥
IsStill (Out room further) = ⊥
IsStill l = Unit {0}

-- It looks as a pengine does after entries that it can have, no request waits, and no turn is out.
pub record IsLed (v : View) : Type 0 where
  pub recorded : IsRecorded v
  pub mailbox : v.mailbox ≡ []
  pub home : IsHome v.look

-- All its events were pulled, and nothing runs.
pub record Rests (v : View) : Type 0 where
  pub queue : v.queue ≡ []
  pub still : IsStill v.look

-- It was led on over the same program with the same settings, and comes to this now.
pub record Leads (v w : View) (x : Reading) : Type 0 where
  pub led : IsLed w
  pub program : w.program ≡ v.program
  pub settings : w.settings ≡ v.settings
  pub comes_to : comes w ≡ x

-- This event was pulled: it is the first of those to come.
pub record Hears (v : View) (e : Event) (w : View) : Type 0 where
  pub led : IsLed w
  pub program : w.program ≡ v.program
  pub settings : w.settings ≡ v.settings
  pub heard : comes v ≡ at (comes w).place (e ∷ (comes w).emitted)

-- A turn of its query came back, which made a step or an event.
pub record RunsOn (v w : View) : Type 0 where
  pub leads : Leads v w (comes v)
  pub further : v.steps + v.events < w.steps + w.events
  pub steps : w.steps < 2 ^ 64
  pub events : w.events < 2 ^ 64
