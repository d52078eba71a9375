-- Laws of one pengine, whatever turns fall.
use Rattle.std.specs.Prelude.{◌≡◌, ℕ, ◌≤◌, ◌<◌, ◌+◌, Bool, List, [], length, None}
use Rattle.term_core.specs.Tree.{Tree}
use Rattle.program.specs.Loaded.{Loaded}
use Rattle.solve_model.specs.Run.{World}
use Rattle.sandbox_walk.specs.Keeping.{KeepsSandbox}
use Rattle.event_core.specs.declared.event.Event.{Event}
use Rattle.event_core.specs.declared.request.Ask.{Ask}
use Rattle.event_core.specs.declared.request.Request.{Request}
use Rattle.event_core.specs.declared.settings.Settings.{Settings}
use Rattle.event_core.specs.Parts.{Style, part}
use Rattle.event_core.specs.Laws.{Begins, StaysInside, replying}
use Rattle.event_core.specs.Full.{Spec, Query, full}
use Rattle.event_core.specs.Standing.{spec_of}
use Rattle.session.specs.After.{State, Running, Pengine, Entry, after, made, most_waiting, most_requests, waiting}
use Rattle.session.specs.Legal.{ArePossible, IsRunning, Holds, acts}
use Rattle.session.specs.TurnsKept.{IsAhead}

-- The events of a query are those that resolution gives, and no goal that the sandbox passes reaches outside.
pub record IsResolution (spec : Spec) : Type 0 where
  pub world : World
  pub fits : Tree → Bool
  pub style : Ask → Style
  pub answer : Ask → Tree
  pub chunk : Ask → ℕ
  pub is_part : (a : Ask) (rs : List Request) → spec.part a rs ≡ part world fits (style a) a.goal (answer a) (chunk a) rs
  pub inside : (a : Ask) → spec.refusal a ≡ None → (rs : List Request) → StaysInside (replying world rs) a.goal (answer a)

-- Over a program that keeps to the sandbox the events of a query are so: no call of one that may be asked reaches outside.
abbrev pub KeptProgramsResolve : Type 0
KeptProgramsResolve = (cs : Loaded) (s : Settings) → KeepsSandbox cs → IsResolution (spec_of cs s)

-- A turn starts as it is to be, over a program that keeps to the sandbox: the query that runs has an event to come, those before came within its steps, none of those to come does, and it reaches nothing outside.
abbrev pub TurnsStartWell : Type 0
TurnsStartWell =
    (cs : Loaded) (s : Settings) → KeepsSandbox cs → (es : List Entry) → ArePossible (spec_of cs s) es made →
    (q : Query) → (after (spec_of cs s) es made).state ≡ Running q → IsAhead cs s q (after (spec_of cs s) es made).steps (after (spec_of cs s) es made).events

-- nothing runs
abbrev pub IsStill : State → Type 0
IsStill (Running q) = ⊥
IsStill s = Unit {0}

-- What a pengine has emitted begins these events, and where nothing runs and no request waits it is all of them.
pub record Gives (p : Pengine) (all : List Event) : Type 0 where
  pub begins : Begins p.emitted all
  pub whole : IsStill p.state → p.mailbox ≡ [] → all ≡ p.emitted

-- The schedule doesn't matter: however requests, turns, aborts and wants of memory fall, the events are those of the list that resolution defines for the requests and strikes alone.
abbrev pub ScheduleDoesntMatter : Type 0
ScheduleDoesntMatter =
    (spec : Spec) → IsResolution spec → (es : List Entry) → ArePossible spec es made →
    Gives (after spec es made) (full spec (acts spec es made))

-- At most 64 requests wait, and 66 events.
pub record HasRoom (p : Pengine) : Type 0 where
  pub mailbox : length p.mailbox ≤ most_requests
  pub queue : waiting p ≤ most_waiting + 2

abbrev pub NoMoreWait : Type 0
NoMoreWait = (spec : Spec) (es : List Entry) → ArePossible spec es made → HasRoom (after spec es made)

-- A turn that is out and will be dropped is of an earlier query than the one that runs. So the number of its query tells whether a turn is kept.
abbrev pub LostTurnsAreOlder : Type 0
LostTurnsAreOlder =
    (spec : Spec) (es : List Entry) (k : ℕ) → Holds k (after spec es made).lost → IsRunning (after spec es made).state → k < (after spec es made).number
