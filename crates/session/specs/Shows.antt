-- What a session answers, by the pengine of the definition that it looks as.
use Rattle.std.specs.Prelude.{◌≡◌, ℕ, ◌^◌, ◌-◌, ◌<◌, Bool, true, false, ◌&&◌, ◌==◌, if◌then◌else◌, nat_lt, List, length, drop, Option, Some, None}
use Rattle.program.specs.Loaded.{Loaded}
use Rattle.event_core.specs.declared.event.Event.{Event}
use Rattle.event_core.specs.declared.settings.Settings.{Settings}
use Rattle.event_core.specs.Full.{Query}
use Rattle.session.specs.declared.took.Took.{Took}
use Rattle.session.specs.declared.took.Took.TheVariants as took
use Rattle.session.specs.After.{State, Running, Ended, Pengine, waiting, most_waiting}
use Rattle.session.specs.Answers.{is_ended, is_gone, takes}
use Rattle.session.specs.Views.{View, TurnView, IsSeen}

abbrev pub has_ended : State → Bool
has_ended Ended = true
has_ended s = false

-- the events that wait
abbrev pub queue_of : Pengine → List Event
queue_of p = drop p.pulled p.emitted

-- the turn that the pengine gives
abbrev pub turn_from : Loaded → Settings → Pengine → Query → TurnView
turn_from cs s p q = record {
  program = cs;
  settings = s;
  query = q;
  number = p.number;
  steps = p.steps;
  events = p.events;
  room = most_waiting - waiting p;
  gone = None;
}

-- A turn is given where a query runs, none of its turns is out and fewer than 64 events wait.
abbrev pub takes_at : Loaded → Settings → Pengine → State → Option ℕ → Took
takes_at cs s p (Running q) None = if nat_lt (waiting p) most_waiting then took.Turn (turn_from cs s p q) else took.QueueFull
takes_at cs s p (Running q) (Some room) = took.Out
takes_at cs s p t o = took.Idle

-- What is answered is by the pengine: whether it has ended, what waits and how much, and the answer to a take. The count of events that were pulled stands still at its type's end.
pub record Shows (v : View) (p : Pengine) : Type 0 where
  pub ended : is_ended v.look ≡ has_ended p.state
  pub queue : v.queue ≡ queue_of p
  pub mailbox : v.mailbox ≡ p.mailbox
  pub waits : length v.queue ≡ waiting p
  pub gone : is_gone v ≡ (has_ended p.state && (waiting p == 0))
  pub pulled : p.pulled < 2 ^ 64 → v.pulled ≡ p.pulled
  pub takes : takes v ≡ takes_at v.program v.settings p p.state p.turn

abbrev pub AnswersAreThePengines : Type 0
AnswersAreThePengines = (v : View) (p : Pengine) → IsSeen v p → Shows v p
