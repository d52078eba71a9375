-- What the calls of a session answer.
use Rattle.std.specs.Prelude.{ℕ, Bool, true, false, ◌&&◌, ◌==◌, if◌then◌else◌, List, [], ◌∷◌, length, take, nat_lt}
use Rattle.event_core.specs.declared.event.Event.{Event}
use Rattle.event_core.specs.declared.event.Event.TheVariants as event
use Rattle.session.specs.declared.answers.Given.{Given}
use Rattle.session.specs.declared.answers.Given.TheVariants as given
use Rattle.session.specs.declared.answers.Pulled.{Pulled}
use Rattle.session.specs.declared.answers.Pulled.TheVariants as pulled
use Rattle.session.specs.declared.answers.PulledMany.{PulledMany}
use Rattle.session.specs.declared.answers.PulledMany.TheVariants as many
use Rattle.session.specs.declared.took.Took.{Took}
use Rattle.session.specs.declared.took.Took.TheVariants as took
use Rattle.session.specs.After.{most_waiting}
use Rattle.session.specs.Views.{Look, Running, Out, Ended, View, turn_at}

abbrev pub is_ended : Look → Bool
is_ended Ended = true
is_ended l = false

-- the first event that waits, with its number
abbrev pub pulls_at : View → List Event → Pulled
pulls_at v [] = if is_ended v.look then pulled.Ended else pulled.Pending
pulls_at v (e ∷ es) = pulled.Event v.pulled e

abbrev pub pulls : View → Pulled
pulls v = pulls_at v v.queue

-- the events that wait, at most n of them, with the number of the first
abbrev pub pulls_many_at : ℕ → View → List Event → PulledMany
pulls_many_at n v [] = if is_ended v.look then many.Ended else many.Pending
pulls_many_at n v (e ∷ es) = many.Events (record { first = v.pulled; events = take n (e ∷ es) })

abbrev pub pulls_many : ℕ → View → PulledMany
pulls_many n v = pulls_many_at n v v.queue

-- it has ended, and all its events were pulled
abbrev pub is_gone : View → Bool
is_gone v = is_ended v.look && (length v.queue == 0)

-- A turn is given where the query runs, none of its turns is out and the queue isn't full.
abbrev pub takes_at : View → Look → Took
takes_at v (Running q) = if nat_lt (length v.queue) most_waiting then took.Turn (turn_at v q) else took.QueueFull
takes_at v (Out room further) = took.Out
takes_at v l = took.Idle

abbrev pub takes : View → Took
takes v = takes_at v v.look

abbrev pub is_turn : Took → Bool
is_turn (took.Turn t) = true
is_turn a = false

abbrev pub ready : View → Bool
ready v = is_turn (takes v)

-- the event `destroy`, unless it came before
abbrev pub last_of : Look → List Event
last_of l = if is_ended l then [] else event.Destroy ∷ []

-- A turn is kept where its query is the one that is out.
abbrev pub is_present : Look → (number of : ℕ) → Bool
is_present (Out room further) n k = n == k
is_present l n k = false

abbrev pub is_kept : Given → Bool
is_kept given.Kept = true
is_kept given.Dropped = false

abbrev pub gives : View → (of : ℕ) → Given
gives v k = if is_present v.look v.number k then given.Kept else given.Dropped
