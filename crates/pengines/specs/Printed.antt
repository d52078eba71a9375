-- The lines that a script under way still prints, by the session that it leads.
use Rattle.std.specs.Prelude.{◌≡◌, Bool, true, false, ℕ, List, [], ◌∷◌, ◌++◌, map, Option, Some, None, codes}
use Rattle.event_core.specs.declared.event.Event.{Event}
use Rattle.event_core.specs.declared.event.Event.TheVariants.{Create}
use Rattle.event_core.specs.Lines.{line_of}
use Rattle.event_core.specs.Texts.{argument}
use Rattle.request_text.specs.declared.sent.Sent.{Sent}
use Rattle.request_text.specs.Lines.{lines_with_late, lines_left}
use Rattle.session.specs.Answers.{is_ended}
use Rattle.session.specs.Resting.{comes, IsLed, Rests}
use Rattle.session.specs.Views.{View, spec_seen}
use Rattle.pengines.specs.declared.leading.Told.{Told}
use Rattle.pengines.specs.declared.leading.Told.TheVariants as told

-- the event `create` comes first
abbrev pub with_create : (begun : Bool) → List Event → List Event
with_create true es = es
with_create false es = Create ∷ es

-- A session that was destroyed is none: what is sent after that is late.
abbrev pub left : Option View → (begun : Bool) → List Sent → List (List ℕ)
left None begun ss = lines_with_late (with_create begun []) ss
left (Some v) begun ss = lines_left (spec_seen v) (with_create begun (comes v).emitted) ss (comes v).place

abbrev pub IsLedOn : Option View → Type 0
IsLedOn None = Unit {0}
IsLedOn (Some v) = IsLed v

-- it rests and has told all
abbrev pub HasTold : Option View → Type 0
HasTold None = Unit {0}
HasTold (Some v) = Rests v

abbrev pub is_over : Option View → Bool
is_over None = true
is_over (Some v) = is_ended v.look

-- After these were sent, and these events told, the lines are those that are left.
abbrev pub Tells : Option View → List Sent → List Event → Option View → Type 0
Tells v ss es w = (more : List Sent) → left v true (ss ++ more) ≡ map (line_of argument) es ++ left w true more

abbrev pub events_told : Option Event → List Event
events_told None = []
events_told (Some e) = e ∷ []

-- The line of what is printed next: of an event, or that a request was late.
abbrev pub line_told : Told → List ℕ
line_told (told.Event e) = line_of argument e
line_told told.Late = codes "ended"

abbrev pub lines_told : Option Told → List (List ℕ)
lines_told None = []
lines_told (Some t) = line_told t ∷ []
