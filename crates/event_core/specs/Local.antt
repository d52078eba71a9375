-- What a query comes to by itself: all its answers, and how it ends (Lager and Wielemaker, TPLP 2014, section 3).
use Rattle.std.specs.Prelude.{◌≡◌, ℕ, Bool, true, false, List, [], ◌∷◌, ◌++◌, map, Option, Some, None}
use Rattle.term_core.specs.Tree.{Tree}
use Rattle.program.specs.Loaded.{Loaded}
use Rattle.solve_model.specs.Run.{World}
use Rattle.sandbox_walk.specs.Keeping.{KeepsSandbox}
use Rattle.event_core.specs.declared.stop.Stop.{Stop}
use Rattle.event_core.specs.declared.stop.Stop.TheVariants as stop
use Rattle.event_core.specs.declared.event.Kind.{Kind}
use Rattle.event_core.specs.declared.event.Event.{Event}
use Rattle.event_core.specs.declared.event.Event.TheVariants as event
use Rattle.event_core.specs.declared.event.EventName.{EventName}
use Rattle.event_core.specs.declared.event.EventName.TheVariants as name
use Rattle.event_core.specs.declared.request.Ask.{Ask}
use Rattle.event_core.specs.declared.request.Request.{Request}
use Rattle.event_core.specs.declared.settings.Settings.{Settings}
use Rattle.event_core.specs.declared.local.End.{End}
use Rattle.event_core.specs.declared.local.End.TheVariants.{NoMore, Failure, Ball, Limit, Prompt, Memory}
use Rattle.event_core.specs.declared.local.Answers.{Answers}
use Rattle.event_core.specs.Stops.{stops}
use Rattle.event_core.specs.Parts.{Style, part, replies}
use Rattle.event_core.specs.Summaries.{IsComplete}
use Rattle.event_core.specs.Laws.{StaysInside, replying}
use Rattle.event_core.specs.Refusals.{refusal_of}
use Rattle.event_core.specs.Standing.{stops_for, spec_of}

-- what an event is called; a protocol error is told as an error
abbrev pub name_of : Event → EventName
name_of event.Create = name.Create
name_of (event.Success ts names more) = name.Success
name_of event.Failure = name.Failure
name_of (event.Error b) = name.Error
name_of (event.Protocol k) = name.Error
name_of (event.Output t) = name.Output
name_of (event.Prompt t) = name.Prompt
name_of event.Stop = name.Stop
name_of event.Abort = name.Abort
name_of event.Destroy = name.Destroy
name_of event.Limit = name.Limit
name_of event.Memory = name.Memory

abbrev pub ended : List Tree → End → Option Answers
ended ts e = Some (record { answers = ts; end = e })

-- no further answer, after these
abbrev pub none_left : List Tree → End
none_left [] = Failure
none_left (t ∷ ts) = NoMore

-- One stop, after these answers; `go` reads the stops behind it. A query that reaches outside comes to nothing.
abbrev pub local_step : Stop → (got : List Tree) → (go : List Tree → Option Answers) → Option Answers
local_step (stop.Found t true) got go = go (got ++ t ∷ [])
local_step (stop.Found t false) got go = ended (got ++ t ∷ []) NoMore
local_step (stop.Output t) got go = go got
local_step (stop.Prompt t) got go = ended got (Prompt t)
local_step stop.NoMore got go = ended got (none_left got)
local_step (stop.Ball b) got go = ended got (Ball b)
local_step stop.Limit got go = ended got Limit
local_step (stop.Outside i) got go = None

-- what stops come to, after these answers
unfoldable pub local_from : List (ℕ × Stop) → (got : List Tree) → Option Answers
local_from [] got = None
local_from (p ∷ ps) got = local_step p.1 got (local_from ps)

-- A local run, of a goal with this refusal and these stops without replies.
abbrev pub local : (refusal : Option Tree) → List (ℕ × Stop) → Option Answers
local None ps = local_from ps []
local (Some t) ps = ended [] (Ball t)

-- One event of a query, after these answers; `go` reads the events behind it. Nothing is made of an event that isn't of a query.
abbrev pub heard_step : Event → (got : List Tree) → (go : List Tree → Option Answers) → Option Answers
heard_step (event.Success ts names true) got go = go (got ++ ts)
heard_step (event.Success ts names false) got go = ended (got ++ ts) NoMore
heard_step event.Failure got go = ended got (none_left got)
heard_step (event.Error b) got go = ended got (Ball b)
heard_step (event.Output t) got go = go got
heard_step (event.Prompt t) got go = ended got (Prompt t)
heard_step event.Limit got go = ended got Limit
heard_step event.Memory got go = ended got Memory
heard_step e got go = None

-- what a client makes of the events of a query, up to the first that ends it, after these answers
unfoldable pub heard_from : List Event → (got : List Tree) → Option Answers
heard_from [] got = None
heard_from (e ∷ es) got = heard_step e got (heard_from es)

-- A protocol error is told as an error, with its term: the two have the same bytes.
abbrev pub as_told : (protocol : Kind → Tree) → Event → Event
as_told protocol (event.Protocol k) = event.Error (protocol k)
as_told protocol e = e

-- the events of a query as a client reads them
abbrev pub tellings : (protocol : Kind → Tree) → List (ℕ × Event) → List Event
tellings protocol es = map (λ x. as_told protocol x.1) es

-- What a client makes of all events of a query that was asked enough is what the local run comes to, whatever the size of the chunks.
abbrev pub ReadsAreLocal : Type 0
ReadsAreLocal =
    (protocol : Kind → Tree) (w : World) (fits : Tree → Bool) (style : Style) (g t : Tree) (c : ℕ) (rs : List Request) → replies rs ≡ [] → StaysInside (replying w []) g t →
    IsComplete (part w fits style g t c rs) →
    (x : Answers) × (heard_from (tellings protocol (part w fits style g t c rs).events) [] ≡ Some x) × (local None (stops fits (replying w []) g t) ≡ Some x)

-- Over a program that keeps to the sandbox: the same of a query that may be asked and that nobody replies to, where the pengine has these settings.
abbrev pub AskedReadsAreLocal : Type 0
AskedReadsAreLocal =
    (protocol : Kind → Tree) (l : Loaded) (s : Settings) (a : Ask) → KeepsSandbox l → refusal_of l a ≡ None → (rs : List Request) → replies rs ≡ [] → IsComplete ((spec_of l s).part a rs) →
    (x : Answers) × (heard_from (tellings protocol ((spec_of l s).part a rs).events) [] ≡ Some x) × (local (refusal_of l a) (stops_for l s a []) ≡ Some x)
