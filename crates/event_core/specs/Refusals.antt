-- The error of a goal that the sandbox refuses, as an event tells it.
use Rattle.std.specs.Prelude.{Bool, true, false, if◌then◌else◌, Option}
use Rattle.std.specs.Option.{option_map}
use Rattle.term_core.specs.Tree.{Tree}
use Rattle.term_core.specs.Variables.{numbered}
use Rattle.builtin_table.specs.Errors.{error_term, no_context}
use Rattle.program.specs.Loaded.{Loaded}
use Rattle.sandbox_walk.specs.declared.unsafe_goal.Unsafe.{Unsafe}
use Rattle.sandbox_walk.specs.declared.unsafe_goal.Unsafe.TheVariants.{Sandboxed, Uninstantiated, NotCallable, Memory}
use Rattle.sandbox_walk.specs.Computed.{verdict_over}
use Rattle.sandbox_walk.specs.Formal.{formal_of}
use Rattle.event_core.specs.declared.request.Ask.{Ask}
use Rattle.event_core.specs.Texts.{quoted}
use Rattle.event_core.specs.Fits.{fits}
use Rattle.event_core.specs.Stops.{resource_error}

-- the term, or the ball in its place where it doesn't fit an event
abbrev pub fitting : Tree → Tree
fitting t = if fits quoted t then t else resource_error

-- error(E, none) with this E, its variables numbered anew from 0
abbrev pub told_error : Tree → Tree
told_error formal = fitting (numbered (error_term formal no_context))

abbrev pub refused : Unsafe → Tree
refused u = told_error (formal_of u)

-- whether this is said of a goal, and not want of memory
abbrev pub is_verdict : Unsafe → Bool
is_verdict (Sandboxed i) = true
is_verdict Uninstantiated = true
is_verdict (NotCallable t) = true
is_verdict Memory = false

-- the error of a goal that the sandbox refuses over this program
unfoldable pub refusal_of : Loaded → Ask → Option Tree
refusal_of l a = option_map refused (verdict_over l a.goal)
