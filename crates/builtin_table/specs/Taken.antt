-- Which primitives a run takes: those that its application's table has.
use Rattle.std.specs.Prelude.{ℕ, Bool, true, false, List, if◌then◌else◌, Option, Some, None}
use Rattle.term_core.specs.declared.app.App.{App}
use Rattle.term_core.specs.declared.pi.Pi.{Pi}
use Rattle.term_core.specs.Tree.{Tree}
use Rattle.builtin_table.specs.declared.row.Class.{Class}
use Rattle.builtin_table.specs.declared.row.Class.TheVariants.{Control, Safe, Meta, Library, Outside}
use Rattle.builtin_table.specs.Primitives.{Outcome, Unknown, primitive}
use Rattle.builtin_table.specs.Table.{class_of, rows_of_app}

-- a predicate of the library has clauses, and one that reaches outside is never run
abbrev pub may_be_taken : Class → Bool
may_be_taken Control = true
may_be_taken Safe = true
may_be_taken Meta = true
may_be_taken Library = false
may_be_taken Outside = false

abbrev pub is_taken_class : Option Class → Bool
is_taken_class None = false
is_taken_class (Some c) = may_be_taken c

-- whether a primitive of this indicator is taken in this application
unfoldable pub takes : App → Pi → Bool
takes app pi = is_taken_class (class_of (rows_of_app app) pi)

-- the primitive of this indicator on these arguments in this application; new variables are numbered from the next one
unfoldable pub primitive_in : App → Pi → List Tree → (next : ℕ) → Outcome
primitive_in app pi ts next = if takes app pi then primitive pi.name ts next else Unknown
