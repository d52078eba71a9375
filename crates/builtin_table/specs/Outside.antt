-- Which predicates reach outside of a run.
use Rattle.std.specs.Prelude.{Bool, true, false, Option, Some, None}
use Rattle.term_core.specs.declared.app.App.{App}
use Rattle.term_core.specs.declared.pi.Pi.{Pi}
use Rattle.builtin_table.specs.declared.row.Class.{Class}
use Rattle.builtin_table.specs.declared.row.Class.TheVariants.{Control, Safe, Meta, Library, Outside}
use Rattle.builtin_table.specs.declared.row.Row.{Row}
use Rattle.builtin_table.specs.Table.{Rows, row_of, rows_of_app}

abbrev pub is_outside : Class → Bool
is_outside Outside = true
is_outside Control = false
is_outside Safe = false
is_outside Meta = false
is_outside Library = false

abbrev pub is_outside_row : Option Row → Bool
is_outside_row None = false
is_outside_row (Some r) = is_outside r.class

-- whether the row of the predicate in these rows is of the class Outside
abbrev pub is_outside_in : Rows → Pi → Bool
is_outside_in rs pi = is_outside_row (row_of pi rs)

-- whether the predicate reaches outside in this application
unfoldable pub outside_in : App → Pi → Bool
outside_in app pi = is_outside_in (rows_of_app app) pi
