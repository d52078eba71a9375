use Rattle.std.proofs.Common.{◌≡◌, drop}
use Rattle.std.specs.List.{list_all}
use Rattle.builtin_table.specs.Table.{indicators, rows_of_app}
use Rattle.sandbox_walk.specs.Keeping.{is_closed}
use Rattle.library_check.specs.Tables.{rows_in}
use Rattle.library_check.proofs.predicates.are_closed.Given as goal

abbrev pub invariant-loop-name : goal.invariant-loop-name
invariant-loop-name l = list_all (is_closed (rows_of_app l.program.app) l.program.clauses) (indicators (rows_in (drop l.name-index l.rows))) ≡ list_all (is_closed (rows_of_app l.program.app) l.program.clauses) (indicators (rows_in l.rows))
