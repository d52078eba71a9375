use Rattle.std.proofs.Common.{◌≡◌, drop}
use Rattle.std.specs.Option.{option_map}
use Rattle.builtin_table.specs.declared.row.Row.{Row}
use Rattle.builtin_table.specs.Table.{row_of}
use Rattle.library_check.specs.Tables.{rows_in}
use Rattle.library_check.proofs.tables.find.Given as goal

abbrev pub invariant-loop-name : goal.invariant-loop-name
invariant-loop-name l = option_map (λ (r : Row). r.metas) (row_of l.pi (rows_in (drop l.name-index l.rows))) ≡ option_map (λ (r : Row). r.metas) (row_of l.pi (rows_in l.rows))
