use Rattle.std.proofs.Common.{◌≡◌, drop}
use Rattle.builtin_table.specs.Table.{row_of}
use Rattle.builtin_table.proofs.table.find.Given as goal

abbrev pub invariant-loop-other : goal.invariant-loop-other
invariant-loop-other l = row_of l.pi (drop l.other-index l.rows) ≡ row_of l.pi l.rows
