use Rattle.std.proofs.Common.{◌≡◌, drop}
use Rattle.op_table.specs.Table.{row}
use Rattle.op_table.proofs.ops.find.Given as goal

abbrev pub invariant-loop-row : goal.invariant-loop-row
invariant-loop-row l = row l.name (drop l.row-index l.rows) ≡ row l.name l.rows
