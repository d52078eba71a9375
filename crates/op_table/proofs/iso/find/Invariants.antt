use Rattle.std.proofs.Common.{◌≡◌, drop}
use Rattle.op_table.specs.Table.{row, rows_of}
use Rattle.op_table.proofs.iso.find.Given as goal

abbrev pub invariant-loop-other : goal.invariant-loop-other
invariant-loop-other l = row l.name (rows_of (drop l.other-index l.rows)) ≡ row l.name (rows_of l.rows)
