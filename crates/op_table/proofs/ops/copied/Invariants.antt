use Rattle.std.proofs.Common.{◌≡◌, take}
use Rattle.op_table.specs.Table.{rows_of}
use Rattle.op_table.proofs.ops.copied.Given as goal

abbrev pub invariant-loop-name : goal.invariant-loop-name
invariant-loop-name l = l.copies.items ≡ rows_of (take l.name-index l.rows)
