use Rattle.std.proofs.Common.{◌≡◌, take}
use Rattle.builtin_table.specs.Table.{rows_of}
use Rattle.builtin_table.proofs.table.copied.Given as goal

abbrev pub invariant-loop-name : goal.invariant-loop-name
invariant-loop-name l = l.copies.items ≡ rows_of (take l.name-index l.rows)
