use Rattle.std.proofs.Common.{◌≡◌, take}
use Rattle.builtin_table.specs.Table.{reserved_of}
use Rattle.builtin_table.proofs.table.reserved_in.Given as goal

abbrev pub invariant-loop-pi : goal.invariant-loop-pi
invariant-loop-pi l = l.reserved.items ≡ reserved_of (take l.pi-index l.rows)
