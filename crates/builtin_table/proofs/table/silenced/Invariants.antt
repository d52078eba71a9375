use Rattle.std.proofs.Common.{◌≡◌, map}
use Rattle.builtin_table.specs.Table.{silenced}
use Rattle.builtin_table.proofs.table.silenced.Given as goal

abbrev pub invariant-loop-pi : goal.invariant-loop-pi
invariant-loop-pi l = l.silent.items ≡ map silenced l.yielded
