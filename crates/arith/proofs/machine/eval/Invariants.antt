use Rattle.std.proofs.Common.{◌≡◌, reverse}
use Rattle.std.specs.List.{All}
use Rattle.builtin_table.specs.Arithmetic.{value_of}
use Rattle.store.specs.Cells.{tree_of}
use Rattle.arith.specs.Machine.{IsTask, run}
use Rattle.arith.proofs.machine.eval.Given as goal

abbrev pub invariant-loop-i : goal.invariant-loop-i
invariant-loop-i l = record {
  tasks : All (IsTask l.store) l.tasks.items;
  left : run l.store (reverse l.tasks.items) (reverse l.values.items) ≡ value_of (tree_of l.store l.fn.c);
}
