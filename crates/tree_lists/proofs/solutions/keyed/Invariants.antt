use Rattle.std.proofs.Common.{◌≡◌, map, take}
use Rattle.builtin_table.specs.Solutions.{keyed}
use Rattle.tree_lists.proofs.solutions.keyed.Given as goal

abbrev pub invariant-loop-solution : goal.invariant-loop-solution
invariant-loop-solution l = l.all.items ≡ map keyed (take l.solution-index l.solutions)
