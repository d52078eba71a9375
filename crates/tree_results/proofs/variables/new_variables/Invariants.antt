use Rattle.std.proofs.Common.{◌≡◌}
use Rattle.builtin_table.specs.Primitives.{new_variables}
use Rattle.tree_results.proofs.variables.new_variables.Given as goal

abbrev pub invariant-loop-i : goal.invariant-loop-i
invariant-loop-i l = l.variables.items ≡ new_variables l.next l.i
