use Rattle.std.proofs.Common.{◌≡◌, map, take}
use Rattle.term_core.specs.Tree.{variable}
use Rattle.tree_results.proofs.variables.variable_terms.Given as goal

abbrev pub invariant-loop-number : goal.invariant-loop-number
invariant-loop-number l = l.variables.items ≡ map variable (take l.number-index l.numbers)
