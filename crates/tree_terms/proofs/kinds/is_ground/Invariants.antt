use Rattle.std.proofs.Common.{◌≡◌, ◌==◌, drop, length}
use Rattle.term_core.specs.Nodes.{nodes_variables}
use Rattle.builtin_table.specs.Primitives.{is_ground}
use Rattle.tree_terms.proofs.kinds.is_ground.Given as goal

abbrev pub invariant-loop-node : goal.invariant-loop-node
invariant-loop-node l = (length (nodes_variables (drop l.node-index l.node-items)) == 0) ≡ is_ground l.term
