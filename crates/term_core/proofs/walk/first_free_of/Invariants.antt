use Rattle.std.proofs.Common.{◌≡◌, max, drop}
use Rattle.term_core.specs.Nodes.{nodes_variables}
use Rattle.term_core.specs.Variables.{above_all}
use Rattle.term_core.proofs.walk.first_free_of.Given as goal

abbrev pub invariant-loop-node : goal.invariant-loop-node
invariant-loop-node l =
    max l.free (above_all (nodes_variables (drop l.node-index l.nodes))) ≡ above_all (nodes_variables l.nodes)
