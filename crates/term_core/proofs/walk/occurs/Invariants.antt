use Rattle.std.proofs.Common.{◌≡◌, ◌==◌, drop}
use Rattle.std.specs.List.{list_any}
use Rattle.term_core.specs.Nodes.{nodes_variables}
use Rattle.term_core.proofs.walk.occurs.Given as goal

abbrev pub invariant-loop-node : goal.invariant-loop-node
invariant-loop-node l =
    list_any (λ n. n == l.variable) (nodes_variables (drop l.node-index l.nodes)) ≡ list_any (λ n. n == l.variable) (nodes_variables l.nodes)
