use Rattle.std.proofs.Common.{◌≡◌, ◌++◌, take}
use Rattle.std.specs.List.{flat_map}
use Rattle.term_core.specs.Nodes.{node_under}
use Rattle.term_core.proofs.walk.append_applied.Given as goal

abbrev pub invariant-loop-node : goal.invariant-loop-node
invariant-loop-node l =
    l.all.items ≡ l.initial.all.items ++ flat_map (node_under l.pairs) (take l.node-index l.nodes)
