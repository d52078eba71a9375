use Rattle.std.proofs.Common.{◌≡◌, ◌+◌, map, take, unwrap_or}
use Rattle.std.specs.Ordering.{nat_cmp}
use Rattle.std.specs.BTreeMap.{get}
use Rattle.term_core.specs.Nodes.{map_node}
use Rattle.request_text.proofs.template.nodes_beside.Given as goal

abbrev pub invariant-loop-node : goal.invariant-loop-node
invariant-loop-node l = l.all.items ≡ map (map_node (λ n. unwrap_or (get nat_cmp l.shared n) (l.free + n))) (take l.node-index l.nodes)
