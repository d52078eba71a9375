use Rattle.std.proofs.Common.{◌≡◌, ◌-◌, length, drop}
use Rattle.tree_values.specs.Values.{node_values}
use Rattle.tree_values.proofs.values.evaluate.Given as goal

abbrev pub invariant-loop-i : goal.invariant-loop-i
invariant-loop-i l = l.values.items ≡ node_values (drop (length l.nodes - l.i) l.nodes)
