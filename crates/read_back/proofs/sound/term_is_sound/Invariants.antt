use Rattle.std.proofs.Common.{ℕ, ◌<◌, get_or}
use Rattle.term_core.specs.declared.node.Node.{Node}
use Rattle.read_back.specs.Sound.{HasValue}
use Rattle.read_back.proofs.sound.term_is_sound.Given as goal

abbrev pub invariant-loop-node : goal.invariant-loop-node
invariant-loop-node l = (k : ℕ) (d : Node) → k < l.node-index → HasValue (get_or l.node-items k d)
