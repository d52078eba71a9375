use Rattle.std.proofs.Common.{ap, ◌∙◌, ◌==◌, length, List, ℕ}
use Rattle.term_core.specs.Nodes.{nodes_variables}
use Rattle.term_core.proofs.Renaming.{nodes_variables-flatten}
use Rattle.tree_terms.proofs.kinds.is_ground.Goals as goal

pub loop-node-init : goal.loop-node-init
loop-node-init c =
    ap (λ (ns : List ℕ). length ns == 0) (ap nodes_variables c.nodes-node-items.ensures.nodes ∙ nodes_variables-flatten c.args.term.now)
