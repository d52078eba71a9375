use Rattle.std.proofs.Common.{arith, ap, length, get_or, List, ◌∙◌}
use Rattle.term_core.specs.declared.node.Node.{Node}
use Rattle.term_core.proofs.Apart.{some_node, first_node}
use Rattle.term_core.proofs.term.Term.symbol.Goals as goal

pub bounds-nodes-0 : goal.bounds-nodes-0
bounds-nodes-0 c = omega (arith, some_node c.args.self.now, ap length c.nodes.ensures.nodes)

pub returns : goal.returns
returns c =
    first_node c.args.self.now c.index-nodes-0.result
    (c.index-nodes-0.is ∙ ap (λ (ns : List Node). get_or ns 0 c.index-nodes-0.result) c.nodes.ensures.nodes)
