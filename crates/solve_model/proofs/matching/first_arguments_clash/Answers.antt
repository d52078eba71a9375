use Rattle.std.proofs.Common.{List, get_or, length, ap, arith, sym, ◌∙◌}
use Rattle.term_core.specs.declared.node.Node.{Node}
use Rattle.solve_model.proofs.ClashLemmas.{no_unifier}
use Rattle.solve_model.proofs.matching.first_arguments_clash.Goals as goal

pub returns : goal.returns
returns c = λ yes base s.
    no_unifier c.args.goal.now c.args.head.now c.index-mine-1.result c.index-other-1.result
    (omega (arith, ap length c.nodes-mine.ensures.nodes)) (omega (arith, ap length c.nodes-other.ensures.nodes))
    (c.index-mine-1.is ∙ ap (λ (ns : List Node). get_or ns 1 c.index-mine-1.result) c.nodes-mine.ensures.nodes)
    (c.index-other-1.is ∙ ap (λ (ns : List Node). get_or ns 1 c.index-other-1.result) c.nodes-other.ensures.nodes)
    (sym c.nodes_clash.ensures ∙ yes) base s
