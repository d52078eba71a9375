use Rattle.std.proofs.Common.{arith, ap, length, subst, sym, ◌∙◌}
use Rattle.std.proofs.lemmas.List.{length-drop}
use Rattle.term_core.specs.Flat.{build}
use Rattle.term_core.specs.Preorder.{AreTermNodes}
use Rattle.term_core.proofs.Slices.{to_end}
use Rattle.term_core.proofs.Preorder.{AreTermNodes-drop}
use Rattle.term_core.proofs.Apart.{moves_on}
use Rattle.term_core.proofs.parts.behind_first.Goals as goal

pub returns-clause-terms : goal.returns-clause-terms
returns-clause-terms c =
    subst AreTermNodes (sym (to_end c.end_of-end.result c.args.nodes.now)) (AreTermNodes-drop c.end_of-end.result c.args.nodes.now c.requires.terms)

pub returns-clause-trees : goal.returns-clause-trees
returns-clause-trees c = ap build (to_end c.end_of-end.result c.args.nodes.now) ∙ c.end_of-end.ensures.after

pub returns-clause-fewer : goal.returns-clause-fewer
returns-clause-fewer c =
    omega (arith, ap length (to_end c.end_of-end.result c.args.nodes.now), length-drop c.end_of-end.result c.args.nodes.now, moves_on c.args.nodes.now c.end_of-end.result c.requires.some c.end_of-end.ensures.after, c.requires.some)
