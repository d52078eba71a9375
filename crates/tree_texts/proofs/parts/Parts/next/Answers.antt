use Rattle.std.proofs.Common.{ap, sym, ◌∙◌, ◌∷◌, ◌+◌}
use Rattle.tree_results.specs.Placed.{Result}
use Rattle.tree_texts.specs.Parts.{parts_of}
use Rattle.tree_texts.proofs.NextPart.{next_part}
use Rattle.tree_texts.proofs.parts.Parts.next.Goals as goal

pub returns-in_ok-offer-in-Some-clause-ok : goal.returns-in_ok-offer-in-Some-clause-ok
returns-in_ok-offer-in-Some-clause-ok c =
    next_part c.args.self.now c.in-Some.start c.in-Some.len (sym c.in-Some.ensures)
    ∙ ap (λ (o : Result). o ∷ parts_of (record c.args.self.now { start = c.in-Some.start; len = c.in-Some.len + 1 })) (sym c.in_ok-offer-in-Some.ensures)
