use Rattle.std.proofs.Common.{ℕ, List, ap, ◌∙◌}
use Rattle.builtin_table.specs.Outcomes.{Offers}
use Rattle.builtin_table.specs.Texts.{PartTerms, parts_from}
use Rattle.tree_texts.proofs.Placing.{parts_placed}
use Rattle.tree_texts.proofs.concat.parts.Goals as goal

pub returns : goal.returns
returns c = λ a b l r s.
    let ts : PartTerms = record { before = b; len = l; after = r; part = s } in
    parts_placed a ts c.in_ok-characters.characters.items ∙ ap (λ (cs : List ℕ). Offers (parts_from ts cs 0)) c.in_ok-characters.ensures
