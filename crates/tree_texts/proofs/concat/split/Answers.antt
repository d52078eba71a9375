use Rattle.std.proofs.Common.{ℕ, List, ap, ◌∙◌}
use Rattle.builtin_table.specs.Outcomes.{Offers}
use Rattle.builtin_table.specs.Texts.{splits_from}
use Rattle.tree_texts.proofs.Placing.{splits_placed}
use Rattle.tree_texts.proofs.concat.split.Goals as goal

pub returns : goal.returns
returns c = λ a b d.
    splits_placed a b d c.in_ok-characters.characters.items ∙ ap (λ (cs : List ℕ). Offers (splits_from a b cs 0)) c.in_ok-characters.ensures
