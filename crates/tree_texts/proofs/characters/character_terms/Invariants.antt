use Rattle.std.proofs.Common.{◌≡◌, map, take}
use Rattle.builtin_table.specs.Texts.{character_term}
use Rattle.tree_texts.proofs.characters.character_terms.Given as goal

abbrev pub invariant-loop-character : goal.invariant-loop-character
invariant-loop-character l = l.terms.items ≡ map (character_term l.spelling) (take l.character-index l.character-items)
