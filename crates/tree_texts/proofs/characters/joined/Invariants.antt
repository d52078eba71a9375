use Rattle.std.proofs.Common.{◌≡◌, drop}
use Rattle.builtin_table.specs.Texts.{joined}
use Rattle.tree_texts.proofs.Joined.{after}
use Rattle.tree_texts.proofs.characters.joined.Given as goal

abbrev pub invariant-loop-term : goal.invariant-loop-term
invariant-loop-term l = after l.characters (joined l.spelling (drop l.term-index l.terms)) ≡ joined l.spelling l.terms
