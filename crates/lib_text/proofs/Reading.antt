-- The terms that are read of a text, as programs take them.
use Rattle.std.proofs.Common.{◌≡◌, ℕ, zero, suc, ◌+◌, List, [], ◌∷◌, map, length, get_or, All, refl, ap, ◌∙◌, arith, length-append}
use Rattle.term_core.specs.declared.read_term.ReadTerm.{ReadTerm}
use Rattle.term_core.specs.Tree.{Tree}
use Rattle.term_core.specs.Variables.{first_free}
use Rattle.prolog_read.specs.Variables as reader
use Rattle.prolog_read.specs.Outcome.{read_as}
use Rattle.program.specs.Source.{IsNumbered, AreNumbered, trees_read}

length-numbers_below : (n : ℕ) → length (reader.numbers_below n) ≡ n
length-numbers_below zero = refl
length-numbers_below (suc n) = length-append (reader.numbers_below n) (n ∷ []) ∙ ap (λ k. k + 1) (length-numbers_below n) ∙ omega arith

numbered : (t : Tree) → reader.IsNumbered t → IsNumbered t
numbered t h = ap length h ∙ length-numbers_below (first_free t)

pub all_numbered : (rs : List ReadTerm) → All (λ r. reader.IsNumbered r.term) rs → AreNumbered rs
all_numbered rs h = λ k d lt. numbered (get_or rs k d).term (h k d lt)

pub trees_are : (xs : List ReadTerm) → map (λ x. x.0) (map read_as xs) ≡ trees_read xs
trees_are [] = refl
trees_are (x ∷ xs) = ap (λ ts. x.term ∷ ts) (trees_are xs)
