-- The tokens of a layout's items are those of its reading.
use Rattle.std.specs.Prelude.{◌≡◌, refl, ℕ, ℤ, pos, negsuc, Bool, true, List, ◌∷◌}
use Rattle.std.proofs.Common.{ap, ◌∙◌}
use Rattle.prolog_grammar.specs.declared.grammar.lexeme.Lexeme.TheVariants.{Name, Open, OpenList, OpenCurly, Comma, Bar}
use Rattle.prolog_grammar.specs.Readings.{yield, elements}
use Rattle.read_back.proofs.Spelled.{Item, mark_item, prefix_item, infix_item, close_round, close_square, close_curly, comma, bar, word, infix_lexeme, is_tight, lexemes}
use Rattle.read_back.proofs.TermLayout.{Layout, unknown, number, plain, call, round, curly, listed, partial, before, between, Layouts, one, and, items, all_items, integer_reading, read_as, all_read_as}

-- the key of each variable
module _ (key : ℕ → ℕ) where
  number_yields : (d : Bool) (z : ℤ) (xs : List Item) → lexemes key d (items (number z) xs) ≡ yield (integer_reading d z) (lexemes key true xs)
  unfolding lexemes items yield
  number_yields d (pos n) xs = refl
  number_yields d (negsuc n) xs = refl

  mutual
    unfolding lexemes items all_items read_as all_read_as yield elements

    pub yields : (d : Bool) (l : Layout) (xs : List Item) → lexemes key d (items l xs) ≡ yield (read_as key d l) (lexemes key true xs)
    yields d (unknown n) xs = refl
    yields d (number z) xs = number_yields d z xs
    yields d (plain f) xs = refl
    yields d (call f ls) xs = ap (λ ks. Name (word f) ∷ Open true ∷ ks) (all_yield ls (mark_item close_round ∷ xs))
    yields d (round l) xs = ap (λ ks. Open d ∷ ks) (yields true l (mark_item close_round ∷ xs))
    yields d (curly l) xs = ap (λ ks. OpenCurly ∷ ks) (yields true l (mark_item close_curly ∷ xs))
    yields d (listed ls) xs = ap (λ ks. OpenList ∷ ks) (all_yield ls (mark_item close_square ∷ xs))
    yields d (partial ls l) xs =
        ap (λ ks. OpenList ∷ ks) (all_yield ls (mark_item bar ∷ items l (mark_item close_square ∷ xs))
        ∙ ap (λ ks. elements (all_read_as key ls) (Bar ∷ ks)) (yields true l (mark_item close_square ∷ xs)))
    yields d (before f o l) xs = ap (λ ks. Name (word f) ∷ ks) (yields (is_tight (prefix_item f)) l xs)
    yields d (between l f o r) xs =
        yields d l (infix_item f ∷ items r xs)
        ∙ ap (λ ks. yield (read_as key d l) (infix_lexeme f ∷ ks)) (yields (is_tight (infix_item f)) r xs)

    all_yield : (ls : Layouts) (xs : List Item) → lexemes key true (all_items ls xs) ≡ elements (all_read_as key ls) (lexemes key true xs)
    all_yield (one l) xs = yields true l xs
    all_yield (and l ls) xs =
        yields true l (mark_item comma ∷ all_items ls xs)
        ∙ ap (λ ks. yield (read_as key true l) (Comma ∷ ks)) (all_yield ls xs)
