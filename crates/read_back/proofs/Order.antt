-- The variables of a term's items are those of the term, in the same order.
use Rattle.std.specs.Prelude.{◌≡◌, refl, ℕ, pos, negsuc, Bool, true, false, List, [], ◌∷◌, ◌++◌}
use Rattle.std.proofs.Common.{ap, ◌∙◌, sym, append_assoc, append-nil}
use Rattle.term_core.specs.Tree.{Tree, variable, integer, atom, compound, Trees, no_trees, tree, IsTerm}
use Rattle.term_core.specs.Variables.{occurrences, all_occurrences, map_variables, map_all_variables}
use Rattle.prolog_grammar.specs.Readings.{Reading, Readings, meaning, meanings, cells, nil}
use Rattle.prolog_grammar.specs.Readings as g
use Rattle.prolog_write.specs.declared.mode.Mode.{Mode}
use Rattle.prolog_write.specs.declared.place.Place.{Place}
use Rattle.read_back.proofs.Spelled.{Item, mark_item, infix_item, close_round, close_square, close_curly, comma, bar, is_tight, item_variables}
use Rattle.read_back.proofs.TermLayout.{Layout, unknown, number, plain, call, round, curly, listed, partial, before, between, Layouts, one, and, layout, items, all_items, read_as, all_read_as}
use Rattle.read_back.proofs.Meaning.{means}

abbrev same : ℕ → ℕ
same n = n

mutual
  map_variables-same : (t : Tree) → map_variables same t ≡ t
  map_variables-same (variable n) = refl
  map_variables-same (integer z) = refl
  map_variables-same (atom f) = refl
  map_variables-same (compound f ts) = ap (compound f) (map_all_variables-same ts)

  map_all_variables-same : (ts : Trees) → map_all_variables same ts ≡ ts
  map_all_variables-same no_trees = refl
  map_all_variables-same (tree t ts) = rw (map_variables-same t, map_all_variables-same ts) refl

abbrev met : Reading → List ℕ
met r = occurrences (meaning r)

abbrev all_met : Readings → List ℕ
all_met rs = all_occurrences (meanings rs)

met-cells : (rs : Readings) (t : Tree) → occurrences (cells rs t) ≡ all_met rs ++ occurrences t
unfolding meanings cells
met-cells (g.one r) t = rw (append-nil (occurrences t), append-nil (met r)) refl
met-cells (g.and r rs) t = rw (met-cells rs t, append-nil (all_met rs ++ occurrences t)) (sym (append_assoc (met r) (all_met rs) (occurrences t)))

mutual
  unfolding items all_items item_variables read_as all_read_as meaning meanings

  order : (d : Bool) (l : Layout) (xs : List Item) → item_variables (items l xs) ≡ met (read_as same d l) ++ item_variables xs
  order d (unknown n) xs = refl
  order d (number (pos n)) xs = refl
  order d (number (negsuc n)) xs = refl
  order d (plain f) xs = refl
  order d (call f ls) xs = all_order ls (mark_item close_round ∷ xs)
  order d (round l) xs = order true l (mark_item close_round ∷ xs)
  order d (curly l) xs = rw (append-nil (met (read_as same true l))) (order true l (mark_item close_curly ∷ xs))
  order d (listed ls) xs =
      rw (met-cells (all_read_as same ls) (atom nil), append-nil (all_met (all_read_as same ls))) (all_order ls (mark_item close_square ∷ xs))
  order d (partial ls l) xs =
      rw (met-cells (all_read_as same ls) (meaning (read_as same true l)), append_assoc (all_met (all_read_as same ls)) (met (read_as same true l)) (item_variables xs))
      (all_order ls (mark_item bar ∷ items l (mark_item close_square ∷ xs)) ∙ ap (λ ns. all_met (all_read_as same ls) ++ ns) (order true l (mark_item close_square ∷ xs)))
  order d (before f o l) xs = rw (append-nil (met (read_as same false l))) (order false l xs)
  order d (between l f o r) xs =
      let e = is_tight (infix_item f) in
      rw (append-nil (met (read_as same e r)), append_assoc (met (read_as same d l)) (met (read_as same e r)) (item_variables xs))
      (order d l (infix_item f ∷ items r xs) ∙ ap (λ ns. met (read_as same d l) ++ ns) (order e r xs))

  all_order : (ls : Layouts) (xs : List Item) → item_variables (all_items ls xs) ≡ all_met (all_read_as same ls) ++ item_variables xs
  all_order (one l) xs = rw (append-nil (met (read_as same true l))) (order true l xs)
  all_order (and l ls) xs =
      rw (append_assoc (met (read_as same true l)) (all_met (all_read_as same ls)) (item_variables xs))
      (order true l (mark_item comma ∷ all_items ls xs) ∙ ap (λ ns. met (read_as same true l) ++ ns) (all_order ls xs))

pub item_variables-items : (m : Mode) (t : Tree) (at : Place) → IsTerm t → item_variables (items (layout m t at) []) ≡ occurrences t
unfolding item_variables
item_variables-items m t at h =
    order true (layout m t at) [] ∙ append-nil (met (read_as same true (layout m t at))) ∙ ap occurrences (means same m t at h true ∙ map_variables-same t)
