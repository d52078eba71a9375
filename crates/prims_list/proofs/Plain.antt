-- The primitives on lists have no new variables.
use Rattle.std.proofs.Common.{◌≡◌, ℕ, true, inl, inr, List, [], ◌∷◌, length, codes, refl}
use Rattle.std.specs.List.{Contains}
use Rattle.std.proofs.lemmas.Bool.{or_cases}
use Rattle.term_core.specs.Tree.{Tree}
use Rattle.builtin_table.specs.Primitives.{primitive, of_two, of_three, order_named, comparison_named, of_two_terms, of_two_texts, of_two_lists}
use Rattle.tree_offers.specs.Outcomes.{IsPlain}
use Rattle.tree_offers.proofs.Over.{at, named}
use Rattle.prims_list.specs.Rows.{is_row, is_pair_name}
use Rattle.prims_list.proofs.Sorted.{msort_over, sort_over, keysort_over, skip_list_over}

module _ (t u : Tree) where
  abbrev both : List Tree
  both = t ∷ u ∷ []

  abbrev second : Contains both u
  second = at u (t ∷ []) []

  abbrev Plain : List ℕ → Type 0
  Plain f = IsPlain f both

  pair_plain : (f : List ℕ) → is_pair_name f ≡ true → Plain f
  unfolding primitive of_two order_named comparison_named of_two_terms of_two_texts of_two_lists
  pair_plain f e = elim (or_cases _ _ e) [
    | inl h ↦ named Plain f (codes "msort") h (record { over = (msort_over both u _ second).over; same = λ n. refl })
    | inr h ↦ elim (or_cases _ _ h) [
      | inl h ↦ named Plain f (codes "sort") h (record { over = (sort_over both u _ second).over; same = λ n. refl })
      | inr h ↦ named Plain f (codes "keysort") h (record { over = (keysort_over both u _ second).over; same = λ n. refl })
    ]
  ]

triple_plain : (t u v : Tree) → IsPlain (codes "$skip_list") (t ∷ u ∷ v ∷ [])
unfolding primitive of_three
triple_plain t u v = record {
  over = (skip_list_over (t ∷ u ∷ v ∷ []) t u v (at u (t ∷ []) (v ∷ [])) (at v (t ∷ u ∷ []) [])).over;
  same = λ n. refl;
}

pub row_plain : (f : List ℕ) (ts : List Tree) → is_row f (length ts) ≡ true → IsPlain f ts
row_plain f [] e = cc
row_plain f (t ∷ []) e = cc
row_plain f (t ∷ u ∷ []) e = pair_plain t u f e
row_plain f (t ∷ u ∷ v ∷ []) e = named (λ g. IsPlain g (t ∷ u ∷ v ∷ [])) f (codes "$skip_list") e (triple_plain t u v)
row_plain f (t ∷ u ∷ v ∷ w ∷ ts) e = cc
