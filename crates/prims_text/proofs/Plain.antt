-- The primitives on texts have no new variables.
use Rattle.std.proofs.Common.{◌≡◌, ℕ, true, inl, inr, List, [], ◌∷◌, length, codes, refl}
use Rattle.std.specs.List.{Contains}
use Rattle.std.proofs.lemmas.Bool.{or_cases}
use Rattle.term_core.specs.Tree.{Tree}
use Rattle.builtin_table.specs.declared.spelling.Spelling.TheVariants.{Characters, Codes}
use Rattle.builtin_table.specs.Primitives.{primitive, of_two, of_three, of_five, order_named, comparison_named, of_two_terms, of_two_texts}
use Rattle.tree_offers.specs.Outcomes.{IsPlain}
use Rattle.tree_offers.proofs.Over.{at, named}
use Rattle.prims_text.specs.Rows.{is_row, is_pair_name}
use Rattle.prims_text.proofs.Texts.{atom_length_over, char_code_over, atom_spelled_over, number_spelled_over, atom_number_over, atom_concat_over, sub_atom_over}

module _ (t u : Tree) where
  abbrev both : List Tree
  both = t ∷ u ∷ []

  abbrev first : Contains both t
  first = at t [] (u ∷ [])

  abbrev second : Contains both u
  second = at u (t ∷ []) []

  abbrev Plain : List ℕ → Type 0
  Plain f = IsPlain f both

  pair_plain : (f : List ℕ) → is_pair_name f ≡ true → Plain f
  unfolding primitive of_two order_named comparison_named of_two_terms of_two_texts
  pair_plain f e = elim (or_cases _ _ e) [
    | inl h ↦ named Plain f (codes "atom_length") h (record { over = (atom_length_over both t u second).over; same = λ n. refl })
    | inr h ↦ elim (or_cases _ _ h) [
      | inl h ↦ named Plain f (codes "char_code") h (record { over = (char_code_over both t u first second).over; same = λ n. refl })
      | inr h ↦ elim (or_cases _ _ h) [
        | inl h ↦ named Plain f (codes "atom_chars") h (record { over = (atom_spelled_over both Characters t u first second).over; same = λ n. refl })
        | inr h ↦ elim (or_cases _ _ h) [
          | inl h ↦ named Plain f (codes "atom_codes") h (record { over = (atom_spelled_over both Codes t u first second).over; same = λ n. refl })
          | inr h ↦ elim (or_cases _ _ h) [
            | inl h ↦ named Plain f (codes "number_chars") h (record { over = (number_spelled_over both Characters t u first second).over; same = λ n. refl })
            | inr h ↦ elim (or_cases _ _ h) [
              | inl h ↦ named Plain f (codes "number_codes") h (record { over = (number_spelled_over both Codes t u first second).over; same = λ n. refl })
              | inr h ↦ named Plain f (codes "atom_number") h (record { over = (atom_number_over both t u first second).over; same = λ n. refl })
            ]
          ]
        ]
      ]
    ]
  ]

triple_plain : (t u v : Tree) → IsPlain (codes "atom_concat") (t ∷ u ∷ v ∷ [])
unfolding primitive of_three
triple_plain t u v = record {
  over = (atom_concat_over (t ∷ u ∷ v ∷ []) t u v (at t [] (u ∷ v ∷ [])) (at u (t ∷ []) (v ∷ [])) (at v (t ∷ u ∷ []) [])).over;
  same = λ n. refl;
}

five_plain : (t u v w x : Tree) → IsPlain (codes "sub_atom") (t ∷ u ∷ v ∷ w ∷ x ∷ [])
unfolding primitive of_five
five_plain t u v w x = record {
  over = (sub_atom_over (t ∷ u ∷ v ∷ w ∷ x ∷ []) t _ (at u (t ∷ []) (v ∷ w ∷ x ∷ [])) (at v (t ∷ u ∷ []) (w ∷ x ∷ [])) (at w (t ∷ u ∷ v ∷ []) (x ∷ [])) (at x (t ∷ u ∷ v ∷ w ∷ []) [])).over;
  same = λ n. refl;
}

pub row_plain : (f : List ℕ) (ts : List Tree) → is_row f (length ts) ≡ true → IsPlain f ts
row_plain f [] e = cc
row_plain f (t ∷ []) e = cc
row_plain f (t ∷ u ∷ []) e = pair_plain t u f e
row_plain f (t ∷ u ∷ v ∷ []) e = named (λ g. IsPlain g (t ∷ u ∷ v ∷ [])) f (codes "atom_concat") e (triple_plain t u v)
row_plain f (t ∷ u ∷ v ∷ w ∷ []) e = cc
row_plain f (t ∷ u ∷ v ∷ w ∷ x ∷ []) e = named (λ g. IsPlain g (t ∷ u ∷ v ∷ w ∷ x ∷ [])) f (codes "sub_atom") e (five_plain t u v w x)
row_plain f (t ∷ u ∷ v ∷ w ∷ x ∷ y ∷ zs) e = cc
