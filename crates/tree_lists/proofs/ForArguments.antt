-- Results over the witness and the list, for these two arguments.
use Rattle.std.proofs.Common.{◌≡◌, ℕ, ◌<◌, List, [], ◌∷◌, ◌++◌, map, refl, ap, arith}
use Rattle.std.specs.List.{All}
use Rattle.std.proofs.lemmas.List.Elements.{All-cons, All-nil}
use Rattle.term_core.specs.Tree.{Tree}
use Rattle.builtin_table.specs.Outcomes.{Offer}
use Rattle.builtin_table.specs.Lists.{list_of}
use Rattle.builtin_table.specs.Solutions.{Keyed, parts, groups, findall_offers, group_offer, group_offers}
use Rattle.tree_results.specs.Placed.{Result, pair_for, for_arguments}
use Rattle.tree_lists.specs.Groups.{placed_group, placed_groups, placed_list}

module _ (w l : Tree) where
  abbrev both : List Tree
  both = w ∷ l ∷ []

  pairs_for : (x : Tree) (g : List Keyed) → map (pair_for both) (map (λ (a : Keyed). (0, (parts a.1).0)) g ++ (1, x) ∷ []) ≡ map (λ (a : Keyed). (w, (parts a.1).0)) g ++ (l, x) ∷ []
  pairs_for x [] = refl
  pairs_for x (a ∷ g) = ap (λ (ps : List (Tree × Tree)). (w, (parts a.1).0) ∷ ps) (pairs_for x g)

  each_for : (f : List Tree → List Tree) (gs : List (List Keyed)) → map (for_arguments both) (map (placed_group f) gs) ≡ map (group_offer f w l) gs
  each_for f [] = refl
  each_for f (g ∷ gs) =
      let rest = each_for f gs in
      let pairs = pairs_for (list_of (f (map (λ (a : Keyed). (parts a.1).1) g))) g in
      (λ i. record { pairs = pairs i; fresh = 0 } ∷ rest i)

  pub groups_for : (f : List Tree → List Tree) (ss : List Tree) → map (for_arguments both) (placed_groups f ss) ≡ group_offers f w l ss
  groups_for f ss = each_for f (groups ss)

  pub list_for : (ss : List Tree) → map (for_arguments both) (placed_list ss ∷ []) ≡ findall_offers l ss
  list_for ss = refl

abbrev pub IsWithin : (count : ℕ) → Result → Type 0
IsWithin count r = All (λ (p : ℕ × Tree). p.0 < count) r.pairs

pairs_within : (x : Tree) (g : List Keyed) → All (λ (p : ℕ × Tree). p.0 < 2) (map (λ (a : Keyed). (0, (parts a.1).0)) g ++ (1, x) ∷ [])
pairs_within x [] = All-cons (λ (p : ℕ × Tree). p.0 < 2) (1, x) [] (omega arith) (All-nil (λ (p : ℕ × Tree). p.0 < 2))
pairs_within x (a ∷ g) =
    All-cons (λ (p : ℕ × Tree). p.0 < 2) (0, (parts a.1).0) (map (λ (b : Keyed). (0, (parts b.1).0)) g ++ (1, x) ∷ []) (omega arith) (pairs_within x g)

each_within : (f : List Tree → List Tree) (gs : List (List Keyed)) → All (IsWithin 2) (map (placed_group f) gs)
each_within f [] = All-nil (IsWithin 2)
each_within f (g ∷ gs) =
    All-cons (IsWithin 2) (placed_group f g) (map (placed_group f) gs) (pairs_within (list_of (f (map (λ (a : Keyed). (parts a.1).1) g))) g) (each_within f gs)

pub groups_within : (f : List Tree → List Tree) (ss : List Tree) → All (IsWithin 2) (placed_groups f ss)
groups_within f ss = each_within f (groups ss)

pub list_within : (ss : List Tree) → All (IsWithin 2) (placed_list ss ∷ [])
list_within ss =
    All-cons (IsWithin 2) (placed_list ss) [] (pairs_within (list_of ss) []) (All-nil (IsWithin 2))
