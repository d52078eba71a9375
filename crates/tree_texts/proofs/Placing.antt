-- The parts of a text, by the places of the arguments, are those of the definition.
use Rattle.std.proofs.Common.{◌≡◌, ℕ, suc, ◌+◌, ◌-◌, Bool, true, if◌then◌else◌, List, [], ◌∷◌, ◌++◌, length, map, refl, ap, ◌∙◌, arith}
use Rattle.std.specs.List.{flat_map, list_all, range_with_len}
use Rattle.std.proofs.lemmas.List.{map-append}
use Rattle.std.proofs.lemmas.List.Folds.{list_all-append}
use Rattle.term_core.specs.Tree.{Tree}
use Rattle.builtin_table.specs.Outcomes.{Offer, Offers, Unknown}
use Rattle.builtin_table.specs.Texts.{PartTerms, split, part_at, parts_at, parts_from, splits_from}
use Rattle.tree_results.specs.Placed.{Result, for_arguments, has_places, results_for}
use Rattle.tree_texts.specs.Parts.{placed_split, placed_part, placed_at, placed_from}

with_places : (ts : List Tree) (rs : List Result) (b : Bool) → list_all (has_places (length ts)) rs ≡ b → b ≡ true → results_for ts rs ≡ Offers (map (for_arguments ts) rs)
with_places ts rs b h e = ap (λ (x : Bool). if x then Offers (map (for_arguments ts) rs) else Unknown) (h ∙ e)

module _ (a b c : Tree) (cs : List ℕ) where
  abbrev three : List Tree
  three = a ∷ b ∷ c ∷ []

  each_split : (xs : List ℕ) → list_all (has_places 3) (map (placed_split cs) xs) ≡ true
  each_split [] = refl
  each_split (x ∷ xs) = each_split xs

  the_splits : (xs : List ℕ) → map (for_arguments three) (map (placed_split cs) xs) ≡ map (split a b cs) xs
  the_splits [] = refl
  the_splits (x ∷ xs) = ap (λ (os : List Offer). split a b cs x ∷ os) (the_splits xs)

  pub splits_placed : results_for three (map (placed_split cs) (range_with_len 0 (suc (length cs) - 0))) ≡ Offers (splits_from a b cs 0)
  splits_placed =
      with_places three (map (placed_split cs) (range_with_len 0 (suc (length cs) - 0))) _ refl (each_split (range_with_len 0 (suc (length cs) - 0)))
      ∙ ap Offers (the_splits (range_with_len 0 (suc (length cs) - 0)))

module _ (a : Tree) (ts : PartTerms) (cs : List ℕ) where
  abbrev five : List Tree
  five = a ∷ ts.before ∷ ts.len ∷ ts.after ∷ ts.part ∷ []

  each_part : (k : ℕ) (ls : List ℕ) → list_all (has_places 5) (map (placed_part cs k) ls) ≡ true
  each_part k [] = refl
  each_part k (l ∷ ls) = each_part k ls

  each_place : (ks : List ℕ) → list_all (has_places 5) (flat_map (λ k. placed_at cs k 0) ks) ≡ true
  each_place [] = refl
  each_place (k ∷ ks) =
      rw (list_all-append (has_places 5) (placed_at cs k 0) (flat_map (λ i. placed_at cs i 0) ks), each_part k (range_with_len 0 (suc (length cs) - k - 0))) (each_place ks)

  the_parts : (k : ℕ) (ls : List ℕ) → map (for_arguments five) (map (placed_part cs k) ls) ≡ map (part_at ts cs k) ls
  the_parts k [] = refl
  the_parts k (l ∷ ls) = ap (λ (os : List Offer). part_at ts cs k l ∷ os) (the_parts k ls)

  the_places : (ks : List ℕ) → map (for_arguments five) (flat_map (λ k. placed_at cs k 0) ks) ≡ flat_map (λ k. parts_at ts cs k 0) ks
  the_places [] = refl
  the_places (k ∷ ks) =
      map-append (for_arguments five) (placed_at cs k 0) (flat_map (λ i. placed_at cs i 0) ks)
      ∙ (λ i. the_parts k (range_with_len 0 (suc (length cs) - k - 0)) i ++ the_places ks i)

  -- the parts from the first place on
  all_placed : placed_at cs 0 0 ++ placed_from cs (0 + 1) ≡ flat_map (λ k. placed_at cs k 0) (range_with_len 0 (suc (length cs) - 0))
  all_placed =
      ap (λ (n : ℕ). placed_at cs 0 0 ++ flat_map (λ k. placed_at cs k 0) (range_with_len 1 n)) (let g : suc (length cs) - 1 ≡ length cs = omega arith in g)
      ∙ ap (λ (n : ℕ). flat_map (λ k. placed_at cs k 0) (range_with_len 0 n)) (let g : suc (length cs) ≡ suc (length cs) - 0 = omega arith in g)

  pub parts_placed : results_for five (placed_at cs 0 0 ++ placed_from cs (0 + 1)) ≡ Offers (parts_from ts cs 0)
  parts_placed =
      ap (results_for five) all_placed
      ∙ with_places five (flat_map (λ k. placed_at cs k 0) (range_with_len 0 (suc (length cs) - 0))) _ refl (each_place (range_with_len 0 (suc (length cs) - 0)))
      ∙ ap Offers (the_places (range_with_len 0 (suc (length cs) - 0)))
