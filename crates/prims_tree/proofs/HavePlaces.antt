-- Results whose places are all arguments'.
use Rattle.std.proofs.Common.{◌≡◌, ℕ, suc, ◌+◌, ◌-◌, ◌≤◌, Bool, true, ◌&&◌, List, [], ◌∷◌, length, map, nat_lt, refl, ap, sym, ◌∙◌, if◌then◌else◌, arith}
use Rattle.std.specs.List.{flat_map, list_all, range_with_len}
use Rattle.std.proofs.lemmas.Bool.{lt-ltb}
use Rattle.std.proofs.lemmas.List.Folds.{list_all-append}
use Rattle.term_core.specs.Tree.{Tree}
use Rattle.builtin_table.specs.Primitives.{Offers, Unknown}
use Rattle.tree_results.specs.Placed.{Result, for_arguments, has_places, results_for}
use Rattle.tree_texts.specs.declared.splits.Splits.{Splits}
use Rattle.tree_texts.specs.declared.parts.Parts.{Parts}
use Rattle.tree_texts.specs.Parts.{placed_split, placed_part, placed_at, placed_from, splits_of, parts_of}

pub results_are : (ts : List Tree) (rs : List Result) → list_all (has_places (length ts)) rs ≡ true → Offers (map (for_arguments ts) rs) ≡ results_for ts rs
results_are ts rs h =
    ap (λ (b : Bool). if b then Offers (map (for_arguments ts) rs) else Unknown) (sym h)

module _ (n : ℕ) where
  each : (f : ℕ → Result) (xs : List ℕ) → ((x : ℕ) → has_places n (f x) ≡ true) → list_all (has_places n) (map f xs) ≡ true
  each f [] h = refl
  each f (x ∷ xs) h = ap (λ (b : Bool). b && list_all (has_places n) (map f xs)) (h x) ∙ each f xs h

  pub splits_have_places : (s : Splits) → 2 ≤ n → list_all (has_places n) (splits_of s) ≡ true
  splits_have_places s h =
      each (placed_split s.characters.items) (range_with_len s.at (suc (length s.characters.items) - s.at))
      (λ k. ap (λ (b : Bool). b && (nat_lt 1 n && true)) (lt-ltb 0 n (omega (arith, h))) ∙ ap (λ (b : Bool). b && true) (lt-ltb 1 n (omega (arith, h))))

  module _ (h : 5 ≤ n) (cs : List ℕ) where
    part_has : (k l : ℕ) → has_places n (placed_part cs k l) ≡ true
    part_has k l =
        ap (λ (b : Bool). b && (nat_lt 2 n && (nat_lt 3 n && (nat_lt 4 n && true)))) (lt-ltb 1 n (omega (arith, h)))
        ∙ ap (λ (b : Bool). b && (nat_lt 3 n && (nat_lt 4 n && true))) (lt-ltb 2 n (omega (arith, h)))
        ∙ ap (λ (b : Bool). b && (nat_lt 4 n && true)) (lt-ltb 3 n (omega (arith, h)))
        ∙ ap (λ (b : Bool). b && true) (lt-ltb 4 n (omega (arith, h)))

    all_have : (ks : List ℕ) → list_all (has_places n) (flat_map (λ k. placed_at cs k 0) ks) ≡ true
    all_have [] = refl
    all_have (k ∷ ks) =
        list_all-append (has_places n) (placed_at cs k 0) (flat_map (λ i. placed_at cs i 0) ks)
        ∙ ap (λ (b : Bool). b && list_all (has_places n) (flat_map (λ i. placed_at cs i 0) ks)) (each (placed_part cs k) (range_with_len 0 (suc (length cs) - k - 0)) (part_has k))
        ∙ all_have ks

  pub parts_have_places : (p : Parts) → 5 ≤ n → list_all (has_places n) (parts_of p) ≡ true
  parts_have_places p h =
      let cs = p.characters.items in
      list_all-append (has_places n) (placed_at cs p.start p.len) (placed_from cs (p.start + 1))
      ∙ ap (λ (b : Bool). b && list_all (has_places n) (placed_from cs (p.start + 1))) (each (placed_part cs p.start) (range_with_len p.len (suc (length cs) - p.start - p.len)) (part_has h cs p.start))
      ∙ all_have h cs (range_with_len (p.start + 1) (suc (length cs) - (p.start + 1)))
