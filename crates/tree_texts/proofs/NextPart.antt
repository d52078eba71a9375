-- The next part of a text.
use Rattle.std.proofs.Common.{◌≡◌, ℕ, suc, ◌+◌, ◌-◌, ◌<◌, ◌≤◌, Bool, true, false, nat_lt, if◌then◌else◌, List, [], ◌∷◌, ◌++◌, length, map, Option, Some, None, refl, ap, ◌∙◌, arith}
use Rattle.std.proofs.lemmas.Bool.Decides.{nat_tests}
use Rattle.std.specs.List.{flat_map, range_with_len}
use Rattle.tree_results.specs.Placed.{Result}
use Rattle.tree_texts.specs.declared.parts.Parts.{Parts}
use Rattle.tree_texts.specs.Parts.{placed_part, placed_at, placed_from, parts_of, place_of}

module _ (cs : List ℕ) where
  here : (s l : ℕ) → s + l ≤ length cs → placed_at cs s l ≡ placed_part cs s l ∷ placed_at cs s (l + 1)
  here s l h =
      ap (λ (k : ℕ). map (placed_part cs s) (range_with_len l k)) (let g : suc (length cs) - s - l ≡ suc (suc (length cs) - s - (l + 1)) = omega arith in g)

  past : (s l : ℕ) → length cs < s + l → placed_at cs s l ≡ []
  past s l h =
      ap (λ (k : ℕ). map (placed_part cs s) (range_with_len l k)) (let g : suc (length cs) - s - l ≡ 0 = omega arith in g)

  later : (s : ℕ) → s ≤ length cs → placed_from cs s ≡ placed_at cs s 0 ++ placed_from cs (s + 1)
  later s h =
      ap (λ (k : ℕ). flat_map (λ i. placed_at cs i 0) (range_with_len s k)) (let g : suc (length cs) - s ≡ suc (suc (length cs) - (s + 1)) = omega arith in g)

  abbrev from_place : ℕ → ℕ → List Result
  from_place s l = placed_at cs s l ++ placed_from cs (s + 1)

  at_place : (s l : ℕ) → s + l ≤ length cs → from_place s l ≡ placed_part cs s l ∷ from_place s (l + 1)
  at_place s l h = ap (λ (os : List Result). os ++ placed_from cs (s + 1)) (here s l h)

  at_next_place : (s l : ℕ) → length cs < s + l → s < length cs → from_place s l ≡ placed_part cs (s + 1) 0 ∷ from_place (s + 1) 1
  at_next_place s l h g =
      ap (λ (os : List Result). os ++ placed_from cs (s + 1)) (past s l h) ∙ later (s + 1) (omega (arith, g)) ∙ at_place (s + 1) 0 (omega (arith, g))

  abbrev place : ℕ → ℕ → Option (ℕ × ℕ)
  place s l = Some (s, l)

  abbrev by_place : Option (ℕ × ℕ) → List Result
  by_place (Some p) = placed_part cs p.0 p.1 ∷ from_place p.0 (p.1 + 1)
  by_place None = []

  same_place : {s l u v : ℕ} (xs : List Result) → place s l ≡ place u v → xs ≡ placed_part cs s l ∷ from_place s (l + 1) → xs ≡ placed_part cs u v ∷ from_place u (v + 1)
  same_place xs e h = h ∙ ap (λ (q : Option (ℕ × ℕ)). by_place q) e

abbrev chosen : Bool → Bool → (start len : ℕ) → Option (ℕ × ℕ)
chosen true true start len = Some (start + 1, 0)
chosen true false start len = None
chosen false c start len = Some (start, len)

abbrev by_tests : Bool → Bool → (start len : ℕ) → Option (ℕ × ℕ)
by_tests b c start len = if b then (if c then Some (start + 1, 0) else None) else Some (start, len)

as_chosen : (b c : Bool) (start len : ℕ) → chosen b c start len ≡ by_tests b c start len
as_chosen true true start len = refl
as_chosen true false start len = refl
as_chosen false c start len = refl

-- the next part, by its place
pub next_part : (p : Parts) (start len : ℕ) → place_of p ≡ Some (start, len) → parts_of p ≡ placed_part p.characters.items start len ∷ parts_of (record p { start = start; len = len + 1 })
next_part p start len h =
    by (nat_lt (length p.characters.items) (p.start + p.len)) (nat_lt p.start (length p.characters.items)) refl refl (as_chosen _ _ p.start p.len ∙ h)
  where
    by : (b c : Bool) → nat_lt (length p.characters.items) (p.start + p.len) ≡ b → nat_lt p.start (length p.characters.items) ≡ c → chosen b c p.start p.len ≡ Some (start, len)
        → parts_of p ≡ placed_part p.characters.items start len ∷ parts_of (record p { start = start; len = len + 1 })
    by true true d e g =
        same_place p.characters.items (parts_of p) g (at_next_place p.characters.items p.start p.len (grind (arith, nat_tests)) (grind (arith, nat_tests)))
    by true false d e g = cc
    by false c d e g =
        same_place p.characters.items (parts_of p) g (at_place p.characters.items p.start p.len (grind (arith, nat_tests)))
