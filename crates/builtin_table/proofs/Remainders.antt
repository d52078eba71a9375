-- What is left of a quotient that is rounded down.
use Rattle.std.proofs.Common.{◌≡◌, ℕ, zero, suc, ◌+◌, ◌*◌, ◌/◌, ◌%◌, ◌<◌, ◌⊎◌, inl, inr, ℤ, pos, negsuc, neg_ℤ, ◌+ℤ◌, Bool, true, false, nat_lt, refl, ap, ◌∙◌, arith}
use mathlib.Core.Bool.{beq}
use Rattle.std.specs.Prelude.{int_lt, int_rem}
use Rattle.std.specs.Int.{w128, IsNonZero}
use Rattle.std.proofs.lemmas.Nat.{div-add-mod'}
use Rattle.std.proofs.Math.Nat.{mod-lt}
use Rattle.std.proofs.Math.Arith.{digits_mod}
use Rattle.std.proofs.lemmas.Int.{ints}
use Rattle.std.proofs.lemmas.Bool.Decides.{nat_tests}
use Rattle.builtin_table.specs.Arithmetic.{int_mod}

suc_times : (q b : ℕ) → suc q * b ≡ q * b + b
suc_times q b = omega arith

-- the number after k over b: either it is a multiple of b, or one more is left
abbrev After : ℕ → ℕ → Type 0
After k b = ((suc k % b ≡ 0) × (suc (k / b) * b ≡ suc k)) ⊎ ((suc k % b ≡ suc (k % b)) × (suc (k / b) * b + k % b ≡ k + b))

after : (k b : ℕ) → 0 < b → After k b
after k b h = by (nat_lt (suc (k % b)) b) refl
  where
    split : k / b * b + k % b ≡ k
    split = div-add-mod' k b

    below : k % b < b
    below = mod-lt k h

    by : (t : Bool) → nat_lt (suc (k % b)) b ≡ t → After k b
    by true e =
        let l : suc (k % b) < b = grind (arith, nat_tests) in
        inr (ap (λ (i : ℕ). i % b) (let i : suc k ≡ k / b * b + suc (k % b) = omega arith in i) ∙ digits_mod (k / b) l, omega (arith, suc_times (k / b) b))
    by false e =
        let l : suc (k % b) ≡ b = grind (arith, nat_tests) in
        inl (ap (λ (i : ℕ). i % b) (let i : suc k ≡ suc (k / b) * b + 0 = omega (arith, suc_times (k / b) b) in i) ∙ digits_mod (suc (k / b)) h, omega (arith, suc_times (k / b) b))

pub nothing_left : (x y : ℤ) → IsNonZero w128 y → int_rem x y ≡ pos 0 → pos 0 ≡ int_mod x y
nothing_left (pos a) (pos b) n h = omega (arith, ints, h, div-add-mod' a b)
nothing_left (pos zero) (negsuc b) n h = omega (arith, ints, h, div-add-mod' 0 (suc b))
nothing_left (pos (suc a)) (negsuc b) n h = elim (after a (suc b) (omega arith)) [
  | inl p ↦ omega (arith, ints, h, p.0, p.1)
  | inr p ↦ omega (arith, ints, h, p.0)
]
nothing_left (negsuc a) (pos b) n h = elim (after a b n) [
  | inl p ↦ omega (arith, ints, h, p.0, p.1)
  | inr p ↦ omega (arith, ints, h, p.0)
]
nothing_left (negsuc a) (negsuc b) n h = omega (arith, ints, h, div-add-mod' (suc a) (suc b))

pub something_left : (x y : ℤ) → IsNonZero w128 y → (int_rem x y ≡ pos 0 → ⊥) → beq (int_lt (int_rem x y) (pos 0)) (int_lt y (pos 0)) ≡ false → int_rem x y +ℤ y ≡ int_mod x y
something_left (pos a) (pos b) n h e = grind arith
something_left (pos zero) (negsuc b) n h e = absurd (h (omega (arith, ints, div-add-mod' 0 (suc b))))
something_left (pos (suc a)) (negsuc b) n h e = elim (after a (suc b) (omega arith)) [
  | inl p ↦ absurd (h (ap pos p.0))
  | inr p ↦ omega (arith, ints, p.0, p.1)
]
something_left (negsuc a) (pos b) n h e = elim (after a b n) [
  | inl p ↦ absurd (h (ap (λ (k : ℕ). neg_ℤ (pos k)) p.0))
  | inr p ↦ omega (arith, ints, p.0, p.1)
]
something_left (negsuc a) (negsuc b) n h e = by (suc a % suc b) h e
  where
    by : (k : ℕ) → (neg_ℤ (pos k) ≡ pos 0 → ⊥) → beq (int_lt (neg_ℤ (pos k)) (pos 0)) true ≡ false → neg_ℤ (pos k) +ℤ negsuc b ≡ int_mod (negsuc a) (negsuc b)
    by zero h e = absurd (h refl)
    by (suc k) h e = grind arith
