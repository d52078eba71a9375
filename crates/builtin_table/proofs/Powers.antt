-- Powers of integers, where they fit 128 bits and where not.
use Rattle.std.proofs.Common.{◌≡◌, ℕ, zero, suc, ◌-◌, ◌%◌, ◌^◌, ◌<◌, ◌≤◌, ◌⊎◌, inl, inr, ℤ, pos, negsuc, neg_ℤ, Bool, true, false, cond, nat_lt, ◌==◌, Result, Ok, Err, FitsSigned, refl, ap, sym, ◌∙◌, arith, le_trans}
use Rattle.std.specs.Int.{w128, int_pow, cast_unsigned as of_z}
use Rattle.std.specs.Prelude.{int_lt, int_rem}
use Rattle.std.proofs.Math.Nat.{pow-zero, pow-suc, pow-le-pow_left, pow-le-pow_right, mul-zero}
use Rattle.std.proofs.lemmas.Bool.Decides.{nat_tests}
use Rattle.builtin_table.specs.declared.functions.Fault.{Fault}
use Rattle.builtin_table.specs.declared.functions.Fault.TheVariants.{IntOverflow}
use Rattle.builtin_table.specs.Arithmetic.{fitting, power}
use Rattle.builtin_table.proofs.Bits.{is_pos}

one_pow : (n : ℕ) → 1 ^ n ≡ 1
one_pow zero = refl
one_pow (suc n) = pow-suc 1 n ∙ omega (arith, one_pow n)

zeroth_power : (x : ℤ) → Ok (pos 1) ≡ power x (pos 0)
zeroth_power (pos a) = sym (ap (λ (k : ℕ). fitting (pos k)) (pow-zero a))
zeroth_power (negsuc a) = sym (ap (λ (k : ℕ). fitting (pos k)) (pow-zero (suc a)))

power_of_one : (y : ℤ) → Ok (pos 1) ≡ power (pos 1) y
power_of_one (pos n) = sym (ap (λ (k : ℕ). fitting (pos k)) (one_pow n))
power_of_one (negsuc n) = refl

pub power_is_one : (x y : ℤ) → FitsSigned w128 x → FitsSigned w128 y → (of_z w128 y ≡ 0) ⊎ ((of_z w128 y ≡ 0 → ⊥) × (of_z w128 x ≡ 1)) → Ok (pos 1) ≡ power x y
power_is_one x y f g (inl h) = zeroth_power x ∙ ap (power x) (sym (is_pos y 0 g (omega arith) h))
power_is_one x y f g (inr h) = power_of_one y ∙ ap (λ (z : ℤ). power z y) (sym (is_pos x 1 f (omega arith) h.1))

pub power_of_zero : (x y : ℤ) → FitsSigned w128 x → (of_z w128 y ≡ 0 → ⊥) → int_lt y (pos 0) ≡ false → of_z w128 x ≡ 0 → Ok (pos 0) ≡ power x y
power_of_zero x (pos zero) f n l h = absurd (n refl)
power_of_zero x (pos (suc k)) f n l h =
    sym (ap (λ (i : ℕ). fitting (pos i)) (pow-suc 0 k ∙ mul-zero (0 ^ k))) ∙ ap (λ (z : ℤ). power z (pos (suc k))) (sym (is_pos x 0 f (omega arith) h))
power_of_zero x (negsuc k) f n l h = grind arith

-- ---- powers that are too great

not_below : (m n : ℕ) → n ≤ m → nat_lt m n ≡ false
not_below m n h = grind (arith, nat_tests)

abbrev Kept : ℤ → Bool → Result ℤ Fault
Kept z true = Ok z
Kept z false = Err IntOverflow

too_great : (m : ℕ) → 2 ^ 128 ≤ m → Err IntOverflow ≡ fitting (pos m)
too_great m h = grind (arith, not_below m (2 ^ 127) (omega (arith, h)))

too_small : (m : ℕ) → 2 ^ 128 ≤ m → Err IntOverflow ≡ fitting (neg_ℤ (pos m))
too_small zero h = absurd (omega (arith, h))
too_small (suc m) h = grind (arith, not_below m (2 ^ 127) (omega (arith, h)))

with_sign : (b : Bool) (m : ℕ) → 2 ^ 128 ≤ m → Err IntOverflow ≡ fitting (cond b (pos m) (neg_ℤ (pos m)))
with_sign true m h = too_great m h
with_sign false m h = too_small m h

great : (a n : ℕ) → 2 ≤ a → 128 ≤ n → 2 ^ 128 ≤ a ^ n
great a n h k = le_trans (pow-le-pow_right (omega arith) k) (pow-le-pow_left h n)

pub power_overflows : (x y : ℤ) → (of_z w128 x ≡ 0 → ⊥) → (of_z w128 x ≡ 1 → ⊥) → (of_z w128 x ≡ 2 ^ 128 - 1 → ⊥) → int_lt (pos 127) y ≡ true → Err IntOverflow ≡ power x y
power_overflows (pos zero) (pos n) h i j k = absurd (h refl)
power_overflows (pos (suc zero)) (pos n) h i j k = absurd (i refl)
power_overflows (pos (suc (suc a))) (pos n) h i j k = too_great (suc (suc a) ^ n) (great (suc (suc a)) n (omega arith) (grind (arith, nat_tests)))
power_overflows (negsuc zero) (pos n) h i j k = absurd (j refl)
power_overflows (negsuc (suc a)) (pos n) h i j k = with_sign (n % 2 == 0) (suc (suc a) ^ n) (great (suc (suc a)) n (omega arith) (grind (arith, nat_tests)))
power_overflows x (negsuc n) h i j k = grind arith

-- ---- powers of -1

even_power : (n : ℕ) → n % 2 ≡ 0 → int_pow (negsuc 0) n ≡ pos 1
even_power n h = ap (λ (i : ℕ). cond (i == 0) (pos (1 ^ n)) (neg_ℤ (pos (1 ^ n)))) h ∙ ap pos (one_pow n)

odd_power : (n : ℕ) → n % 2 ≡ 1 → int_pow (negsuc 0) n ≡ negsuc 0
odd_power n h = ap (λ (i : ℕ). cond (i == 0) (pos (1 ^ n)) (neg_ℤ (pos (1 ^ n)))) h ∙ ap (λ (k : ℕ). neg_ℤ (pos k)) (one_pow n)

pub even_power_of_minus_one : (y : ℤ) → of_z w128 (int_rem y (pos 2)) ≡ 0 → Ok (pos 1) ≡ power (negsuc 0) y
even_power_of_minus_one (pos n) h = sym (ap fitting (even_power n h))
even_power_of_minus_one (negsuc n) h = sym (ap (λ (z : ℤ). Ok z) (even_power (suc n) (by (suc n % 2) (omega arith) h)))
  where
    by : (k : ℕ) → k < 2 → of_z w128 (neg_ℤ (pos k)) ≡ 0 → k ≡ 0
    by zero l e = refl
    by (suc k) l e = absurd (omega (arith, e))

pub odd_power_of_minus_one : (y : ℤ) → (of_z w128 (int_rem y (pos 2)) ≡ 0 → ⊥) → Ok (negsuc 0) ≡ power (negsuc 0) y
odd_power_of_minus_one (pos n) h = sym (ap fitting (odd_power n (omega arith)))
odd_power_of_minus_one (negsuc n) h = sym (ap (λ (z : ℤ). Ok z) (odd_power (suc n) (by (suc n % 2) (omega arith) h)))
  where
    by : (k : ℕ) → k < 2 → (of_z w128 (neg_ℤ (pos k)) ≡ 0 → ⊥) → k ≡ 1
    by zero l e = absurd (e refl)
    by (suc k) l e = omega arith
