-- Products with powers of two, where they fit 128 bits and where not.
use Rattle.std.proofs.Common.{◌≡◌, ℕ, zero, suc, ◌+◌, ◌-◌, ◌*◌, ◌^◌, ◌<◌, ◌≤◌, ℤ, pos, negsuc, neg_ℤ, ◌*ℤ◌, Bool, true, false, nat_lt, if◌then◌else◌, Result, Ok, Err, refl, ap, sym, ◌∙◌, arith}
use Rattle.std.specs.Prelude.{int_lt, unsigned_abs, ◌/◌}
use Rattle.std.proofs.lemmas.Nat.{pow-add, pow_pos}
use Rattle.std.proofs.Math.Nat.{mul_assoc}
use Rattle.std.proofs.lemmas.Int.{ints}
use Rattle.std.proofs.lemmas.Bool.Decides.{nat_tests}
use Rattle.builtin_table.specs.declared.functions.Fault.{Fault}
use Rattle.builtin_table.specs.declared.functions.Fault.TheVariants.{IntOverflow, Undefined}
use Rattle.builtin_table.specs.Arithmetic.{fits, fitting, shifted}

abbrev kept : Bool → ℤ → Result ℤ Fault
kept b z = if b then Ok z else Err IntOverflow

ok_is : (b : Bool) (z w : ℤ) → Ok w ≡ kept b z → w ≡ z
ok_is true z w e = cc
ok_is false z w e = cc

err_is : (b : Bool) (z : ℤ) (e : Fault) → Err e ≡ kept b z → (b ≡ false) × (e ≡ IntOverflow)
err_is true z e h = cc
err_is false z e h = (refl, let i : e ≡ IntOverflow = cc in i)

negated : (n k : ℕ) → neg_ℤ (pos n) *ℤ pos k ≡ neg_ℤ (pos (n * k))
negated zero k = omega (arith, ints)
negated (suc n) k = refl

times_more : (x : ℤ) (m k : ℕ) → (x *ℤ pos m) *ℤ pos k ≡ x *ℤ pos (m * k)
times_more (pos a) m k = ap pos (mul_assoc a m k)
times_more (negsuc a) m k = negated (suc a * m) k ∙ ap (λ (n : ℕ). neg_ℤ (pos n)) (mul_assoc (suc a) m k)

grown : (a k : ℕ) → 0 < k → a ≤ a * k
grown a zero h = elim h [ ]
grown a (suc k) h = omega arith

-- a number that doesn't fit, and a multiple of it
still_too_great : (z : ℤ) (k : ℕ) → 0 < k → fits z ≡ false → fits (z *ℤ pos k) ≡ false
still_too_great (pos a) k h f = by (nat_lt a (2 ^ 127)) refl
  where
    by : (b : Bool) → nat_lt a (2 ^ 127) ≡ b → nat_lt (a * k) (2 ^ 127) ≡ false
    by b e = grind (arith, nat_tests, grown a k h)
still_too_great (negsuc a) k h f = by (suc a * k) (grown (suc a) k h)
  where
    by : (m : ℕ) → suc a ≤ m → fits (neg_ℤ (pos m)) ≡ false
    by zero l = absurd (omega (arith, l))
    by (suc m) l = grind (arith, nat_tests)

product : (x : ℤ) (h c : ℕ) → h ≤ c → (x *ℤ pos (2 ^ h)) *ℤ pos (2 ^ (c - h)) ≡ x *ℤ pos (2 ^ c)
product x h c l =
    times_more x (2 ^ h) (2 ^ (c - h)) ∙ ap (λ (k : ℕ). x *ℤ pos k) (sym (pow-add 2 h (c - h)) ∙ ap (λ (k : ℕ). 2 ^ k) (let e : h + (c - h) ≡ c = omega arith in e))

abbrev Shifted : ℤ → ℕ → Result ℤ Fault
Shifted x n = fitting (x *ℤ pos (2 ^ n))

then_more : (x part : ℤ) (h c : ℕ) (r : Result ℤ Fault) → h ≤ c → Ok part ≡ Shifted x h → r ≡ Shifted part (c - h) → r ≡ Shifted x c
then_more x part h c r l e d =
    d ∙ ap (λ (z : ℤ). fitting (z *ℤ pos (2 ^ (c - h)))) (ok_is (fits (x *ℤ pos (2 ^ h))) (x *ℤ pos (2 ^ h)) part e) ∙ ap fitting (product x h c l)

no_more : (x : ℤ) (h c : ℕ) (e : Fault) → h ≤ c → Err e ≡ Shifted x h → Err e ≡ Shifted x c
no_more x h c e l d =
    let first = err_is (fits (x *ℤ pos (2 ^ h))) (x *ℤ pos (2 ^ h)) e d in
    let later = still_too_great (x *ℤ pos (2 ^ h)) (2 ^ (c - h)) (pow_pos (c - h)) first.0 in
    ap Err first.1 ∙ sym (ap (λ (b : Bool). kept b (x *ℤ pos (2 ^ h) *ℤ pos (2 ^ (c - h)))) later) ∙ ap fitting (product x h c l)

by_count : (x y : ℤ) → int_lt y (pos 0) ≡ false → int_lt (pos 127) y ≡ false → Shifted x (unsigned_abs y) ≡ shifted (λ n. fitting (x *ℤ pos (2 ^ n))) y
by_count x (pos n) l g = ap (λ (b : Bool). if b then Shifted x n else Err Undefined) (let e : true ≡ nat_lt n 128 = grind (arith, nat_tests) in e)
by_count x (negsuc n) l g = grind arith

half_within : (n : ℕ) → n / 2 ≤ n
half_within n = omega arith

-- a shift in two steps
pub shift_ok : (x y part : ℤ) (r : Result ℤ Fault) → int_lt y (pos 0) ≡ false → int_lt (pos 127) y ≡ false → Ok part ≡ Shifted x (unsigned_abs y / 2) → r ≡ Shifted part (unsigned_abs y - unsigned_abs y / 2) → r ≡ shifted (λ n. fitting (x *ℤ pos (2 ^ n))) y
shift_ok x y part r l g e d = then_more x part (unsigned_abs y / 2) (unsigned_abs y) r (half_within (unsigned_abs y)) e d ∙ by_count x y l g

pub shift_err : (x y : ℤ) (e : Fault) → int_lt y (pos 0) ≡ false → int_lt (pos 127) y ≡ false → Err e ≡ Shifted x (unsigned_abs y / 2) → Err e ≡ shifted (λ n. fitting (x *ℤ pos (2 ^ n))) y
shift_err x y e l g d = no_more x (unsigned_abs y / 2) (unsigned_abs y) e (half_within (unsigned_abs y)) d ∙ by_count x y l g
