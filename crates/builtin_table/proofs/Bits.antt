-- Integers of 128 bits and their bits.
use Rattle.std.proofs.Common.{◌≡◌, ℕ, ◌<◌, ◌^◌, ℤ, pos, negsuc, ◌+ℤ◌, false, FitsSigned, ap, ap₂, arith}
use mathlib.Core.Bool.{beq}
use Rattle.std.specs.Prelude.{int_lt}
use Rattle.std.specs.Int.{w128, cast_unsigned as of_z, cast_signed as to_z}
use Rattle.std.proofs.lemmas.Int.{to_z-of_z, ints}

pub is_pos : (z : ℤ) (n : ℕ) → FitsSigned w128 z → n < 2 ^ 127 → of_z w128 z ≡ n → z ≡ pos n
is_pos (pos m) n f l h = ap pos h
is_pos (negsuc m) n f l h = absurd (omega (arith, f.sfits))

-- a function of two passed numbers is that of the numbers
pub passed : {A : Type 0} (f : ℤ → ℤ → A) (x y : ℤ) → FitsSigned w128 x → FitsSigned w128 y → f (to_z w128 (of_z w128 x)) (to_z w128 (of_z w128 y)) ≡ f x y
passed f x y g h = ap₂ f (to_z-of_z w128 x g) (to_z-of_z w128 y h)

-- the sum of a number below 0 and one that isn't
pub opposites : (x y : ℤ) → FitsSigned w128 x → FitsSigned w128 y → beq (int_lt x (pos 0)) (int_lt y (pos 0)) ≡ false → FitsSigned w128 (x +ℤ y)
opposites (pos a) (pos b) f g e = grind arith
opposites (pos a) (negsuc b) f g e = omega (arith, ints, f.sfits, g.sfits)
opposites (negsuc a) (pos b) f g e = omega (arith, ints, f.sfits, g.sfits)
opposites (negsuc a) (negsuc b) f g e = grind arith
