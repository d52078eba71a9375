-- What the bits of each kind of word say.
use Rattle.std.proofs.Common.{◌≡◌, ℕ, ◌+◌, ◌-◌, ◌*◌, ◌/◌, ◌%◌, ◌^◌, ◌<◌, ◌≤◌, ◌==◌, Bool, true, false, ℤ, pos, ◌+ℤ◌, ◌-ℤ◌, ◌≤ℤ◌, neg_ℤ, refl, ap, ◌∙◌, sym, arith}
use lib.IntN.{nat_abs}
use mir.Val.{bool_byte}
use Rattle.std.proofs.lemmas.Int.{ints}
use Rattle.std.proofs.lemmas.Bool.Decides.{nat_tests}
use Rattle.store.specs.declared.word.Shape.TheVariants.{Var, Int, Large, Atom, Comp}
use Rattle.store.specs.Words.{shape_of_bits}

pub small_shape : (b q : ℕ) → b ≡ 4 * q → shape_of_bits b ≡ Int (pos q -ℤ pos (2 ^ 61))
small_shape b q e =
    let k : (b % 4 == 0) ≡ true = grind (arith, nat_tests) in
    let r : b / 4 ≡ q = omega arith in
    rw (k, r)

pub variable_shape : (b q : ℕ) → b ≡ 4 * q + 1 → shape_of_bits b ≡ Var q
variable_shape b q e =
    let k : (b % 4 == 0) ≡ false = grind (arith, nat_tests) in
    let l : (b % 4 == 1) ≡ true = grind (arith, nat_tests) in
    let r : b / 4 ≡ q = omega arith in
    rw (k, l, r)

pub atom_shape : (b q : ℕ) → b ≡ 8 * q + 2 → shape_of_bits b ≡ Atom q
atom_shape b q e =
    let k : (b % 4 == 0) ≡ false = grind (arith, nat_tests) in
    let l : (b % 4 == 1) ≡ false = grind (arith, nat_tests) in
    let m : (b % 4 == 2) ≡ true = grind (arith, nat_tests) in
    let n : (b / 4 % 2 == 0) ≡ true = grind (arith, nat_tests) in
    let r : b / 4 / 2 ≡ q = omega arith in
    rw (k, l, m, n, r)

pub large_shape : (b q : ℕ) → b ≡ 8 * q + 6 → shape_of_bits b ≡ Large q
large_shape b q e =
    let k : (b % 4 == 0) ≡ false = grind (arith, nat_tests) in
    let l : (b % 4 == 1) ≡ false = grind (arith, nat_tests) in
    let m : (b % 4 == 2) ≡ true = grind (arith, nat_tests) in
    let n : (b / 4 % 2 == 0) ≡ false = grind (arith, nat_tests) in
    let r : b / 4 / 2 ≡ q = omega arith in
    rw (k, l, m, n, r)

-- the bits above the kind and the flag
pub compound_shape : (b g c n f : ℕ) (flag : Bool) → b ≡ 3 + 4 * g + 8 * c + 8192 * n + 68719476736 * f → g < 2 → (g == 1) ≡ flag → c < 1024 → n < 8388608 → shape_of_bits b ≡ Comp n (c + 1) f flag
compound_shape b g c n f flag e hg ef hc hn =
    let k : (b % 4 == 0) ≡ false = grind (arith, nat_tests) in
    let l : (b % 4 == 1) ≡ false = grind (arith, nat_tests) in
    let m : (b % 4 == 2) ≡ false = grind (arith, nat_tests) in
    let r : b / 4 % 2 ≡ g = omega arith in
    let s : b / 8 % 1024 ≡ c = omega arith in
    let t : b / 8192 % 8388608 ≡ n = omega arith in
    let u : b / 68719476736 ≡ f = omega arith in
    rw (k, l, m, r, s, t, u, ef)

bool_byte_is : (b : Bool) → (bool_byte b < 2) × ((bool_byte b == 1) ≡ b)
bool_byte_is true = (omega arith, refl)
bool_byte_is false = (omega arith, refl)

-- the same, from what is packed
pub packed : (b g c n f count : ℕ) (flag : Bool) → b ≡ 3 + 4 * g + 8 * c + 8192 * n + 68719476736 * f → g ≡ bool_byte flag → c ≡ count - 1 → 1 ≤ count → count ≤ 1024 → n < 8388608 → shape_of_bits b ≡ Comp n count f flag
packed b g c n f count flag e eg ec h k hn =
    let w = bool_byte_is flag in
    let same : c + 1 ≡ count = omega arith in
    compound_shape b g c n f flag e (omega (arith, w.0)) (ap (λ x. x == 1) eg ∙ w.1) (omega arith) hn ∙ ap (λ x. Comp n x f flag) same

pub small_value : (value : ℤ) (b : ℕ) → b ≡ 4 * nat_abs (value +ℤ pos (2 ^ 61)) → neg_ℤ (pos (2 ^ 61)) ≤ℤ value → shape_of_bits b ≡ Int value
small_value value b e h =
    let q : ℕ = nat_abs (value +ℤ pos (2 ^ 61)) in
    let back : pos q -ℤ pos (2 ^ 61) ≡ value = omega (arith, ints) in
    small_shape b q e ∙ ap Int back

-- the tests of a word's kind, and of its flag
pub is_variable : (b : ℕ) → b % 4 ≡ 1 → Var (b / 4) ≡ shape_of_bits b
is_variable b e = sym (variable_shape b (b / 4) (omega arith))

pub is_atom : (b : ℕ) → b % 4 ≡ 2 → b / 4 % 2 ≡ 0 → Atom (b / 4 / 2) ≡ shape_of_bits b
is_atom b e f = sym (atom_shape b (b / 4 / 2) (omega arith))

pub is_large : (b : ℕ) → b % 4 ≡ 2 → (b / 4 % 2 ≡ 0 → ⊥) → Large (b / 4 / 2) ≡ shape_of_bits b
is_large b e f = sym (large_shape b (b / 4 / 2) (omega arith))

pub is_compound : (b : ℕ) → (b % 4 ≡ 0 → ⊥) → (b % 4 ≡ 1 → ⊥) → (b % 4 ≡ 2 → ⊥) → Comp (b / 8192 % 8388608) (b / 8 % 1024 + 1) (b / 68719476736) (b / 4 % 2 == 1) ≡ shape_of_bits b
is_compound b e f g =
    let k : (b % 4 == 0) ≡ false = grind (arith, nat_tests) in
    let l : (b % 4 == 1) ≡ false = grind (arith, nat_tests) in
    let m : (b % 4 == 2) ≡ false = grind (arith, nat_tests) in
    rw (k, l, m)
