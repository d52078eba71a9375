-- Tests that are joined, and lists side by side.
use Rattle.std.proofs.Common.{◌≡◌, ℕ, zero, suc, ◌≤◌, min, Bool, true, false, ◌&&◌, List, [], ◌∷◌, length, drop, if◌then◌else◌, refl, ap, ◌∙◌, arith}

-- ---- tests

pub differ : true ≡ false → ⊥
differ e = cc

pub both : (a b : Bool) → a ≡ true → b ≡ true → (a && b) ≡ true
both true b e f = f
both false b e f = cc

pub none_of : (a b : Bool) → a ≡ false → false ≡ (a && b)
none_of true b e = cc
none_of false b e = refl

pub first_of_two : (a b p q : Bool) → a ≡ true → b ≡ true → (a && (if b then p else q)) ≡ p
first_of_two true true p q e f = refl
first_of_two true false p q e f = cc
first_of_two false b p q e f = cc

pub second_of_two : (a b p q : Bool) → a ≡ true → b ≡ false → (a && (if b then p else q)) ≡ q
second_of_two true true p q e f = cc
second_of_two true false p q e f = refl
second_of_two false b p q e f = cc

-- ---- two lists side by side

nil_dropped : {A : Type 0} (i : ℕ) → drop {A = A} i [] ≡ []
nil_dropped zero = refl
nil_dropped (suc i) = refl

pub both_end : {A B C : Type 0} (f : List A → List B → C) (c : C) → ((ys : List B) → f [] ys ≡ c) → ((xs : List A) → f xs [] ≡ c) → (xs : List A) (ys : List B) (i : ℕ) → min (length xs) (length ys) ≤ i → f (drop i xs) (drop i ys) ≡ c
both_end f c p q [] ys i h = ap (λ us. f us (drop i ys)) (nil_dropped i) ∙ p (drop i ys)
both_end f c p q (x ∷ xs) [] i h = ap (f (drop i (x ∷ xs))) (nil_dropped i) ∙ q (drop i (x ∷ xs))
both_end f c p q (x ∷ xs) (y ∷ ys) zero h = absurd (omega (arith, h))
both_end f c p q (x ∷ xs) (y ∷ ys) (suc i) h = both_end f c p q xs ys i (omega (arith, h))
