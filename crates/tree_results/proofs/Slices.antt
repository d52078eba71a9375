-- Slices of one element and of two, and the front of a list.
use Rattle.std.proofs.Common.{◌≡◌, ℕ, ◌<◌, ◌≤◌, List, [], ◌∷◌, ◌++◌, length, take, drop, get_or, reverse, refl, ap, ◌∙◌, arith}

pub reversed_one : {A : Type 0} (xs : List A) (x : A) → 1 ≤ length xs → length xs < 2 → x ≡ get_or xs 0 x → x ∷ [] ≡ reverse xs
reversed_one [] x l h e = absurd (omega (arith, l))
reversed_one (y ∷ []) x l h e = ap (λ z. z ∷ []) e
reversed_one (y ∷ z ∷ xs) x l h e = absurd (omega (arith, h))

pub reversed_two : {A : Type 0} (xs : List A) (x y : A) → 2 ≤ length xs → length xs < 3 → y ≡ get_or xs 0 y → x ≡ get_or xs 1 x → x ∷ y ∷ [] ≡ reverse xs
reversed_two [] x y l h e d = absurd (omega (arith, l))
reversed_two (z ∷ []) x y l h e d = absurd (omega (arith, l))
reversed_two (z ∷ w ∷ []) x y l h e d = ap (λ u. u ∷ y ∷ []) d ∙ ap (λ u. w ∷ u ∷ []) e
reversed_two (z ∷ w ∷ u ∷ xs) x y l h e d = absurd (omega (arith, h))

pub take_front : {A : Type 0} (xs ys : List A) → take (length xs) (xs ++ ys) ≡ xs
take_front [] ys = refl
take_front (x ∷ xs) ys = ap (λ zs. x ∷ zs) (take_front xs ys)

pub drop_front : {A : Type 0} (xs ys : List A) → drop (length xs) (xs ++ ys) ≡ ys
drop_front [] ys = refl
drop_front (x ∷ xs) ys = drop_front xs ys

pub nothing_kept : {A : Type 0} (xs : List A) (n : ℕ) → n ≡ 0 → n ≡ length xs → xs ≡ []
nothing_kept [] n e h = refl
nothing_kept (x ∷ xs) n e h = absurd (omega (arith, e, h))
