-- A slice from a place to the end.
use Rattle.std.proofs.Common.{◌≡◌, ℕ, ◌<◌, ◌≤◌, suc, ◌-◌, List, [], length, take, drop, arith, ap, ◌∙◌}
use Rattle.std.proofs.lemmas.List.{take_all, length-drop, at_drop_all}

pub to_end : {A : Type 0} (at : ℕ) (xs : List A) → take (length xs - at) (drop at xs) ≡ drop at xs
to_end at xs = take_all (length xs - at) (drop at xs) (omega (arith, length-drop at xs))

-- the same of a slice that is a list
pub slice_from : {A : Type 0} (at : ℕ) (xs ys : List A) → xs ≡ ys → take (length xs - at) (drop at xs) ≡ drop at ys
slice_from at xs ys e = to_end at xs ∙ ap (drop at) e

pub nothing_left : {A : Type 0} (at : ℕ) (xs : List A) → length xs ≤ at → drop at xs ≡ []
nothing_left at xs h = at_drop_all (λ ys. ys) xs at h

pub one_below : (k n : ℕ) → n ≡ suc k → k < n
one_below k n e = omega arith
