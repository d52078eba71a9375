-- A text is at least as long as what it begins with.
use Rattle.std.proofs.Common.{◌≡◌, ℕ, zero, suc, ◌+◌, ◌<◌, ◌≤◌, List, [], ◌∷◌, ◌++◌, length, take, get_or, ap, arith}
use Rattle.std.proofs.lemmas.List.{length-append}
use Rattle.std.specs.List.{flat_map}
use Rattle.prolog_write.specs.State.{State, appended}

pub flat_le : (f : ℕ → List ℕ) (xs : List ℕ) (i d : ℕ) → i < length xs → length (flat_map f (take i xs)) + length (f (get_or xs i d)) ≤ length (flat_map f xs)
flat_le f [] i d h = absurd (omega arith)
flat_le f (x ∷ xs) zero d h = omega (arith, length-append (f x) (flat_map f xs))
flat_le f (x ∷ xs) (suc i) d h =
    omega (arith, length-append (f x) (flat_map f (take i xs)), length-append (f x) (flat_map f xs), flat_le f xs i d (omega arith))

-- the text is too long already
pub long_already : (f : ℕ → List ℕ) (s s' : State) (xs ys : List ℕ) (i d : ℕ) → xs ≡ ys → i < length xs → s' ≡ appended s (flat_map f (take i xs)) → s'.limit < length (s'.written ++ f (get_or xs i d)) → s.limit < length (s.written ++ flat_map f ys)
long_already f s s' xs ys i d same h e long =
    let n : s'.limit ≡ s.limit = ap (λ (t : State). t.limit) e in
    let w : s'.written ≡ s.written ++ flat_map f (take i xs) = ap (λ (t : State). t.written) e in
    omega (arith, n, long, ap length w, ap (λ zs. length (flat_map f zs)) same, length-append s'.written (f (get_or xs i d)), length-append s.written (flat_map f ys), length-append s.written (flat_map f (take i xs)), flat_le f xs i d h)
