-- The first items of a ring are moved to another.
use Rattle.std.proofs.Common.{◌≡◌, ℕ, ◌<◌, ◌≤◌, List, [], ◌∷◌, ◌++◌, length, take, drop, slice_get, Some, None, refl, ap, sym, ◌∙◌, append_assoc, append-nil, arith}
use Rattle.std.proofs.Math.Seq.{drop-append_seam}
use Rattle.session.proofs.Seen.{popped, popped_none}

module _ {A : Type 0} where
  pub one_moved : (to from all : List A) (x : A) → to ++ from ≡ all → slice_get from 0 ≡ Some x → (to ++ x ∷ []) ++ drop 1 from ≡ all
  one_moved to from all x h e = append_assoc to (x ∷ []) (drop 1 from) ∙ ap (λ l. to ++ l) (sym (popped from x e)) ∙ h

  pub none_left : (to from all : List A) (i many : ℕ) → to ++ from ≡ all → slice_get from 0 ≡ None → length to ≡ i → i < many → many ≤ length all → ⊥
  none_left to from all i many h e k l m =
      let n : length to ≡ length all = ap (λ z. length z) (sym (append-nil to) ∙ ap (λ z. to ++ z) (sym (popped_none from e)) ∙ h) in
      omega (arith, n, k, l, m)

  first_taken : (to from : List A) → take (length to) (to ++ from) ≡ to
  first_taken [] from = refl
  first_taken (x ∷ to) from = ap (λ z. x ∷ z) (first_taken to from)

  pub moved_are : (to from all : List A) (many : ℕ) → to ++ from ≡ all → length to ≡ many → to ≡ take many all
  moved_are to from all many h k = sym (first_taken to from) ∙ ap (λ z. take (length to) z) h ∙ ap (λ n. take n all) k

  pub left_are : (to from all : List A) (many : ℕ) → to ++ from ≡ all → length to ≡ many → from ≡ drop many all
  left_are to from all many h k = sym (drop-append_seam to from) ∙ ap (λ z. drop (length to) z) h ∙ ap (λ n. drop n all) k
