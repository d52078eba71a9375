-- Sums over the views, positions, and places of lists.
use Rattle.std.proofs.Common.{◌≡◌, ◌≢◌, ℕ, zero, suc, ◌+◌, ◌<◌, ◌≤◌, ◌⊎◌, inl, inr, ⊎_elim, List, [], ◌∷◌, ◌++◌, length, take, set, sym, refl, ap, ◌∙◌, arith, length-append, append_assoc}
use mathlib.Core.Option.{some, some-ne-none, some-injective}
use lib.ListN.{get_elem?}
use Rattle.history_lock.specs.declared.view.View.{View}
use Rattle.history_lock.specs.Views.{times, StartsWith}
use Rattle.history_lock.specs.Rule.{total}

module _ {A : Type 0} where
  pub place_below : (l : List A) (k : ℕ) (a : A) → get_elem? l k ≡ some a → k < length l
  place_below [] k a at = absurd (some-ne-none a (sym at))
  place_below (x ∷ xs) zero a at = omega arith
  place_below (x ∷ xs) (suc k) a at = omega (arith, place_below xs k a at)

  pub head_is : (l : List A) (a : A) → get_elem? l 0 ≡ some a → (rest : List A) × (l ≡ a ∷ rest)
  head_is [] a at = absurd (some-ne-none a (sym at))
  head_is (x ∷ xs) a at = (xs, ap (λ (y : A). y ∷ xs) (some-injective x a at))

  pub take_snoc : (l : List A) (a : A) (k : ℕ) → k ≤ length l → take k (l ++ a ∷ []) ≡ take k l
  take_snoc [] a zero le = refl
  take_snoc [] a (suc k) le = absurd (omega arith)
  take_snoc (x ∷ xs) a zero le = refl
  take_snoc (x ∷ xs) a (suc k) le = ap (λ (l : List A). x ∷ l) (take_snoc xs a k (omega arith))

  pub take_whole : (l : List A) → take (length l) l ≡ l
  take_whole [] = refl
  take_whole (x ∷ xs) = ap (λ (l : List A). x ∷ l) (take_whole xs)

  -- a place of a list one longer is one of the list, or the last
  pub snoc_at : (l : List A) (a b : A) (k : ℕ) → get_elem? (l ++ a ∷ []) k ≡ some b → ((k < length l) × (get_elem? l k ≡ some b)) ⊎ ((k ≡ length l) × (a ≡ b))
  snoc_at [] a b zero at = inr (refl, some-injective a b at)
  snoc_at [] a b (suc k) at = absurd (some-ne-none b (sym at))
  snoc_at (x ∷ xs) a b zero at = inl (omega arith, at)
  snoc_at (x ∷ xs) a b (suc k) at = ⊎_elim (λ (t : (k < length xs) × (get_elem? xs k ≡ some b)). let u = t.0 in inl (omega arith, t.1)) (λ (t : (k ≡ length xs) × (a ≡ b)). inr (ap suc t.0, t.1)) (snoc_at xs a b k at)

  pub starts_length : (xs ys : List A) → StartsWith xs ys → length ys ≤ length xs
  starts_length xs ys s = omega (arith, length-append ys s.0, ap length s.1)

  pub starts_longer : (xs ys : List A) (a : A) → StartsWith xs ys → StartsWith (xs ++ a ∷ []) ys
  starts_longer xs ys a s = (s.0 ++ a ∷ [], ap (λ (l : List A). l ++ a ∷ []) s.1 ∙ append_assoc ys s.0 (a ∷ []))

pub times_append : (k : ℕ) (xs ys : List ℕ) → times k (xs ++ ys) ≡ times k xs + times k ys
times_append k [] ys = omega arith
times_append k (x ∷ xs) ys = omega (arith, times_append k xs ys)

module _ {E : Type 0} where
  pub total_append : (f : View E → ℕ) (views : List (View E)) (v : View E) → total f (views ++ v ∷ []) ≡ total f views + f v
  total_append f [] v = omega arith
  total_append f (w ∷ ws) v = omega (arith, total_append f ws v)

  -- the total after a change of one view
  pub total_set : (f : View E → ℕ) (views : List (View E)) (id : ℕ) (v w : View E) → get_elem? views id ≡ some v → total f (set views id w) + f v ≡ total f views + f w
  total_set f [] id v w at = absurd (some-ne-none v (sym at))
  total_set f (u ∷ us) zero v w at = let e : f u ≡ f v = ap f (some-injective u v at) in omega arith
  total_set f (u ∷ us) (suc k) v w at = let e = total_set f us k v w at in omega arith

  pub total_same : (f : View E → ℕ) (views : List (View E)) (id : ℕ) (v w : View E) → get_elem? views id ≡ some v → f w ≡ f v → total f (set views id w) ≡ total f views
  total_same f views id v w at e = let t = total_set f views id v w at in omega arith

  pub total_one : (f : View E → ℕ) (views : List (View E)) (id : ℕ) (v : View E) → get_elem? views id ≡ some v → f v ≤ total f views
  total_one f [] id v at = absurd (some-ne-none v (sym at))
  total_one f (u ∷ us) zero v at = let e : f u ≡ f v = ap f (some-injective u v at) in omega arith
  total_one f (u ∷ us) (suc k) v at = let e = total_one f us k v at in omega arith

  -- two views count both
  pub total_two : (f : View E → ℕ) (views : List (View E)) (i j : ℕ) (v w : View E) → i ≢ j → get_elem? views i ≡ some v → get_elem? views j ≡ some w → f v + f w ≤ total f views
  total_two f [] i j v w ne at at' = absurd (some-ne-none v (sym at))
  total_two f (u ∷ us) zero zero v w ne at at' = absurd (ne refl)
  total_two f (u ∷ us) zero (suc j) v w ne at at' = let e : f u ≡ f v = ap f (some-injective u v at) in let o = total_one f us j w at' in omega arith
  total_two f (u ∷ us) (suc i) zero v w ne at at' = let e : f u ≡ f w = ap f (some-injective u w at') in let o = total_one f us i v at in omega arith
  total_two f (u ∷ us) (suc i) (suc j) v w ne at at' = let o = total_two f us i j v w (λ e. ne (ap suc e)) at at' in omega arith

  pub total_le : (f g : View E → ℕ) (views : List (View E)) → ((v : View E) → f v ≤ g v) → total f views ≤ total g views
  total_le f g [] le = omega arith
  total_le f g (v ∷ vs) le = omega (arith, le v, total_le f g vs le)
