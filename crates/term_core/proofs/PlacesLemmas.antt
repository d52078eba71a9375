-- Where numbers stand in a list to which another is added.
use Rattle.std.proofs.Common.{◌≡◌, ℕ, suc, Bool, true, false, cond, ◌==◌, ◌||◌, List, [], ◌∷◌, ◌++◌, length, Option, Some, None, is_some, unwrap_or, refl, ap, ◌∙◌, sym, arith}
use Rattle.std.specs.List.{list_any}
use Rattle.std.specs.Option.{option_map}
use Rattle.std.specs.Ordering.{nat_cmp}
use Rattle.std.specs.BTreeMap.{is_at}
use Rattle.std.proofs.lemmas.Bool.Decides.{nat_tests}
use Rattle.term_core.specs.Variables.{with_new, place_of}
use Rattle.term_core.specs.Places.{place_among}

found_or : (b : Bool) (o : Option ℕ) → (b || is_some o) ≡ is_some (cond b (Some 0) (option_map suc o))
found_or true o = refl
found_or false None = refl
found_or false (Some k) = refl

pub is_some-place_among : (n : ℕ) (seen : List ℕ) → list_any (λ m. m == n) seen ≡ is_some (place_among n seen)
is_some-place_among n [] = refl
is_some-place_among n (m ∷ ms) = ap (λ b. (m == n) || b) (is_some-place_among n ms) ∙ found_or (m == n) (place_among n ms)

one_more : (b : Bool) (o : Option ℕ) (k : ℕ) → cond b 0 (suc (unwrap_or o k)) ≡ unwrap_or (cond b (Some 0) (option_map suc o)) (suc k)
one_more true o k = refl
one_more false None k = refl
one_more false (Some j) k = refl

pub place_of-place_among : (n : ℕ) (seen : List ℕ) → place_of n seen ≡ unwrap_or (place_among n seen) (length seen)
place_of-place_among n [] = refl
place_of-place_among n (m ∷ ms) =
    ap (λ k. cond (m == n) 0 (suc k)) (place_of-place_among n ms) ∙ one_more (m == n) (place_among n ms) (length ms)

absent_first : (b : Bool) (o : Option ℕ) → cond b (Some 0) (option_map suc o) ≡ None → b ≡ false
absent_first true o e = cc
absent_first false o e = refl

absent_later : (b : Bool) (o : Option ℕ) → cond b (Some 0) (option_map suc o) ≡ None → o ≡ None
absent_later true o e = cc
absent_later false None e = refl
absent_later false (Some k) e = cc

in_order : (b d : Bool) (o : Option ℕ) (k : ℕ) → (b ≡ true → d ≡ true → ⊥) → cond b (Some 0) (option_map suc (cond d (Some k) o)) ≡ cond d (Some (suc k)) (cond b (Some 0) (option_map suc o))
in_order true true o k h = absurd (h refl refl)
in_order true false o k h = refl
in_order false true o k h = refl
in_order false false o k h = refl

apart : (m n q : ℕ) → (m == n) ≡ false → (m == q) ≡ true → (n == q) ≡ true → ⊥
apart m n q e f g = grind (arith, nat_tests)

-- one number more, at the end
pub place_among-push : (q n : ℕ) (seen : List ℕ) → place_among n seen ≡ None → place_among q (seen ++ n ∷ []) ≡ cond (n == q) (Some (length seen)) (place_among q seen)
place_among-push q n [] e = refl
place_among-push q n (m ∷ ms) e =
    ap (λ o. cond (m == q) (Some 0) (option_map suc o)) (place_among-push q n ms (absent_later (m == n) (place_among n ms) e))
    ∙ in_order (m == q) (n == q) (place_among q ms) (length ms) (apart m n q (absent_first (m == n) (place_among n ms) e))

at_number : (n q : ℕ) → is_at (nat_cmp n) q ≡ (n == q)
at_number n q = grind (arith, nat_tests)

no_place : (o : Option ℕ) → is_some o ≡ false → o ≡ None
no_place None e = refl
no_place (Some k) e = cc

module _ (seen : List ℕ) (n : ℕ) (r : Bool) (old : Option ℕ) (known : old ≡ place_among n seen) (found : r ≡ is_some old) where
  found_is : list_any (λ m. m == n) seen ≡ r
  found_is = is_some-place_among n seen ∙ ap is_some (sym known) ∙ sym found

  pub with_new_is : with_new seen n ≡ cond r seen (seen ++ n ∷ [])
  with_new_is = ap (λ b. cond b seen (seen ++ n ∷ [])) found_is

  -- the map, when a new number has its place
  pub places_after : (before after : ℕ → Option ℕ) (seen' : List ℕ) → r ≡ false → ((q : ℕ) → before q ≡ place_among q seen) → ((q : ℕ) → after q ≡ cond (is_at (nat_cmp n) q) (Some (length seen)) (before q)) → seen' ≡ seen ++ n ∷ [] → (q : ℕ) → after q ≡ place_among q seen'
  places_after before after seen' e each updated pushed q =
      updated q
      ∙ (λ i. cond (at_number n q i) (Some (length seen)) (each q i))
      ∙ sym (place_among-push q n seen (no_place (place_among n seen) (ap is_some (sym known) ∙ sym found ∙ e)))
      ∙ ap (place_among q) (sym pushed)
