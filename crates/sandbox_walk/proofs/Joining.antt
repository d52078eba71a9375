-- Tests of joined lists.
use Rattle.std.proofs.Common.{◌≡◌, Bool, true, false, ◌&&◌, ◌||◌, List, [], ◌∷◌, ◌++◌, IsTrue, refl, ap, ◌∙◌}
use Rattle.std.specs.List.{list_any, list_all}
use Rattle.std.proofs.lemmas.Bool.{and_parts}

pub all_parts : {A : Type 0} (q : A → Bool) (xs ys : List A) → list_all q (xs ++ ys) ≡ true → (list_all q xs ≡ true) × (list_all q ys ≡ true)
all_parts q [] ys h = (refl, h)
all_parts q (x ∷ xs) ys h =
    let a = and_parts (q x) (list_all q (xs ++ ys)) h in
    let b = all_parts q xs ys a.1 in
    (ap (λ (c : Bool). c && list_all q xs) a.0 ∙ b.0, b.1)

pub any_left : {A : Type 0} (q : A → Bool) (xs ys : List A) → IsTrue (list_any q xs) → IsTrue (list_any q (xs ++ ys))
any_left q [] ys h = cc
any_left q (x ∷ xs) ys h = by (q x) h (any_left q xs ys)
  where
    by : (b : Bool) → IsTrue (b || list_any q xs) → (IsTrue (list_any q xs) → IsTrue (list_any q (xs ++ ys))) → IsTrue (b || list_any q (xs ++ ys))
    by true k go = refl
    by false k go = go k

pub any_right : {A : Type 0} (q : A → Bool) (xs ys : List A) → IsTrue (list_any q ys) → IsTrue (list_any q (xs ++ ys))
any_right q [] ys h = h
any_right q (x ∷ xs) ys h = by (q x) (any_right q xs ys h)
  where
    by : (b : Bool) → IsTrue (list_any q (xs ++ ys)) → IsTrue (b || list_any q (xs ++ ys))
    by true k = refl
    by false k = k
