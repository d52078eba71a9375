-- Names in either case, and the values of the fields of a name.
use Rattle.std.proofs.Common.{◌≡◌, ◌↔◌, ◌∙◌, ◌++◌, ◌+◌, ◌<◌, ◌||◌, Bool, true, false, cond, IsTrue, MatchBool, ℕ, List, [], ◌∷◌, length, get_or, map, take, drop, refl, ap, sym}
use Rattle.std.specs.List.{filter, list_any}
use Rattle.std.specs.Char.{to_ascii_lowercase}
use Rattle.std.specs.Cmp.Lexicographic.{told_text}
use Rattle.std.proofs.lemmas.List.{take_more, map-append, take-append-drop}
use Rattle.std.proofs.lemmas.List.Elements.{filter-append}
use Rattle.std.proofs.lemmas.List.Folds.{list_any-append}
use Rattle.http_wire.specs.Framing.{same_name, values}

same_answer : (r q : Bool) (P : Type 0) → (IsTrue r ↔ P) → MatchBool q P (P → ⊥) → r ≡ q
same_answer true true P iff told = refl
same_answer true false P iff told = absurd (told (iff.0 refl))
same_answer false true P iff told = iff.1 told
same_answer false false P iff told = refl

-- a test that ignores case is the definition's
pub same_name_is : (a b : List ℕ) (r : Bool) → (IsTrue r ↔ (map to_ascii_lowercase a ≡ map to_ascii_lowercase b)) → r ≡ same_name a b
same_name_is a b r iff =
    same_answer r (same_name a b) (map to_ascii_lowercase a ≡ map to_ascii_lowercase b) iff
    (told_text (map to_ascii_lowercase a) (map to_ascii_lowercase b) (same_name a b) refl)

pub values-append : (name : List ℕ) (xs ys : List (List ℕ × List ℕ)) → values name (xs ++ ys) ≡ values name xs ++ values name ys
values-append name xs ys =
    let p : List ℕ × List ℕ → Bool = λ f. same_name f.0 name in
    let second : List ℕ × List ℕ → List ℕ = λ f. f.1 in
    ap (map second) (filter-append p xs ys) ∙ map-append second (filter p xs) (filter p ys)

module _ {H : Type 0} (bytes_of : H → List ℕ × List ℕ) (name : List ℕ) where
  pub values_more : (fs : List H) (i : ℕ) (d : H) → i < length fs
      → values name (map bytes_of (take (i + 1) fs)) ≡ values name (map bytes_of (take i fs)) ++ values name (bytes_of (get_or fs i d) ∷ [])
  values_more fs i d inside =
      ap (λ (l : List H). values name (map bytes_of l)) (take_more fs i d inside)
      ∙ ap (values name) (map-append bytes_of (take i fs) (get_or fs i d ∷ []))
      ∙ values-append name (map bytes_of (take i fs)) (bytes_of (get_or fs i d) ∷ [])

pub value_of_name : (name : List ℕ) (f : List ℕ × List ℕ) → same_name f.0 name ≡ true → values name (f ∷ []) ≡ f.1 ∷ []
value_of_name name f e = ap (λ (t : Bool). map (λ (x : List ℕ × List ℕ). x.1) (cond t (f ∷ []) [])) e

pub value_of_other : (name : List ℕ) (f : List ℕ × List ℕ) → same_name f.0 name ≡ false → values name (f ∷ []) ≡ []
value_of_other name f e = ap (λ (t : Bool). map (λ (x : List ℕ × List ℕ). x.1) (cond t (f ∷ []) [])) e

any_hit : (q : List ℕ → Bool) (xs ys : List (List ℕ)) → list_any q xs ≡ true → list_any q (xs ++ ys) ≡ true
any_hit q xs ys hit = list_any-append q xs ys ∙ ap (λ (t : Bool). t || list_any q ys) hit

pub or_true : (b : Bool) → (b || true) ≡ true
or_true true = refl
or_true false = refl

module _ {H : Type 0} (bytes_of : H → List ℕ × List ℕ) (name : List ℕ) (q : List ℕ → Bool) where
  -- one field more passes no test, where neither those before nor it pass
  pub none_more : (fs : List H) (i : ℕ) (d : H) → i < length fs → list_any q (values name (map bytes_of (take i fs))) ≡ false
      → list_any q (values name (bytes_of (get_or fs i d) ∷ [])) ≡ false → list_any q (values name (map bytes_of (take (i + 1) fs))) ≡ false
  none_more fs i d inside before here =
      ap (list_any q) (values_more bytes_of name fs i d inside)
      ∙ list_any-append q (values name (map bytes_of (take i fs))) (values name (bytes_of (get_or fs i d) ∷ [])) ∙ (λ k. before k || here k)

  -- a field that passes is found
  pub some_found : (fs : List H) (i : ℕ) (d : H) → i < length fs → list_any q (values name (bytes_of (get_or fs i d) ∷ [])) ≡ true
      → list_any q (values name (map bytes_of fs)) ≡ true
  some_found fs i d inside here =
      let first : list_any q (values name (map bytes_of (take (i + 1) fs))) ≡ true =
      ap (list_any q) (values_more bytes_of name fs i d inside)
      ∙ list_any-append q (values name (map bytes_of (take i fs))) (values name (bytes_of (get_or fs i d) ∷ []))
      ∙ ap (λ (t : Bool). list_any q (values name (map bytes_of (take i fs))) || t) here ∙ or_true _ in
      let whole : values name (map bytes_of fs) ≡ values name (map bytes_of (take (i + 1) fs)) ++ values name (map bytes_of (drop (i + 1) fs)) =
      ap (λ (l : List H). values name (map bytes_of l)) (sym (take-append-drop (i + 1) fs))
      ∙ ap (values name) (map-append bytes_of (take (i + 1) fs) (drop (i + 1) fs))
      ∙ values-append name (map bytes_of (take (i + 1) fs)) (map bytes_of (drop (i + 1) fs)) in
      ap (list_any q) whole ∙ any_hit q _ _ first
