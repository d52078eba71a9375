-- What is collected over a list, one element further.
use Rattle.std.proofs.Common.{◌≡◌, ℕ, zero, suc, ◌+◌, ◌-◌, ◌<◌, Bool, true, false, ◌||◌, List, [], ◌∷◌, ◌++◌, length, take, drop, get_or, map, filter, if◌then◌else◌, refl, ap, sym, ◌∙◌, append-nil, append_assoc, arith}
use Rattle.std.specs.List.{flat_map, list_any}
use Rattle.std.proofs.lemmas.Grind.{flat_map-append}
use Rattle.std.proofs.lemmas.List.{take_more, map-append, at_drop_more}
use Rattle.std.proofs.lemmas.List.Elements.{filter-append}

module _ {A B X : Type 0} (f : B → List X) (g : A → B) (xs : List A) (i : ℕ) (d : A) (inside : i < length xs) where
  mapped_more : map g (take (i + 1) xs) ≡ map g (take i xs) ++ g (get_or xs i d) ∷ []
  mapped_more = ap (map g) (take_more xs i d inside) ∙ map-append g (take i xs) (get_or xs i d ∷ [])

  pub shown_more : flat_map f (map g (take (i + 1) xs)) ≡ flat_map f (map g (take i xs)) ++ f (g (get_or xs i d))
  shown_more =
      ap (flat_map f) mapped_more ∙ flat_map-append f (map g (take i xs)) (g (get_or xs i d) ∷ [])
      ∙ ap (λ (ys : List X). flat_map f (map g (take i xs)) ++ ys) (append-nil (f (g (get_or xs i d))))

  -- where only those are read that pass a test
  pub read_more_of : (q : B → Bool) (b : Bool) → q (g (get_or xs i d)) ≡ b → flat_map f (filter q (map g (take (i + 1) xs))) ≡ flat_map f (filter q (map g (take i xs))) ++ (if b then f (g (get_or xs i d)) else [])
  read_more_of q b e =
      ap (λ (ys : List B). flat_map f (filter q ys)) mapped_more
      ∙ ap (flat_map f) (filter-append q (map g (take i xs)) (g (get_or xs i d) ∷ []))
      ∙ flat_map-append f (filter q (map g (take i xs))) (filter q (g (get_or xs i d) ∷ []))
      ∙ ap (λ (ys : List X). flat_map f (filter q (map g (take i xs))) ++ ys) (by b e)
    where
      by : (c : Bool) → q (g (get_or xs i d)) ≡ c → flat_map f (filter q (g (get_or xs i d) ∷ [])) ≡ (if c then f (g (get_or xs i d)) else [])
      by true h = rw h (append-nil (f (g (get_or xs i d))))
      by false h = rw h refl

-- one element more, from the back
pub back_more : {A : Type 0} {B : Type 0} (f : List A → B) (xs : List A) (i : ℕ) (d : A) → i < length xs → f (drop (length xs - (i + 1)) xs) ≡ f (get_or xs (length xs - 1 - i) d ∷ drop (length xs - i) xs)
back_more f xs i d h =
    let here : length xs - (i + 1) ≡ length xs - 1 - i = omega arith in
    let next : length xs - 1 - i + 1 ≡ length xs - i = omega (arith, h) in
    ap (λ (k : ℕ). f (drop k xs)) here ∙ at_drop_more f xs (length xs - 1 - i) d (omega (arith, h))
    ∙ ap (λ (k : ℕ). f (get_or xs (length xs - 1 - i) d ∷ drop k xs)) next

-- an element that passes a test
pub any_at : {A B : Type 0} (q : B → Bool) (g : A → B) (xs : List A) (i : ℕ) (d : A) → i < length xs → q (g (get_or xs i d)) ≡ true → true ≡ list_any q (map g xs)
any_at q g [] i d h e = absurd (omega (arith, h))
any_at q g (x ∷ xs) zero d h e = sym (ap (λ (b : Bool). b || list_any q (map g xs)) e)
any_at q g (x ∷ xs) (suc i) d h e = by (q (g x)) (any_at q g xs i d (omega (arith, h)) e)
  where
    by : (b : Bool) → true ≡ list_any q (map g xs) → true ≡ (b || list_any q (map g xs))
    by true k = refl
    by false k = k

pub read_then : {X : Type 0} (b : Bool) (xs ys zs us : List X) → b ≡ true → zs ≡ xs ++ us → us ≡ ys → zs ≡ xs ++ (if b then ys else [])
read_then b xs ys zs us h e g = e ∙ rw (h, g) refl

pub read_else : {X : Type 0} (b : Bool) (xs ys : List X) → b ≡ false → xs ≡ xs ++ (if b then ys else [])
read_else b xs ys h = rw h (sym (append-nil xs))

-- the next one, where it is read
pub read_on : {A B X : Type 0} (f : B → List X) (g : A → B) (xs : List A) (i : ℕ) (d : A) → i < length xs → (q : B → Bool) (start before after : List X) → before ≡ start ++ flat_map f (filter q (map g (take i xs))) → d ≡ get_or xs i d →
    after ≡ before ++ (if q (g d) then f (g d) else []) → after ≡ start ++ flat_map f (filter q (map g (take (i + 1) xs)))
read_on f g xs i d inside q start before after e is k =
    k ∙ ap (λ ys. ys ++ (if q (g d) then f (g d) else [])) e
    ∙ append_assoc start (flat_map f (filter q (map g (take i xs)))) (if q (g d) then f (g d) else [])
    ∙ ap (λ ys. start ++ ys)
    (ap (λ x. flat_map f (filter q (map g (take i xs))) ++ (if q (g x) then f (g x) else [])) is ∙ sym (read_more_of f g xs i d inside q (q (g (get_or xs i d))) refl))
