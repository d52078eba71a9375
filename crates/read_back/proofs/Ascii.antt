-- Texts of ASCII, and the digits of numbers.
use Rattle.std.specs.Prelude.{◌≡◌, refl, ℕ, suc, ◌+◌, ◌-◌, ◌*◌, ◌^◌, ◌<◌, Bool, true, List, [], ◌∷◌, ◌++◌, length, decimal}
use Rattle.std.specs.List.{list_all, fold}
use Rattle.std.specs.Char.{is_ascii, is_ascii_digit, digit_value}
use Rattle.std.specs.Str.{encode_utf8_all, all_scalars}
use Rattle.std.specs.Str.Parse.{AllDigits, digits_value_after}
use Rattle.std.proofs.Common.{arith, ap, ◌∙◌}
use Rattle.std.proofs.lemmas.Bool.{and_parts, and_from, ltb-true}
use Rattle.std.proofs.lemmas.Bool.Decides.{nat_tests}
use Rattle.std.proofs.lemmas.Str.{encode_ascii}
use Rattle.std.proofs.lemmas.Fmt.{decimal_is_IsNumeral_wide}
use lib.Utf8.{scalar, low_scalar}
use Rattle.term_core.specs.Tokens as spec
use Rattle.prolog_write.specs.Text.{last}

pub ascii_encodes : (w : List ℕ) → list_all is_ascii w ≡ true → encode_utf8_all w ≡ w
ascii_encodes [] e = refl
ascii_encodes (c ∷ w) e =
    let h = and_parts (is_ascii c) (list_all is_ascii w) e in
    rw (encode_ascii c (ltb-true c 128 h.0), ascii_encodes w h.1) refl

pub ascii_first : (c : ℕ) (cs : List ℕ) → c < 128 → encode_utf8_all (c ∷ cs) ≡ c ∷ encode_utf8_all cs
ascii_first c cs l = ap (λ bs. bs ++ encode_utf8_all cs) (encode_ascii c l)

pub ascii_scalars : (w : List ℕ) → list_all is_ascii w ≡ true → all_scalars w ≡ true
ascii_scalars [] e = refl
ascii_scalars (c ∷ w) e =
    let h = and_parts (is_ascii c) (list_all is_ascii w) e in
    let l = ltb-true c 128 h.0 in
    and_from _ _ (low_scalar c (omega (arith, l))) (ascii_scalars w h.1)

pub scalars_append : (w v : List ℕ) → all_scalars w ≡ true → all_scalars v ≡ true → all_scalars (w ++ v) ≡ true
scalars_append [] v e f = f
scalars_append (c ∷ w) v e f = let h = and_parts (scalar c) (all_scalars w) e in and_from _ _ h.0 (scalars_append w v h.1 f)

pub last_behind : (c d : ℕ) (w : List ℕ) → last (c ∷ d ∷ w) ≡ last (d ∷ w)
last_behind c d w = let more : length (c ∷ d ∷ w) - 1 ≡ suc (length (d ∷ w) - 1) = omega arith in rw more refl

-- the last of a list that passes
pub last_all : (p : ℕ → Bool) (c : ℕ) (w : List ℕ) → list_all p (c ∷ w) ≡ true → p (last (c ∷ w)) ≡ true
last_all p c [] e = (and_parts _ _ e).0
last_all p c (d ∷ w) e = ap p (last_behind c d w) ∙ last_all p d w (and_parts (p c) _ e).1

-- ---- digits

digit_small : (c : ℕ) → digit_value c < 10 → is_ascii_digit c ≡ true
digit_small c l = grind (arith, nat_tests, l)

are_digits : (ds : List ℕ) → AllDigits 10 ds → list_all is_ascii_digit ds ≡ true
are_digits [] h = refl
are_digits (c ∷ ds) h = and_from _ _ (digit_small c h.0) (are_digits ds h.1)

same_value : (n : ℕ) (ds : List ℕ) → fold (λ m d. m * 10 + digit_value d) n ds ≡ digits_value_after 10 n ds
same_value n [] = refl
same_value n (c ∷ ds) = same_value (n * 10 + digit_value c) ds

-- the digits of a number
pub record Digits (n : ℕ) : Type 0 where
  pub head : ℕ
  pub tail : List ℕ
  pub are : decimal n ≡ head ∷ tail
  pub digits : list_all is_ascii_digit (head ∷ tail) ≡ true
  pub value : spec.value_in 10 (head ∷ tail) ≡ n

pub digits_of : (n : ℕ) → n < 2 ^ 128 → Digits n
digits_of n l = by (decimal n) refl (let h = decimal_is_IsNumeral_wide n (omega arith) in h.0) (let h = decimal_is_IsNumeral_wide n (omega arith) in h.1)
  where
    by : (ds : List ℕ) → decimal n ≡ ds → (0 < length ds) × AllDigits 10 ds → digits_value_after 10 0 ds ≡ n → Digits n
    by [] e h v = absurd (let k = h.0 in omega (arith, k))
    by (c ∷ ds) e h v = record { head = c; tail = ds; are = e; digits = are_digits (c ∷ ds) h.1; value = same_value 0 (c ∷ ds) ∙ v }
