-- The parameters of a query (application/x-www-form-urlencoded: URL Standard, section 5.1).
use Rattle.std.specs.Prelude.{ℕ, ◌+◌, ◌*◌, ◌-◌, List, [], ◌∷◌, Option, Some, None, cond, if◌then◌else◌, option_and_then}
use Rattle.std.specs.Str.{bytes_eq}
use Rattle.std.specs.Str.Lossy.{utf8_lossy}
use Rattle.std.specs.Char.{is_ascii_digit}
use Rattle.form_urlencoded.specs.Form.{decode, raw_pairs}

-- the text of an encoded name or value
abbrev pub text_of : List ℕ → List ℕ
text_of bytes = utf8_lossy (decode bytes)

-- the value of the first pair with this name
abbrev pub first_among : List ℕ → List (List ℕ × List ℕ) → Option (List ℕ)
first_among name [] = None
first_among name (pair ∷ rest) = cond (bytes_eq (text_of pair.0) name) (Some (text_of pair.1)) (first_among name rest)

abbrev pub first_param : (query name : List ℕ) → Option (List ℕ)
first_param query name = first_among name (raw_pairs query)

abbrev pub digit : ℕ → Option ℕ
digit b = if is_ascii_digit b then Some (b - 48) else None

-- the number that one or two decimal digits write
abbrev pub small_number : List ℕ → Option ℕ
small_number [] = None
small_number (a ∷ []) = digit a
small_number (a ∷ b ∷ []) = option_and_then (λ x. option_and_then (λ y. Some (10 * x + y)) (digit b)) (digit a)
small_number (a ∷ b ∷ c ∷ bs) = None
