-- More digits only make a number greater.
use Rattle.std.specs.Prelude.{◌≡◌, ℕ, zero, suc, ◌+◌, ◌*◌, ◌<◌, ◌≤◌, List, [], ◌∷◌, length, drop}
use Rattle.std.specs.List.{fold}
use Rattle.std.specs.Char.{digit_value}
use Rattle.std.proofs.Common.{arith, get_or, drop-cons, sym, refl}
use Rattle.term_core.specs.Tokens.{value_in}

abbrev pub grown : ℕ → ℕ → List ℕ → ℕ
grown radix n ds = fold (λ n d. n * radix + digit_value d) n ds

at_least : (radix n d : ℕ) → 1 ≤ radix → n ≤ n * radix + d
at_least zero n d h = absurd (omega arith)
at_least (suc radix) n d h = grind arith

pub grown-le : (radix n : ℕ) (ds : List ℕ) → 1 ≤ radix → n ≤ grown radix n ds
grown-le radix n [] h = omega arith
grown-le radix n (d ∷ ds) h =
    let now = at_least radix n (digit_value d) h in
    let later = grown-le radix (n * radix + digit_value d) ds h in
    omega (arith, now, later)

-- what is too great before some digits is too great after them
pub too_great : (radix n limit i d : ℕ) (ds : List ℕ) → 1 ≤ radix → i < length ds → d ≡ get_or ds i d → value_in radix ds ≡ grown radix n (drop i ds) → (n * radix + digit_value d ≤ limit → ⊥) → value_in radix ds ≤ limit → ⊥
too_great radix n limit i d ds r l e v h k =
    let step : grown radix n (drop i ds) ≡ grown radix (n * radix + digit_value d) (drop (suc i) ds) = rw (drop-cons ds i d l, sym e) refl in
    let more = grown-le radix (n * radix + digit_value d) (drop (suc i) ds) r in
    h (omega (arith, v, step, more, k))
