-- The variables of a term, numbered from 0 by first occurrence (ISO 13211-1, 6.3.2).
use Rattle.std.specs.Prelude.{◌≡◌, ℕ, zero, suc, List, [], ◌∷◌, ◌++◌, Option, Some, None, if◌then◌else◌, codes, unwrap_or}
use Rattle.std.specs.Option.{is_some}
use Rattle.std.specs.Str.{bytes_eq}
use Rattle.term_core.specs.Tree.{Tree}
use Rattle.term_core.specs.Variables.{variables, first_free}

-- names as bytes, each with its number
abbrev pub Names : Type 0
Names = List (List ℕ × ℕ)

-- the names so far, and the number of the next new variable
pub record Numbering : Type 0 where
  pub names : Names
  pub next : ℕ

abbrev pub start : Numbering
start = record { names = []; next = 0 }

-- the number of a name
abbrev pub lookup : List ℕ → Names → Option ℕ
lookup w [] = None
lookup w (p ∷ ps) = if bytes_eq p.0 w then Some p.1 else lookup w ps

-- the number of a variable: that of its name, or the next one; `_` is new each time
abbrev pub number_of : Numbering → List ℕ → ℕ
number_of s w = if bytes_eq w (codes "_") then s.next else unwrap_or (lookup w s.names) s.next

abbrev pub with_variable : Numbering → List ℕ → Numbering
with_variable s w =
    if bytes_eq w (codes "_") then record { names = s.names; next = suc s.next }
    else (if is_some (lookup w s.names) then s
    else record { names = s.names ++ (w, s.next) ∷ []; next = suc s.next })

-- the numbers below n, in order
abbrev pub numbers_below : ℕ → List ℕ
numbers_below zero = []
numbers_below (suc n) = numbers_below n ++ n ∷ []

-- the variables are numbered from 0 without a gap, by first occurrence
abbrev pub IsNumbered : Tree → Type 0
IsNumbered t = variables t ≡ numbers_below (first_free t)
