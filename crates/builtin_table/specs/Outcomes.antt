-- What a goal of a primitive gives (ISO/IEC 13211-1, 8.1): its results in order, or one ball.
use Rattle.std.specs.Prelude.{ℕ, Bool, true, false, if◌then◌else◌, List, [], ◌∷◌}
use Rattle.term_core.specs.Tree.{Tree, variable, integer, atom, compound}
use Rattle.builtin_table.specs.Errors.{error_term, indicator_term}

-- one result: pairs that are to be unified from the left, and how many new variables they have
pub record Offer : Type 0 where
  pub pairs : List (Tree × Tree)
  pub fresh : ℕ

pub data Outcome : Type 0 where
  -- the results in order; one whose pairs don't unify is none
  Offers : List Offer → Outcome
  -- an error
  Ball : Tree → Outcome
  -- no primitive has this name and so many arguments
  Unknown : Outcome

-- ---- results

abbrev pub offer : List (Tree × Tree) → (fresh : ℕ) → Outcome
offer ps n = Offers (record { pairs = ps; fresh = n } ∷ [])

-- one result, in which these two are one
abbrev pub unifies : Tree → Tree → Outcome
unifies t u = offer ((t, u) ∷ []) 0

abbrev pub fails : Outcome
fails = Offers []

-- a test that is passed or fails
abbrev pub tested : Bool → Outcome
tested b = if b then offer [] 0 else fails

-- the error of a primitive of this name and so many arguments
abbrev pub ball : List ℕ → ℕ → Tree → Outcome
ball f n e = Ball (error_term e (indicator_term (record { name = f; arity = n })))

-- ---- tests of a term's kind (8.3)

abbrev pub is_variable : Tree → Bool
is_variable (variable n) = true
is_variable (integer z) = false
is_variable (atom f) = false
is_variable (compound f ts) = false

abbrev pub is_integer : Tree → Bool
is_integer (variable n) = false
is_integer (integer z) = true
is_integer (atom f) = false
is_integer (compound f ts) = false

abbrev pub is_atom : Tree → Bool
is_atom (variable n) = false
is_atom (integer z) = false
is_atom (atom f) = true
is_atom (compound f ts) = false

abbrev pub is_compound : Tree → Bool
is_compound (variable n) = false
is_compound (integer z) = false
is_compound (atom f) = false
is_compound (compound f ts) = true
