-- Clauses, and which of them a call tries (ISO 13211-1, 7.5).
use Rattle.std.specs.Prelude.{ℕ, Bool, false, ◌&&◌, ◌==◌, List, [], ◌∷◌, if◌then◌else◌, bytes_eq, Option, Some, None}
use Rattle.term_core.specs.declared.pi.Pi.{Pi}
use Rattle.term_core.specs.Tree.{Tree, variable, integer, atom, compound, arity}

-- a clause, whose variables are numbered from 0 below `vars`, and whether it is the client's own or the library's
pub record Clause : Type 0 where
  pub head : Tree
  pub body : Tree
  pub vars : ℕ
  pub own : Bool

-- the predicate that a head or a goal is of; a variable and an integer are of none (ISO 13211-1, 3.136)
abbrev pub indicator_of : Tree → Option Pi
indicator_of (variable n) = None
indicator_of (integer z) = None
indicator_of (atom f) = Some (record { name = f; arity = 0 })
indicator_of (compound f ts) = Some (record { name = f; arity = arity ts })

abbrev pub same_indicator : Pi → Pi → Bool
same_indicator i j = bytes_eq i.name j.name && i.arity == j.arity

-- whether a clause's head has this indicator
abbrev pub is_for : Pi → Tree → Bool
is_for i (atom f) = bytes_eq i.name f && i.arity == 0
is_for i (compound f ts) = bytes_eq i.name f && i.arity == arity ts
is_for i (variable n) = false
is_for i (integer z) = false

-- the clauses of a predicate, in order
unfoldable pub clauses_of : Pi → List Clause → List Clause
clauses_of i [] = []
clauses_of i (c ∷ cs) = if is_for i c.head then c ∷ clauses_of i cs else clauses_of i cs
