-- A list of clauses, as it is kept: by arity and name, with the place of each clause of the list.
use Rattle.std.specs.Prelude.{◌≡◌, ℕ, ◌<◌, List, [], map, length, take, drop, Vec, String, All}
use Rattle.std.specs.Global.{Global}
use Rattle.std.specs.List.{flat_map}
use Rattle.std.specs.Option.{option_map_or}
use Rattle.std.specs.Ordering.{nat_cmp}
use Rattle.std.specs.BTreeMap.{BTreeMap, get, get_by_text}
use Rattle.term_core.specs.declared.pi.Pi.{Pi}
use Rattle.program.specs.declared.clause.Clause as kept
use Rattle.program.specs.declared.clause_map.Place.{Place}
use Rattle.program.specs.Clauses.{Clause, clauses_of}
use Rattle.program.specs.Kept.{clause_of}

abbrev pub ByName : Type 0
ByName = BTreeMap (String Global) (Vec kept.Clause Global)

abbrev pub ByArity : Type 0
ByArity = BTreeMap ℕ ByName

-- the clauses that are kept under a name
abbrev pub held_at : ByName → List ℕ → List kept.Clause
held_at m name = option_map_or (λ v. v.items) (get_by_text m name) []

-- the clauses that are kept for a predicate
abbrev pub found : ByArity → Pi → List kept.Clause
found m pi = option_map_or (λ by_name. held_at by_name pi.name) (get nat_cmp m pi.arity) []

-- the clause at a place
abbrev pub at_place : ByArity → Place → List kept.Clause
at_place m p = take 1 (drop p.at (found m p.pi))

abbrev pub in_order : ByArity → List Place → List Clause
in_order m ps = map clause_of (flat_map (at_place m) ps)

-- a clause is kept at the place
abbrev pub IsHeld : ByArity → Place → Type 0
IsHeld m p = p.at < length (found m p.pi)

-- a clause is kept at each place, and what is kept for a predicate is its clauses of the list, in order
pub record IsByPredicate (m : ByArity) (ps : List Place) : Type 0 where
  pub held : All (IsHeld m) ps
  pub complete : (pi : Pi) → clauses_of pi (in_order m ps) ≡ map clause_of (found m pi)
