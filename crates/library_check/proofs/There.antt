-- A predicate has clauses where there is one.
use Rattle.std.proofs.Common.{◌≡◌, ℕ, suc, Bool, true, false, not, ◌==◌, List, [], ◌∷◌, map, length, ap, ◌∙◌, arith}
use Rattle.term_core.specs.declared.pi.Pi.{Pi}
use Rattle.program.specs.declared.clause.Clause as kept
use Rattle.program.specs.Clauses.{Clause, clauses_of}
use Rattle.program.specs.Kept.{clause_of}
use Rattle.sandbox_walk.specs.Keeping.{is_there}

abbrev some : List Clause → Bool
some cs = elim cs as (λ x. Bool) [ [] ↦ false | c ∷ ds ↦ true ]

not_zero : (n : ℕ) → (suc n == 0) ≡ false
not_zero n = grind arith

pub is_there_by : (p : List Clause) (i : Pi) (ks : List kept.Clause) (b : Bool) → map clause_of ks ≡ clauses_of i p → b ≡ (length ks == 0) → not b ≡ is_there p i
is_there_by p i [] b e f = ap not f ∙ ap some e
is_there_by p i (k ∷ ks) b e f = ap not (f ∙ not_zero (length ks)) ∙ ap some e
