use Rattle.std.proofs.Common.{◌≡◌, map, drop}
use Rattle.std.specs.List.{list_all}
use denote.Bor.{Bor}
use Rattle.program.specs.declared.clause.Clause as kept
use Rattle.program.specs.Kept.{clause_of}
use Rattle.sandbox_walk.specs.Keeping.{clause_keeps}
use Rattle.library_check.proofs.clauses.clauses_keep.Given as goal

abbrev pub invariant-loop-clause : goal.invariant-loop-clause
invariant-loop-clause l =
    list_all (clause_keeps l.table) (map (λ (c : Bor kept.Clause). clause_of c.now) (drop l.clause-index l.clauses)) ≡ list_all (clause_keeps l.table) (map (λ (c : Bor kept.Clause). clause_of c.now) l.clauses)
