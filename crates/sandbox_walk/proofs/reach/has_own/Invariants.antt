use Rattle.std.proofs.Common.{◌≡◌, false, map, take}
use Rattle.std.specs.List.{list_any}
use Rattle.program.specs.Kept.{clause_of}
use Rattle.sandbox_walk.proofs.reach.has_own.Given as goal

abbrev pub invariant-loop-clause : goal.invariant-loop-clause
invariant-loop-clause l = list_any (λ c. c.own) (map clause_of (take l.clause-index l.clauses)) ≡ false
