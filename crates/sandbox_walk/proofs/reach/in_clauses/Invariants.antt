use Rattle.std.proofs.Common.{◌≡◌, map, take}
use Rattle.std.specs.List.{flat_map}
use Rattle.program.specs.Kept.{clause_of}
use Rattle.sandbox_walk.specs.Verdict.{in_clause}
use Rattle.sandbox_walk.proofs.reach.in_clauses.Given as goal

abbrev pub invariant-loop-clause : goal.invariant-loop-clause
invariant-loop-clause l = l.all.items ≡ flat_map (in_clause l.table) (map clause_of (take l.clause-index l.clauses))
