use Rattle.std.proofs.Common.{◌≡◌, ◌++◌, map, filter, take}
use Rattle.std.specs.List.{flat_map}
use Rattle.program.specs.Kept.{clause_of}
use Rattle.sandbox_walk.specs.Verdict.{in_goal, in_clause, reads}
use Rattle.sandbox_walk.specs.Seen.{has}
use Rattle.sandbox_walk.proofs.texts.all_shown.Given as goal

abbrev pub invariant-loop-clause : goal.invariant-loop-clause
invariant-loop-clause l =
    l.all.items ≡ in_goal l.table l.goal ++ flat_map (in_clause l.table) (filter (reads l.table l.program.clauses (has l.reached)) (map (λ c. clause_of c.now) (take l.clause-index l.clause-items)))
