use Rattle.sandbox_walk.specs.Seen.{IsWalking}
use Rattle.sandbox_walk.proofs.reach.reached.Given as goal

abbrev pub invariant-loop : goal.invariant-loop
invariant-loop l = IsWalking l.table l.program.clauses l.goal l.walk
