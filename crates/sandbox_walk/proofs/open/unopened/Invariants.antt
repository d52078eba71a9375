use Rattle.std.proofs.Common.{◌≡◌}
use Rattle.sandbox_walk.specs.Pending.{skipped}
use Rattle.sandbox_walk.proofs.open.unopened.Given as goal

abbrev pub invariant-loop : goal.invariant-loop
invariant-loop l = l.tasks.items ≡ skipped l.counter
