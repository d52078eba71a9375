use Rattle.std.proofs.Common.{◌≡◌}
use Rattle.sandbox_walk.specs.declared.shown.Task.TheVariants.{Fresh}
use Rattle.sandbox_walk.specs.Pending.{tasks_of}
use Rattle.sandbox_walk.proofs.open.variables.Given as goal

abbrev pub invariant-loop-i : goal.invariant-loop-i
invariant-loop-i l = l.tasks.items ≡ tasks_of (Fresh l.holder) l.i l.kinds
