use Rattle.std.proofs.Common.{◌≡◌}
use Rattle.sandbox_walk.specs.declared.shown.Task.TheVariants.{Argument}
use Rattle.sandbox_walk.specs.Pending.{tasks_of}
use Rattle.sandbox_walk.proofs.open.arguments.Given as goal

abbrev pub invariant-loop-i : goal.invariant-loop-i
invariant-loop-i l = l.tasks.items ≡ tasks_of (Argument l.holder) l.i l.kinds
