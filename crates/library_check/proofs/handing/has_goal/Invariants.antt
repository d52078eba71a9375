use Rattle.std.proofs.Common.{◌≡◌, map, drop}
use Rattle.sandbox_walk.specs.Shown.{declared_kind}
use Rattle.sandbox_walk.specs.Keeping.{has_goal}
use Rattle.library_check.proofs.handing.has_goal.Given as goal

abbrev pub invariant-loop-i : goal.invariant-loop-i
invariant-loop-i l = has_goal (drop l.i l.args) (map declared_kind (drop l.i l.metas)) l.number l.added ≡ has_goal l.args (map declared_kind l.metas) l.number l.added
