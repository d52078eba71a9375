use Rattle.std.proofs.Common.{◌≡◌, map, drop}
use Rattle.sandbox_walk.specs.Shown.{declared_kind}
use Rattle.sandbox_walk.specs.Keeping.{hands_arguments}
use Rattle.library_check.specs.Bodies.{is_given}
use Rattle.library_check.proofs.handing.hands_arguments.Given as goal

abbrev pub invariant-loop-i : goal.invariant-loop-i
invariant-loop-i l = hands_arguments (is_given l.given) (drop l.i l.args) (map declared_kind (drop l.i l.metas)) ≡ hands_arguments (is_given l.given) l.args (map declared_kind l.metas)
