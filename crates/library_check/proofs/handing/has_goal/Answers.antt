use Rattle.std.proofs.Common.{arith, sym, ◌∙◌}
use Rattle.library_check.proofs.Bodies.{no_goal_left}
use Rattle.library_check.proofs.handing.has_goal.Goals as goal

pub returns : goal.returns
returns c =
    sym (no_goal_left c.args.args.now c.args.metas.now c.loop-i.i (omega (arith, c.loop-i-test.false, c.min-i-end.ensures)) c.args.number c.args.added) ∙ c.loop-i.invariant
