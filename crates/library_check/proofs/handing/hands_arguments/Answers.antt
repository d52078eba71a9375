use Rattle.std.proofs.Common.{arith, sym, ◌∙◌}
use Rattle.library_check.specs.Bodies.{is_given}
use Rattle.library_check.proofs.Bodies.{no_argument_left}
use Rattle.library_check.proofs.handing.hands_arguments.Goals as goal

pub returns : goal.returns
returns c =
    sym (no_argument_left c.args.args.now c.args.metas.now c.loop-i.i (omega (arith, c.loop-i-test.false, c.min-i-end.ensures)) (is_given c.args.given.now)) ∙ c.loop-i.invariant
