use Rattle.std.proofs.Common.{arith}
use Rattle.op_table.proofs.ops.put.Goals as goal

pub returns-in_err-push-clause-unchanged : goal.returns-in_err-push-clause-unchanged
returns-in_err-push-clause-unchanged c = absurd (omega (arith, c.in_err-push.ensures.full, c.in_ok-reserve.ensures.ok))
