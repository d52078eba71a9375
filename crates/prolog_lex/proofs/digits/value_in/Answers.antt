use Rattle.prolog_lex.proofs.Growth.{too_great}
use Rattle.prolog_lex.proofs.digits.value_in.Goals as goal

pub returns-in_err-value : goal.returns-in_err-value
returns-in_err-value c =
    rw c.from_residual.ensures
    (too_great c.args.radix c.loop-digit.value _ c.loop-digit.digit-index c.digit-item.result c.args.digits.now c.requires c.loop-digit-test.true c.digit-item.is c.loop-digit.invariant.0 c.in_err-value.ensures)
