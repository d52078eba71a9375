use Rattle.std.proofs.Common.{arith}
use Rattle.collect.proofs.Copying.{after_taken}
use Rattle.collect.proofs.numbers.variable_count.Goals as goal

pub loop-term-preserved : goal.loop-term-preserved
loop-term-preserved c =
    grind (arith, after_taken 0 c.args.terms.now c.loop-term.term-index c.term-item.result c.loop-term-test.true c.term-item.is, c.loop-term.invariant, c.in_ok-first_free.ensures.ok)
