use Rattle.std.proofs.Common.{◌≡◌, ◌+◌, ◌-◌, suc, length, drop, subst, sym, arith}
use Rattle.solve_model.specs.Dropping.{IsCollect, NoneCollect}
use Rattle.solve_model.proofs.Gathering.{none_at_end, none_further, innermost_at, no_collector}
use Rattle.solve_model.proofs.collecting.innermost.Goals as goal

pub loop-i-init : goal.loop-i-init
loop-i-init c = none_at_end c.args.frames.now (length c.args.frames.now - 0) (omega arith)

pub returns-in-Collect-clause-some : goal.returns-in-Collect-clause-some
returns-in-Collect-clause-some c =
    let fs = c.args.frames.now in
    let i = c.loop-i.i in
    let same : length fs - i ≡ suc (length fs - 1 - i) = omega (arith, c.loop-i-test.true) in
    innermost_at fs (length fs - 1 - i) c.index-frames-at.result (omega (arith, c.loop-i-test.true)) c.index-frames-at.is (subst IsCollect (sym c.in-Collect.is) tt) (subst (λ n. NoneCollect (drop n fs)) same c.loop-i.invariant)

pub loop-i-preserved : goal.loop-i-preserved
loop-i-preserved c =
    let fs = c.args.frames.now in
    let i = c.loop-i.i in
    let same : length fs - i ≡ suc (length fs - 1 - i) = omega (arith, c.loop-i-test.true) in
    let next : length fs - 1 - i ≡ length fs - (i + 1) = omega (arith, c.loop-i-test.true) in
    subst (λ n. NoneCollect (drop n fs)) next
    (none_further fs (length fs - 1 - i) c.index-frames-at.result (omega (arith, c.loop-i-test.true)) c.index-frames-at.is (no_collector c.index-frames-at.result c.in_default.not-Collect) (subst (λ n. NoneCollect (drop n fs)) same c.loop-i.invariant))
