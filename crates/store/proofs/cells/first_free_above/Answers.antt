use Rattle.std.proofs.Common.{◌≡◌, ◌+◌, ◌∙◌, sym, arith}
use Rattle.term_core.specs.Variables.{first_free}
use Rattle.store.proofs.Terms.{first_free-none, first_free-some}
use Rattle.store.proofs.cells.first_free_above.Goals as goal

pub returns-then-free-eq0 : goal.returns-then-free-eq0
returns-then-free-eq0 c = first_free-none c.args.base c.args.t.now (sym c.in_ok-free.ensures.ok ∙ c.if-free-eq0.true)

pub returns : goal.returns
returns c =
    let sum : c.in_ok-sum.sum ≡ first_free c.args.t.now + c.args.base = grind arith in
    sum ∙ first_free-some c.args.base c.args.t.now (λ e. c.if-free-eq0.false (c.in_ok-free.ensures.ok ∙ e))
