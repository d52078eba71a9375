use Rattle.std.proofs.Common.{◌≡◌, ap, sym, ◌∙◌}
use Rattle.std.proofs.lemmas.Result.{IfOk-weaker}
use Rattle.program.specs.Source.{are_imports, is_operator, is_directive}
use Rattle.program.proofs.SourceLemmas.{directive_use, directive_op, directive_other}
use Rattle.program.proofs.directive.is_directive.Goals as goal

pub returns-in-use_module : goal.returns-in-use_module
returns-in-use_module c =
    let t = c.args.directive.now in
    IfOk-weaker c.are_imports.result (λ b. b ≡ are_imports c.deref.result.now) (λ b. b ≡ is_directive t)
    (λ b h. h ∙ ap are_imports (c.deref.ensures.value ∙ c.in_ok-arguments.ensures) ∙ directive_use t (sym c.functor.ensures ∙ c.in-use_module.is))
    c.are_imports.ensures

pub returns-in-op : goal.returns-in-op
returns-in-op c =
    let t = c.args.directive.now in
    IfOk-weaker c.is_operator.result (λ b. b ≡ is_operator c.deref-in-op.result.now) (λ b. b ≡ is_directive t)
    (λ b h. h ∙ ap is_operator (c.deref-in-op.ensures.value ∙ c.in_ok-arguments.ensures) ∙ directive_op t (sym c.functor.ensures ∙ c.in-op.is))
    c.is_operator.ensures

pub returns : goal.returns
returns c =
    directive_other c.args.directive.now (λ e. c.in_default.not-use_module (c.functor.ensures ∙ e)) (λ e. c.in_default.not-op (c.functor.ensures ∙ e))
