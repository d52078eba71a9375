use Rattle.std.proofs.Common.{◌≡◌, ◌∙◌, ap}
use Rattle.std.proofs.lemmas.Result.{IfOk-weaker}
use Rattle.term_core.specs.Variables.{numbered}
use Rattle.builtin_table.specs.Errors.{error_term}
use Rattle.event_core.specs.Refusals.{told_error}
use Rattle.event_core.specs.Stops.{resource_error}
use Rattle.event_core.proofs.Refusing.{told_whole, told_instead}
use Rattle.event_core.proofs.refused.told.Goals as goal

pub returns-then-branch : goal.returns-then-branch
returns-then-branch c =
    told_whole c.args.formal c.in_ok-whole.whole c.in_ok-fits.field-0 (c.in_ok-whole.ensures ∙ ap numbered (c.in_ok-error.ensures ∙ ap (error_term c.args.formal) c.in_ok-context.ensures)) c.in_ok-fits.ensures c.if-branch.true

pub returns-else-branch : goal.returns-else-branch
returns-else-branch c =
    IfOk-weaker c.resource_error.result (λ t. t ≡ resource_error) (λ t. t ≡ told_error c.args.formal)
    (λ t h. h ∙ told_instead c.args.formal c.in_ok-whole.whole c.in_ok-fits.field-0 (c.in_ok-whole.ensures ∙ ap numbered (c.in_ok-error.ensures ∙ ap (error_term c.args.formal) c.in_ok-context.ensures)) c.in_ok-fits.ensures c.if-branch.false)
    c.resource_error.ensures
