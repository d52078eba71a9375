use Rattle.std.proofs.Common.{◌∙◌, ap, sym, Some}
use Rattle.event_core.specs.Refusals.{told_error}
use Rattle.event_core.proofs.Refusing.{passes, refuses}
use Rattle.event_core.proofs.refused.refusal.Goals as goal

pub returns-in-Ok : goal.returns-in-Ok
returns-in-Ok c = passes c.args.program.now.value c.args.ask.now c.in-Ok.ensures.passed

pub returns : goal.returns
returns c =
    ap Some (c.in_ok-told-in-Err.ensures ∙ ap told_error c.in_ok-formal-in-Err.ensures.formal)
    ∙ refuses c.args.program.now.value c.args.ask.now c.in-Err.refused (sym c.is_verdict.ensures ∙ c.if-not-is_verdict.false) c.in-Err.ensures.refused
