use Rattle.std.proofs.Common.{ap, sym, ◌∙◌}
use Rattle.term_core.specs.declared.app.App.{App}
use Rattle.builtin_table.specs.Outside.{outside_in}
use Rattle.solve_model.specs.Goals.{indicator_of}
use Rattle.solve_model.proofs.Settling.{settled_silent, settled_inside, settled_outside}
use Rattle.solve_model.proofs.goals.row_in.Goals as goal

pub returns-then-not-talks : goal.returns-then-not-talks
returns-then-not-talks c =
    settled_silent (outside_in c.args.program.now.app) c.args.goal.now _ _ c.in_ok-row.ensures
    (sym (c.talks.ensures c.args.goal.now) ∙ c.if-not-talks.true)

pub returns-then-reaches_outside : goal.returns-then-reaches_outside
returns-then-reaches_outside c =
    settled_outside (outside_in c.args.program.now.app) c.args.goal.now _ _ c.in_ok-row.ensures
    (sym (c.talks.ensures c.args.goal.now) ∙ c.if-not-talks.false)
    (ap (λ (a : App). outside_in a (indicator_of c.args.goal.now)) (sym c.app.ensures) ∙ ap (outside_in c.app.result) (sym c.in_ok-pi.ensures) ∙ sym c.reaches_outside.ensures ∙ c.if-reaches_outside.true)

pub returns-else-reaches_outside : goal.returns-else-reaches_outside
returns-else-reaches_outside c =
    settled_inside (outside_in c.args.program.now.app) c.args.goal.now _ _ c.in_ok-row.ensures
    (ap (λ (a : App). outside_in a (indicator_of c.args.goal.now)) (sym c.app.ensures) ∙ ap (outside_in c.app.result) (sym c.in_ok-pi.ensures) ∙ sym c.reaches_outside.ensures ∙ c.if-reaches_outside.false)
