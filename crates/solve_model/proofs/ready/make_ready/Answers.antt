use Rattle.std.proofs.Common.{sym, ◌∙◌, ap, Bool, if◌then◌else◌}
use Rattle.solve_model.specs.Goals.{Runs, Throws, not_callable}
use Rattle.solve_model.proofs.RowLemmas.{ready_variable, ready_other}
use Rattle.solve_model.proofs.ready.make_ready.Goals as goal

pub returns-in-Var : goal.returns-in-Var
returns-in-Var c =
    rw c.in_ok-unbound_goal.ensures (ready_variable c.args.goal c.in-Var.field-0 (sym c.symbol.ensures ∙ c.in-Var.is))

pub returns-then-branch : goal.returns-then-branch
returns-then-branch c =
    ap (λ (b : Bool). if b then Runs c.args.goal else Throws (not_callable c.args.goal)) (sym c.if-branch.true ∙ c.in_ok-is_body.ensures)
    ∙ ready_other c.args.goal (λ n e. c.in_default.not-Var n (c.symbol.ensures ∙ e))

pub returns-in_ok-not_callable : goal.returns-in_ok-not_callable
returns-in_ok-not_callable c =
    rw c.in_ok-not_callable.ensures
    (ap (λ (b : Bool). if b then Runs c.args.goal else Throws (not_callable c.args.goal)) (sym c.if-branch.false ∙ c.in_ok-is_body.ensures)
    ∙ ready_other c.args.goal (λ n e. c.in_default.not-Var n (c.symbol.ensures ∙ e)))
