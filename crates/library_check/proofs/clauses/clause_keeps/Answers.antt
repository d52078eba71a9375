use Rattle.std.proofs.Common.{sym, ◌∙◌}
use Rattle.std.proofs.lemmas.Result.{IfOk-weaker}
use Rattle.program.specs.Kept.{clause_of}
use Rattle.library_check.proofs.Kept.{hands_keeps}
use Rattle.library_check.proofs.clauses.clause_keeps.Goals as goal

pub returns : goal.returns
returns c =
    IfOk-weaker c.hands_on.result _ _
    (λ b h. hands_keeps c.args.table.now c.requires (clause_of c.args.clause.now) c.in-Some.pi c.in_ok-arguments.field-0.items c.in_ok-run_metas.field-0.items b (sym c.in_ok-pi.ensures ∙ c.in-Some.is) (sym c.is_reserved.ensures ∙ c.if-is_reserved.false) c.if-clause.false
    (sym c.runs_goals.ensures ∙ c.if-not-runs_goals.false) c.in_ok-arguments.ensures c.in_ok-run_metas.ensures h)
    c.hands_on.ensures
