use Rattle.std.proofs.Common.{sym, ◌∙◌}
use Rattle.std.proofs.lemmas.Result.{IfOk-weaker}
use Rattle.library_check.proofs.Rows.{run_helper, run_row, run_none}
use Rattle.library_check.proofs.metas.run_metas.Goals as goal

pub returns-in-Some : goal.returns-in-Some
returns-in-Some c =
    IfOk-weaker c.copied.result _ _ (λ v e p. run_helper c.args.table.now c.args.pi.now v.items p c.in-Some.metas (sym c.helper.ensures ∙ c.in-Some.is) e) c.copied.ensures

pub returns-in-None-row : goal.returns-in-None-row
returns-in-None-row c =
    λ p. run_none c.args.table.now c.args.pi.now c.new.result.items p (sym c.helper.ensures ∙ c.in-None.is) (sym c.row.ensures ∙ c.in-None-row.is) c.new.ensures.items

pub returns-in-Some-row : goal.returns-in-Some-row
returns-in-Some-row c =
    IfOk-weaker c.copied-in-Some-row.result _ _
    (λ v e p. run_row c.args.table.now c.args.pi.now v.items p c.in-Some-row.row (sym c.helper.ensures ∙ c.in-None.is) (sym c.row.ensures ∙ c.in-Some-row.is) e)
    c.copied-in-Some-row.ensures
