use Rattle.std.proofs.Common.{◌∙◌}
use Rattle.std.proofs.lemmas.Result.{err_from_is_err_and}
use Rattle.prolog_read.proofs.Faults.{told_fault, nodes_fault}
use Rattle.prolog_read.proofs.read.check_syntax.Goals as goal

pub returns-in_err-check-clause-err : goal.returns-in_err-check-clause-err
returns-in_err-check-clause-err c =
    let p = err_from_is_err_and c.from_residual-in_err-check.result c.from_residual-in_err-check.ensures.1 in
    let same = c.deref.ensures.value ∙ c.in_ok-placed.ensures.placed in
    rw (p.1, p.2, ← same) (told_fault _ _ (nodes_fault _ _ c.in_err-check.ensures.err))
