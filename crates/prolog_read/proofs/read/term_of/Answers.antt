use Rattle.std.proofs.Common.{◌∙◌}
use Rattle.std.proofs.lemmas.Result.{err_from_is_err_and}
use Rattle.prolog_read.proofs.Faults.{told_fault, first_fault}
use Rattle.prolog_read.proofs.read.term_of.Goals as goal

pub returns-in_err-term-clause-err : goal.returns-in_err-term-clause-err
returns-in_err-term-clause-err c =
    let p = err_from_is_err_and c.from_residual-in_err-term.result c.from_residual-in_err-term.ensures.1 in
    let same = c.deref.ensures.value ∙ c.in_ok-placed.ensures.placed in
    rw (p.1, p.2, ← same) (first_fault _ _ _ (told_fault _ _ c.in_err-term.ensures.err))
