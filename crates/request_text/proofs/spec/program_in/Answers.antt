use Rattle.std.proofs.lemmas.Result.{err_from_is_err_and}
use Rattle.lib_text.proofs.Reading.{all_numbered}
use Rattle.request_text.proofs.Programs.{program_made, program_refused}
use Rattle.request_text.proofs.spec.program_in.Goals as goal

pub load-requires : goal.load-requires
load-requires c = all_numbered c.in-Ok.clauses.items c.in-Ok.ensures.numbered

pub returns-in_err-program-clause-refused : goal.returns-in_err-program-clause-refused
returns-in_err-program-clause-refused c =
    let p = err_from_is_err_and c.from_residual.result c.from_residual.ensures.1 in
    rw (p.1, p.2) (program_refused c.args.library.now.app c.args.text.now c.in-Ok.clauses.items c.in-Ok.ensures.exact c.in_err-program.field-0.0 c.in_err-program.ensures.refused)

pub returns-clause-program : goal.returns-clause-program
returns-clause-program c =
    program_made c.args.library.now.app c.args.text.now c.in-Ok.clauses.items c.in-Ok.ensures.exact c.in_ok-program.program c.in_ok-program.ensures.clauses c.in_ok-program.ensures.app c.in_ok-program.ensures.declared c.in_ok-program.ensures.accepted
