use Rattle.std.proofs.Common.{Err, ap, sym, ◌∙◌}
use Rattle.std.proofs.lemmas.Result.{err_from_is_err_and}
use Rattle.request_text.specs.declared.fault.ScriptFault.TheVariants.{Utf8}
use Rattle.pengines.proofs.Judging.{not_text, source_read, source_refused}
use Rattle.pengines.proofs.checking.source_in.Goals as goal

pub returns-in-Err-clause-refused : goal.returns-in-Err-clause-refused
returns-in-Err-clause-refused c = λ _. not_text c.args.input.now c.in-Err.ensures.cases.0 ∙ ap (λ n. Err (Utf8 n)) (sym (c.valid_up_to.ensures ∙ c.in-Err.ensures.valid_len))

pub returns-in_err-program_in-in-Ok-clause-refused : goal.returns-in_err-program_in-in-Ok-clause-refused
returns-in_err-program_in-in-Ok-clause-refused c =
    let p = err_from_is_err_and c.from_residual.result c.from_residual.ensures.1 in
    rw (p.1, p.2) (source_refused c.args.library.now.app c.args.input.now c.in-Ok.text.now c.requires c.in-Ok.ensures.cases.0 c.in-Ok.ensures.cases.1 c.in_err-program_in-in-Ok.field-0.0 c.in_err-program_in-in-Ok.ensures.refused)

pub returns-in_ok-program_in-in-Ok-clause-program : goal.returns-in_ok-program_in-in-Ok-clause-program
returns-in_ok-program_in-in-Ok-clause-program c = source_read c.args.library.now.app c.args.input.now c.in-Ok.text.now c.requires c.in-Ok.ensures.cases.0 c.in-Ok.ensures.cases.1 _ c.in_ok-program_in-in-Ok.ensures.program
