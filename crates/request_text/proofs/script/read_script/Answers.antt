use Rattle.std.proofs.Common.{sym, ◌∙◌, ap, Ok, Err}
use Rattle.std.proofs.lemmas.Result.{err_from_is_err_and}
use Rattle.program.specs.Loaded.{Loaded}
use Rattle.request_text.specs.declared.fault.ScriptFault.TheVariants.{Utf8}
use Rattle.request_text.proofs.Scripts.{not_text, source_refused, line_refused, script_made}
use Rattle.request_text.proofs.script.read_script.Goals as goal

pub returns-in-Err-clause-refused : goal.returns-in-Err-clause-refused
returns-in-Err-clause-refused c = λ _. not_text c.args.library.now.app c.args.bytes.now c.in-Err.ensures.cases.0 ∙ ap (λ n. Err (Utf8 n)) (sym (c.valid_up_to.ensures ∙ c.in-Err.ensures.valid_len))

pub returns-in_err-program-clause-refused : goal.returns-in_err-program-clause-refused
returns-in_err-program-clause-refused c =
    let p = err_from_is_err_and c.from_residual.result c.from_residual.ensures.1 in
    rw (p.1, p.2) (source_refused c.args.library.now.app c.args.bytes.now c.in-Ok.text.now _ _ c.in-Ok.ensures.cases.0 c.in-Ok.ensures.cases.1 c.parts.ensures.source c.parts.ensures.requests c.in_err-program.field-0.0 c.in_err-program.ensures.refused)

pub returns-in_err-settings-clause-refused : goal.returns-in_err-settings-clause-refused
returns-in_err-settings-clause-refused c =
    let p = err_from_is_err_and c.from_residual-in_err-settings.result c.from_residual-in_err-settings.ensures.1 in
    rw (p.1, p.2) (λ n. line_refused c.args.library.now.app c.args.bytes.now c.in-Ok.text.now _ _ c.in-Ok.ensures.cases.0 c.in-Ok.ensures.cases.1 c.parts.ensures.source c.parts.ensures.requests _ c.in_ok-program.ensures.program c.in_err-settings.field-0.0 (rw c.app.ensures at (c.in_err-settings.ensures.refused n)))

pub returns-clause-script : goal.returns-clause-script
returns-clause-script c =
    script_made c.args.library.now.app c.args.bytes.now c.in-Ok.text.now _ _ c.in-Ok.ensures.cases.0 c.in-Ok.ensures.cases.1 c.parts.ensures.source c.parts.ensures.requests _ c.in_ok-program.ensures.program _ (rw c.app.ensures at c.in_ok-settings.ensures.session)
    ∙ ap (λ (l : Loaded). Ok (record { program = l; settings = c.in_ok-settings.settings; lines = c.in_ok-settings.lines })) (sym c.in_ok-new.ensures.ok)
