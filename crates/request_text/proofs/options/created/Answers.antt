use Rattle.std.proofs.Common.{sym, ◌∙◌, ap}
use Rattle.request_text.specs.Shapes.{elements}
use Rattle.request_text.specs.Options.{and_then, settings_of}
use Rattle.request_text.proofs.OptionLists.{settings_none}
use Rattle.request_text.proofs.options.created.Goals as goal

pub returns-in_default-2 : goal.returns-in_default-2
returns-in_default-2 c =
    settings_none c.args.app (elements c.in-Some.options) (rw c.in_default-2.is at c.in_ok-options-2.ensures)
    ∙ ap (λ o. and_then o (λ x. and_then (elements x) (settings_of c.args.app))) (sym c.in-Some.is ∙ c.in_ok-options.ensures)
