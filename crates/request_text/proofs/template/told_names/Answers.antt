use Rattle.std.proofs.Common.{◌∙◌}
use Rattle.std.proofs.lemmas.Result.{IfOk-weaker}
use Rattle.request_text.proofs.Naming.{told_alone}
use Rattle.request_text.proofs.template.told_names.Goals as goal

pub returns : goal.returns
returns c = IfOk-weaker c.listed.result _ _ (λ ns e. e ∙ told_alone c.new.result c.in_ok-told.told c.new.ensures.empty c.args.names.now c.in_ok-told.ensures) c.listed.ensures
