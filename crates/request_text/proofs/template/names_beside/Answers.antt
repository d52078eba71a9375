use Rattle.std.proofs.Common.{◌∙◌}
use Rattle.std.proofs.lemmas.Result.{IfOk-weaker}
use Rattle.prolog_read.specs.Outcome.{read_as}
use Rattle.request_text.proofs.Naming.{told_beside}
use Rattle.request_text.proofs.template.names_beside.Goals as goal

pub returns : goal.returns
returns c =
    IfOk-weaker c.listed.result _ _
    (λ ns e. e ∙ told_beside c.new.result c.in_ok-told.told c.new.ensures.empty (read_as c.args.goal.now) (read_as c.args.template.now) c.as_slice-2.result.now c.as_slice.result.now c.in_ok-free.free c.in_ok-behind.behind c.as_slice-2.ensures c.as_slice.ensures c.in_ok-free.ensures.ok c.in_ok-behind.ensures c.in_ok-told.ensures)
    c.listed.ensures
