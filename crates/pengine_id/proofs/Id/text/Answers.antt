use Rattle.std.proofs.Common.{◌≡◌, ◌∙◌, ap}
use Rattle.std.proofs.lemmas.Result.{IfOk-weaker}
use Rattle.uuid.specs.Text.{hyphenated_text, lower}
use Rattle.pengine_id.specs.Layout.{id_text}
use Rattle.pengine_id.proofs.Id.text.Goals as goal

pub returns : goal.returns
returns c =
    let same : c.encode_lower.result.now ≡ id_text c.args.self =
    c.encode_lower.ensures.text ∙ ap (hyphenated_text lower) (c.hyphenated.ensures ∙ c.from_u128-uuid.ensures) in
    IfOk-weaker c.from_str.result _ _ (λ t h. h ∙ same) c.from_str.ensures
