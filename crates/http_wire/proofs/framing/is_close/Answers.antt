use Rattle.std.proofs.Common.{◌∙◌, refl, ap, codes, ℕ, List}
use Rattle.std.proofs.lemmas.Str.Ascii.{trim_ascii_is}
use Rattle.http_wire.specs.Framing.{same_name}
use Rattle.http_wire.proofs.Names.{same_name_is}
use Rattle.http_wire.proofs.framing.is_close.Goals as goal

pub returns : goal.returns
returns c =
    same_name_is c.trim_ascii.result.now (codes "close") c.eq_ignore_ascii_case.result c.eq_ignore_ascii_case.ensures.test
    ∙ ap (λ (t : List ℕ). same_name t (codes "close")) (trim_ascii_is c.args.option.now c.trim_ascii.result.now _ refl c.trim_ascii.ensures.value)
