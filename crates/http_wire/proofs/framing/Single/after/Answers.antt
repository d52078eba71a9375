use Rattle.std.proofs.Common.{◌≡◌, ◌≢◌, ◌≤◌, ◌∙◌, true, ℕ, List, [], ◌∷◌, length, refl, sym, ap, arith, length-append}
use Rattle.httparse.specs.Spans.{header_bytes}
use Rattle.http_wire.specs.declared.framing.Single.{Single}
use Rattle.http_wire.specs.declared.framing.Single.TheVariants.{Missing, One, Several}
use Rattle.http_wire.specs.Framing.{same_name, values}
use Rattle.http_wire.specs.Single.{IsSingle}
use Rattle.http_wire.proofs.Names.{same_name_is, value_of_name}
use Rattle.http_wire.proofs.framing.Single.after.Goals as goal

some_value : (bytes : List ℕ) (vs : List (List ℕ)) (f : Single) → f ≢ Missing → IsSingle bytes vs f → 1 ≤ length vs
some_value bytes vs Missing not is = absurd (not refl)
some_value bytes vs (One s) not is = omega (arith, ap length is.0)
some_value bytes vs Several not is = omega (arith, is)

pub returns-in_default : goal.returns-in_default
returns-in_default c = λ vs is.
    let field = header_bytes c.args.bytes.now c.args.field.now in
    let named : same_name field.0 c.args.name.now ≡ true =
    ap (λ (l : List ℕ). same_name l c.args.name.now) (sym c.of.ensures)
    ∙ sym (same_name_is c.of.result.now c.args.name.now c.eq_ignore_ascii_case.result c.eq_ignore_ascii_case.ensures.test) ∙ c.if-not-eq_ignore_ascii_case.false in
    omega (arith, ap length (value_of_name c.args.name.now field named), length-append vs (values c.args.name.now (field ∷ [])), some_value c.args.bytes.now vs c.args.self c.in_default.not-Missing is)
