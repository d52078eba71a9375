use Rattle.std.proofs.Common.{◌≡◌, ◌∙◌, ℕ, Bool, true, false, List, Ok, refl, ap, sym}
use Rattle.std.specs.Str.{IsUtf8, is_utf8}
use Rattle.std.proofs.lemmas.Str.{is_utf8-from_IsUtf8, IsUtf8-from_is_utf8}
use Rattle.std.proofs.lemmas.Bool.{cond-true, cond-false}
use Rattle.routes.proofs.asked.body_text.Goals as goal

not_utf8 : (bs : List ℕ) → ¬ (IsUtf8 bs) → is_utf8 bs ≡ false
not_utf8 bs h = go (is_utf8 bs) refl
  where
    go : (b : Bool) → is_utf8 bs ≡ b → is_utf8 bs ≡ false
    go true e = absurd (h (IsUtf8-from_is_utf8 bs e))
    go false e = e

pub returns-in-Ok-clause-ok : goal.returns-in-Ok-clause-ok
returns-in-Ok-clause-ok c = cond-true _ _ _ (is_utf8-from_IsUtf8 c.args.body.now c.in-Ok.ensures.cases.1) ∙ ap Ok (sym c.in-Ok.ensures.cases.0)

pub returns-in-Err-clause-err : goal.returns-in-Err-clause-err
returns-in-Err-clause-err c = cond-false _ _ _ (not_utf8 c.args.body.now c.in-Err.ensures.cases.0)
