-- A body that is JSON, and one that isn't.
use Rattle.std.proofs.Common.{◌≡◌, ◌∙◌, ℕ, Bool, true, false, List, Option, Some, None, refl, sym}
use Rattle.std.specs.Str.{IsUtf8, is_utf8}
use Rattle.std.proofs.lemmas.Str.{is_utf8-from_IsUtf8, IsUtf8-from_is_utf8}
use Rattle.std.proofs.lemmas.Bool.{cond-true, cond-false}
use Rattle.serde_json.specs.Data.{Data}
use Rattle.serde_json.specs.Read.{read}
use Rattle.routes.specs.Creations.{json_of}

pub json_some : (body : List ℕ) (d : Data) → IsUtf8 body → read body ≡ Some d → json_of body ≡ Some d
json_some body d utf8 e = cond-true _ _ _ (is_utf8-from_IsUtf8 body utf8) ∙ e

pub json_none : (body : List ℕ) → (IsUtf8 body → read body ≡ None) → json_of body ≡ None
json_none body h = go (is_utf8 body) refl
  where
    go : (b : Bool) → is_utf8 body ≡ b → json_of body ≡ None
    go true e = cond-true _ _ _ e ∙ h (IsUtf8-from_is_utf8 body e)
    go false e = cond-false _ _ _ e
