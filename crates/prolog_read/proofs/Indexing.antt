-- A name that gets a number.
use Rattle.std.proofs.Common.{◌≡◌, ℕ, Bool, true, false, cond, List, [], ◌∷◌, ◌++◌, Option, Some, None, String, BTreeMap, refl, sym, ap, ◌∙◌}
use Rattle.std.specs.Str.{bytes_eq}
use Rattle.std.specs.BTreeMap.{get_by_text}
use Rattle.std.specs.Map.{update}
use Rattle.std.specs.Cmp.Lexicographic.{bytes_decides}
use Rattle.prolog_read.specs.Variables.{lookup}

-- a new name behind those so far
pub lookup-push : (v w : List ℕ) (n : ℕ) (ps : List (List ℕ × ℕ)) → lookup w ps ≡ None → lookup v (ps ++ (w, n) ∷ []) ≡ cond (bytes_eq w v) (Some n) (lookup v ps)
lookup-push v w n [] h = refl
lookup-push v w n (p ∷ ps) h = by (bytes_eq p.0 w) (bytes_eq p.0 v) refl refl h (lookup-push v w n ps)
  where
    by : (a b : Bool) → bytes_eq p.0 w ≡ a → bytes_eq p.0 v ≡ b → cond {A = Option ℕ} a (Some p.1) (lookup w ps) ≡ None →
        (lookup w ps ≡ None → lookup v (ps ++ (w, n) ∷ []) ≡ cond (bytes_eq w v) (Some n) (lookup v ps)) →
        cond {A = Option ℕ} b (Some p.1) (lookup v (ps ++ (w, n) ∷ [])) ≡ cond (bytes_eq w v) (Some n) (cond b (Some p.1) (lookup v ps))
    by true b d e h next = cc
    by false false d e h next = next h
    by false true d e h next = ap (λ x. cond {A = Option ℕ} x (Some n) (Some p.1)) (sym (apart (bytes_eq w v) refl))
      where
        apart : (x : Bool) → bytes_eq w v ≡ x → x ≡ false
        apart false g = refl
        apart true g =
            let same : w ≡ v = (bytes_decides w v).0 g in
            let twice : true ≡ false = sym e ∙ ap (bytes_eq p.0) (sym same) ∙ d in cc

module _ {Y : Type 0} (old new : BTreeMap (String Y) ℕ) (ps : List (List ℕ × ℕ)) (w : List ℕ) (n : ℕ) where
  pub indexed_more : ((v : List ℕ) → get_by_text old v ≡ lookup v ps) → get_by_text old w ≡ None → ((v : List ℕ) → get_by_text new v ≡ update bytes_eq (get_by_text old) w (Some n) v) → (v : List ℕ) → get_by_text new v ≡ lookup v (ps ++ (w, n) ∷ [])
  indexed_more h none sets v =
      sets v ∙ ap (λ o. cond (bytes_eq w v) (Some n) o) (h v) ∙ sym (lookup-push v w n ps (sym (h w) ∙ none))
