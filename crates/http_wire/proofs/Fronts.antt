-- The bytes in which a head must lie, and why its reading stops.
use Rattle.std.proofs.Common.{◌≡◌, ◌≢◌, ◌∙◌, ◌++◌, ◌+◌, ◌-◌, ◌≤◌, ◌<◌, inl, inr, false, ℕ, List, [], length, take, drop, Option, refl, ap, sym, subst, arith, append-nil}
use Rattle.std.specs.Io.KnownBytes.{IsAtEnd}
use Rattle.std.proofs.lemmas.Bool.{cases_lt}
use Rattle.std.proofs.lemmas.List.{take_all, length-take-le, take-append-le, take-append-drop}
use Rattle.std.proofs.Math.Seq.{take-append-add, take-append_seam}
use Rattle.http_wire.specs.declared.message.Why.{Why}
use Rattle.http_wire.specs.declared.message.Stop.{Stop}
use Rattle.http_wire.specs.declared.message.Stop.TheVariants.{End, Refused, ReadFault, Memory}
use Rattle.http_wire.specs.Limits.{front}
use Rattle.http_wire.specs.Endings.{ends_head, IsOpen}
use Rattle.http_wire.specs.Heads.{FillStops, Lacks, EndStops, HeadStops}

pub front_all : (bytes : List ℕ) → length bytes ≤ 16384 → front bytes ≡ bytes
front_all bytes le = take_all 16384 bytes le

-- a front that is short is all there is
pub small_front : (bytes b f : List ℕ) → b ≡ bytes → f ≡ front b → length f < 16384 → f ≡ bytes
small_front bytes b f same is short =
    elim (cases_lt (length b) 16384) [
      | inl less ↦ is ∙ front_all b (omega arith) ∙ same
      | inr more ↦ absurd (let full : length f ≡ 16384 = ap length is ∙ length-take-le 16384 b more in omega arith)
    ]

-- what follows the front of a longer list
pub front_grows : (bytes others : List ℕ) → (more : List ℕ) × (front (bytes ++ others) ≡ front bytes ++ more)
front_grows bytes others =
    elim (cases_lt (length bytes) 16384) [
      | inl less ↦ (
        take (16384 - length bytes) others,
        (let whole : length bytes + (16384 - length bytes) ≡ 16384 = omega arith in
            ap (λ (n : ℕ). take n (bytes ++ others)) (sym whole) ∙ take-append-add bytes others (16384 - length bytes)
            ∙ ap (λ (l : List ℕ). l ++ take (16384 - length bytes) others) (sym (front_all bytes (omega arith)))),
      )
      | inr more ↦ ([], take-append-le 16384 bytes others more ∙ sym (append-nil (front bytes)))
    ]

-- a list that begins with p, as another that is longer does
pub begins : (a b p rest : List ℕ) → a ++ b ≡ p ++ rest → length p ≤ length a → a ≡ p ++ drop (length p) a
begins a b p rest e le =
    let front : take (length p) a ≡ p =
    sym (take-append-le (length p) a b le) ∙ ap (take (length p)) e ∙ take-append_seam p rest in
    sym (take-append-drop (length p) a) ∙ ap (λ (l : List ℕ). l ++ drop (length p) a) front

-- what was looked at before, or has no end of a head
pub none_after : (none : List ℕ → Type 0) → ((b : List ℕ) → ends_head b ≡ false → none b)
    → (f old new : List ℕ) → f ≡ old → none f → IsOpen old new → none new
none_after none unended f old new same n (inl kept) = subst none (same ∙ sym kept) n
none_after none unended f old new same n (inr ends) = unended new ends

module _ (none may : List ℕ → Type 0) (refused : List ℕ → Why → Type 0) where
  pub head_stops : (left : Option (List ℕ)) (bytes b : List ℕ) (e : Stop) → b ≡ bytes → length bytes < 16384 → IsAtEnd left
      → EndStops none may refused b e → HeadStops none may refused left bytes e
  head_stops left bytes b End same few at stops = (sym same ∙ stops, at)
  head_stops left bytes b (Refused why) same few at (inl r) =
      inl (subst (λ (l : List ℕ). refused l why) (same ∙ sym (front_all bytes (omega arith))) r)
  head_stops left bytes b (Refused why) same few at (inr lacks) =
      inr (subst (λ (l : List ℕ). Lacks none may refused l why) same lacks, at)
  head_stops left bytes b ReadFault same few at stops = absurd stops
  head_stops left bytes b Memory same few at stops = absurd stops

  pub head_stops_else : (left : Option (List ℕ)) (bytes : List ℕ) (e : Stop) → e ≢ End → FillStops e left → none bytes
      → HeadStops none may refused left bytes e
  head_stops_else left bytes End not stops n = absurd (not refl)
  head_stops_else left bytes (Refused why) not stops n = absurd stops
  head_stops_else left bytes ReadFault not stops n = n
  head_stops_else left bytes Memory not stops n = tt
