use Rattle.std.proofs.Common.{◌≡◌, ◌∙◌, ◌++◌, ◌+◌, ◌<◌, ℕ, List, [], ◌∷◌, length, get_or, take, ap, sym}
use Rattle.std.proofs.lemmas.List.{take_more}
use Rattle.http_wire.specs.declared.ending.Place.{Place}
use Rattle.http_wire.specs.Endings.{after, places}
use Rattle.http_wire.specs.HeadLaws.{places_append}
use Rattle.http_wire.proofs.ending.Place.behind.Goals as goal

-- the place behind one byte more
one_more : (p q : Place) (bytes : List ℕ) (i : ℕ) → i < length bytes → q ≡ places p (take i bytes)
    → after q (get_or bytes i 0) ≡ places p (take (i + 1) bytes)
one_more p q bytes i inside e =
    ap (λ (r : Place). after r (get_or bytes i 0)) e
    ∙ sym (places_append p (take i bytes) (get_or bytes i 0 ∷ []))
    ∙ ap (places p) (sym (take_more bytes i 0 inside))

pub bytes-preserved : goal.bytes-preserved
bytes-preserved c = c.after-place.ensures ∙ one_more _ _ _ _ c.bytes-test.true c.bytes.invariant
