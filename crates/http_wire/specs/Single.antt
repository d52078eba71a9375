-- A field that is to stand once.
use Rattle.std.specs.Prelude.{◌≡◌, ℕ, ◌≤◌, List, [], ◌∷◌, length}
use Rattle.httparse.specs.Spans.{span_bytes, IsWithin}
use Rattle.http_wire.specs.declared.framing.Single.{Single}
use Rattle.http_wire.specs.declared.framing.Single.TheVariants.{Missing, One, Several}

-- none of these values, the one value, which the span covers, or more of them
abbrev pub IsSingle : List ℕ → List (List ℕ) → Single → Type 0
IsSingle bytes vs Missing = vs ≡ []
IsSingle bytes vs (One s) = (vs ≡ span_bytes bytes s ∷ []) × IsWithin (length bytes) s
IsSingle bytes vs Several = 2 ≤ length vs
