-- How far the reading of a head has come.
use Rattle.std.specs.Prelude.{◌≡◌, ◌⊎◌, ℕ, ◌<◌, List, [], length, Option, ⊤}
use Rattle.std.specs.Io.KnownBytes.{IsAtEnd}
use Rattle.httparse.specs.declared.spans.HeaderSpan.{HeaderSpan}
use Rattle.http_wire.specs.declared.message.Why.{Why}
use Rattle.http_wire.specs.declared.message.Why.TheVariants.{Truncated}
use Rattle.http_wire.specs.declared.message.Stop.{Stop}
use Rattle.http_wire.specs.declared.message.Stop.TheVariants.{End, Refused, ReadFault, Memory}
use Rattle.http_wire.specs.declared.head.Looked.{Looked}
use Rattle.http_wire.specs.declared.head.Looked.TheVariants as looked
use Rattle.http_wire.specs.Limits.{head_limit, front}

-- a piece isn't refused; the stream's end is where no byte is left
abbrev pub FillStops : Stop → (left : Option (List ℕ)) → Type 0
FillStops End left = IsAtEnd left
FillStops (Refused why) left = ⊥
FillStops ReadFault left = ⊤
FillStops Memory left = ⊤

module _ {S : Type 0} (is_head : List ℕ → List HeaderSpan → S → Type 0) (none may : List ℕ → Type 0) (refused : List ℕ → Why → Type 0) where
  -- what a look at the bytes of a head finds: a head, none yet, or that none may come
  abbrev pub Looks : List ℕ → List HeaderSpan → Looked S → Type 0
  Looks bytes fields (looked.Head s) = is_head bytes fields s
  Looks bytes fields looked.Open = (length bytes < head_limit) × none bytes × may bytes
  Looks bytes fields (looked.Refused why) = refused bytes why

module _ (none may : List ℕ → Type 0) (refused : List ℕ → Why → Type 0) where
  -- the stream ended within a head
  abbrev pub Lacks : List ℕ → Why → Type 0
  Lacks bytes why = (why ≡ Truncated) × (0 < length bytes) × (length bytes < head_limit) × none bytes × may bytes

  -- what the end of the stream means, where no head stands in its bytes
  abbrev pub EndStops : List ℕ → Stop → Type 0
  EndStops bytes End = bytes ≡ []
  EndStops bytes (Refused why) = refused bytes why ⊎ Lacks bytes why
  EndStops bytes ReadFault = ⊥
  EndStops bytes Memory = ⊥

  -- why the reading of a head stops
  abbrev pub HeadStops : (left : Option (List ℕ)) → List ℕ → Stop → Type 0
  HeadStops left bytes End = (bytes ≡ []) × IsAtEnd left
  HeadStops left bytes (Refused why) = refused (front bytes) why ⊎ (Lacks bytes why × IsAtEnd left)
  HeadStops left bytes ReadFault = none bytes
  HeadStops left bytes Memory = ⊤
