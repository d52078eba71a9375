-- The results that are left.
use Rattle.std.specs.Prelude.{ℕ, List, [], ◌∷◌, Option, Some, None}
use Rattle.store.specs.declared.seen.Offer.{Offer}

abbrev pub offers_of : Option Offer → List (List (ℕ × ℕ))
offers_of None = []
offers_of (Some o) = o.pairs ∷ []
