-- What an accept and a closing do.
use Rattle.std.specs.Prelude.{◌≡◌, ℕ, ◌≤◌, List, [], ◌∷◌, ◌++◌, Option, Some, None, ⊤}
use Rattle.outside.specs.declared.door.Accepted.{Accepted}
use Rattle.outside.specs.declared.door.Accepted.TheVariants.{Wire, Closed, Failed}
use Rattle.outside.specs.Faults.{Rose}

module _ {W : Type 0} where
  -- a told list stays as it was
  abbrev pub Stays : Option (List W) → Option (List W) → Type 0
  Stays None new = ⊤
  Stays (Some ws) None = ⊥
  Stays (Some ws) (Some vs) = vs ≡ ws

  -- a told list begins with w, and loses it
  abbrev pub Loses : Option (List W) → Option (List W) → W → Type 0
  Loses None new w = ⊤
  Loses (Some ws) None w = ⊥
  Loses (Some ws) (Some vs) w = ws ≡ w ∷ vs

  -- a told list gains w at its end
  abbrev pub Gains : Option (List W) → Option (List W) → W → Type 0
  Gains None new w = ⊤
  Gains (Some ws) None w = ⊥
  Gains (Some ws) (Some vs) w = vs ≡ ws ++ w ∷ []

  -- nothing is in a told list
  abbrev pub HasNone : Option (List W) → Type 0
  HasNone None = ⊤
  HasNone (Some ws) = ws ≡ []

  -- Where the wires to come are told, Wire has the first of them and leaves the rest. Closed comes only
  -- where none is to come. Closed and Failed leave them as they were.
  abbrev pub Admits : Option (List W) → Option (List W) → Accepted W → Type 0
  Admits old new (Wire w) = Loses old new w
  Admits old new Closed = Stays old new × HasNone new
  Admits old new Failed = Stays old new

  -- a wire that was given is out
  abbrev pub IsOut : Accepted W → ℕ → Type 0
  IsOut (Wire w) out = 1 ≤ out
  IsOut Closed out = ⊤
  IsOut Failed out = ⊤

  -- the count doesn't fall, and Failed comes only where it rose
  abbrev pub CountsAccept : ℕ → ℕ → Accepted W → Type 0
  CountsAccept before now (Wire w) = before ≤ now
  CountsAccept before now Closed = before ≤ now
  CountsAccept before now Failed = (before ≤ now) × Rose before now
