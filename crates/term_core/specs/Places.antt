-- Where numbers stand in a list, as a map has it.
use Rattle.std.specs.Prelude.{◌≡◌, ℕ, suc, cond, ◌==◌, List, [], ◌∷◌, Option, Some, None}
use Rattle.std.specs.Option.{option_map}
use Rattle.std.specs.Ordering.{nat_cmp}
use Rattle.std.specs.BTreeMap.{get}
use Rattle.term_core.specs.declared.places.Places.{Places}

-- where n stands first
abbrev pub place_among : ℕ → List ℕ → Option ℕ
place_among n [] = None
place_among n (m ∷ ms) = cond (m == n) (Some 0) (option_map suc (place_among n ms))

-- the map tells where each number stands
pub record HasPlaces (p : Places) : Type 0 where
  pub each : (n : ℕ) → get nat_cmp p.at n ≡ place_among n p.seen.items
