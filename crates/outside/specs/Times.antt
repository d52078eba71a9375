-- Times that a clock shows.
use Rattle.std.specs.Prelude.{◌≡◌, ℕ, List, [], ◌∷◌, Option, Some, None, ⊤}

-- the time, 0 where the clock has none
abbrev pub time_shown : List ℕ → ℕ
time_shown [] = 0
time_shown (t ∷ ts) = t

-- the times to come once it is shown: the last one stays
abbrev pub later_times : List ℕ → List ℕ
later_times [] = []
later_times (t ∷ []) = t ∷ []
later_times (t ∷ u ∷ ts) = u ∷ ts

-- the clock shows the first of the times to come, where these are told
abbrev pub Shows : Option (List ℕ) → Option (List ℕ) → ℕ → Type 0
Shows None new t = ⊤
Shows (Some old) None t = ⊥
Shows (Some old) (Some new) t = (t ≡ time_shown old) × (new ≡ later_times old)
