-- Which frames a cut drops.
use Rattle.std.specs.Prelude.{ℕ, zero, suc, Bool, true, false, List, [], ◌∷◌, ⊤, nat_lt, nat_le}
use Rattle.solve_model.specs.declared.search.Frame.{Frame}
use Rattle.solve_model.specs.declared.search.Frame.TheVariants as frame

-- a frame that lets every end of a run pass after a cut to the level
abbrev pub is_above : ℕ → Frame → Bool
is_above l (frame.Clauses c) = true
is_above l (frame.Results f r) = true
is_above l (frame.Other b more) = true
is_above l (frame.Cut d) = nat_lt l d
is_above l (frame.CutTo d) = nat_le l d
is_above l (frame.Condition b more) = nat_lt l b.place.level
is_above l (frame.Catch c) = false
is_above l (frame.Collect c) = false

abbrev pub IsCollect : Frame → Type 0
IsCollect (frame.Clauses c) = ⊥
IsCollect (frame.Results f r) = ⊥
IsCollect (frame.Other b more) = ⊥
IsCollect (frame.Cut d) = ⊥
IsCollect (frame.CutTo d) = ⊥
IsCollect (frame.Condition b more) = ⊥
IsCollect (frame.Catch c) = ⊥
IsCollect (frame.Collect c) = ⊤

-- none of these frames gathers answers
unfoldable pub NoneCollect : List Frame → Type 0
NoneCollect [] = ⊤
NoneCollect (f ∷ fs) = (IsCollect f → ⊥) × NoneCollect fs

-- the last of these frames that gathers answers stands at this place
unfoldable pub IsInnermost : ℕ → List Frame → Type 0
IsInnermost i [] = ⊥
IsInnermost zero (f ∷ fs) = IsCollect f × NoneCollect fs
IsInnermost (suc i) (f ∷ fs) = IsInnermost i fs
