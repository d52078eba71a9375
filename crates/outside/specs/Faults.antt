-- Counts of faults.
use Rattle.std.specs.Prelude.{ℕ, ◌+◌, ◌-◌, ◌^◌, ◌≤◌, min}

-- one more, where a counter of 64 bits stays at its greatest number
abbrev pub one_more : ℕ → ℕ
one_more count = min (count + 1) (2 ^ 64 - 1)

-- The count rose, or stands where a counter of 64 bits stays.
abbrev pub Rose : ℕ → ℕ → Type 0
Rose before now = one_more before ≤ now
