-- How much of a head is read.
use Rattle.std.specs.Prelude.{ℕ, List, take}

-- the bytes of a head
abbrev pub head_limit : ℕ
head_limit = 16384

-- its fields
abbrev pub field_limit : ℕ
field_limit = 128

-- the bytes in which a head must lie
abbrev pub front : List ℕ → List ℕ
front bytes = take head_limit bytes
