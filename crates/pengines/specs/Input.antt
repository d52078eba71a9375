-- What is read of an input.
use Rattle.std.specs.Prelude.{ℕ, List, Option}
use Rattle.std.specs.Io.KnownBytes.{Consumes, IsAtEnd}

-- the longest input in bytes
abbrev pub max_input : ℕ
max_input = 16777216

-- These bytes were read, and the source is at its end.
pub record ReadsAll (old new : Option (List ℕ)) (bytes : List ℕ) : Type 0 where
  pub read : Consumes old new bytes
  pub to_the_end : IsAtEnd new
