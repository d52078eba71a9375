-- What the reads of a source did, one after the other.
use Rattle.std.specs.Prelude.{◌≡◌, ℕ, ◌≤◌, List, ◌++◌, Option}
use Rattle.std.specs.Io.KnownBytes.{Consumes}
use Rattle.outside.specs.declared.source.ReadGot.{ReadGot}

-- from one value to another by steps that each answer something
pub data Through {S A : Type 0} (step : S → A → S → Type 0) : S → S → Type 0 where
  there : (s : S) → Through step s s
  more : (s t u : S) (a : A) → step s a t → Through step t u → Through step s u

-- The bytes read were added to those held. The source gave them, in reads alone, and its count of
-- faults didn't fall.
pub record Reads {S : Type 0} (left : S → Option (List ℕ)) (faults : S → ℕ) (reads : S → ReadGot → S → Type 0)
    (old new : S) (held held' : List ℕ) : Type 0 where
  pub read : List ℕ
  pub consumed : Consumes (left old) (left new) read
  pub grown : held' ≡ held ++ read
  pub through : Through reads old new
  pub counted : faults old ≤ faults new
