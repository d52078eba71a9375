-- Laws of the parts of a script.
use Rattle.std.specs.Prelude.{◌≡◌, ℕ, ◌+◌, List, ◌++◌, drop, position, Some}
use Rattle.std.specs.Str.Lines.{lines}
use Rattle.request_text.specs.Spelled.{is_rule, line_start, parts}

-- The lines from a line on are those of the text from the place on where that line begins.
abbrev pub LinesKeepTheirPlaces : Type 0
LinesKeepTheirPlaces = (k : ℕ) (bs : List ℕ) → lines (drop (line_start k bs) bs) ≡ drop k (lines bs)

-- The source text is a front of the script, up to the line k, and the request lines are those behind that line.
pub record Parted (bs : List ℕ) (k : ℕ) : Type 0 where
  pub rest : List ℕ
  pub front : bs ≡ (parts bs).source ++ rest
  pub from_the_line : lines rest ≡ drop k (lines bs)
  pub behind_the_line : lines (parts bs).requests ≡ drop (k + 1) (lines bs)

-- so it is at the first line `---`
abbrev pub ScriptsAreParted : Type 0
ScriptsAreParted = (bs : List ℕ) (k : ℕ) → position is_rule (lines bs) ≡ Some k → Parted bs k
