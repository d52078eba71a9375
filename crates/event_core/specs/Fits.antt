-- Which terms fit an event.
use Rattle.std.specs.Prelude.{ℕ, Bool, ◌&&◌, List, length, nat_le}
use Rattle.term_core.specs.Tree.{Tree, depth}
use Rattle.event_core.specs.declared.limits.TheConstants.{MAX_TEXT, MAX_DEPTH}

-- `quoted` is the text of a term with quotes
module _ (quoted : Tree → List ℕ) where
  -- the number of bytes of a term's text
  abbrev pub text_size : Tree → ℕ
  text_size t = length (quoted t)

  abbrev pub fits : Tree → Bool
  fits t = nat_le (text_size t) MAX_TEXT && nat_le (depth t) MAX_DEPTH
