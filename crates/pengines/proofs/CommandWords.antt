-- Which command words name.
use Rattle.std.proofs.Common.{◌≡◌, List, ℕ, [], ◌∷◌, Some, codes, map, string_bytes, ap, sym, ◌∙◌}
use Rattle.pengines.specs.Words.{Words, IsSession, IsCheck, goal_of}

none : (goal : List ℕ) → goal_of (codes "session" ∷ []) ≡ Some goal → ⊥
none goal e = cc

pub not_both : (words : Words) (goal : List ℕ) → IsSession words → IsCheck words goal → ⊥
not_both words goal s c = none goal (ap goal_of (sym s) ∙ c)

pub same_goal : (words : Words) (a b : List ℕ) → goal_of (map string_bytes words) ≡ Some a → IsCheck words b → a ≡ b
same_goal words a b e f = cc
