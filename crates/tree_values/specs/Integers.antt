-- plus/3 by the place of the argument that is found.
use Rattle.std.specs.Prelude.{ℕ, List, [], ◌∷◌, Ok, Err}
use Rattle.term_core.specs.Tree.{Tree, integer}
use Rattle.builtin_table.specs.Arithmetic.{Value}
use Rattle.builtin_table.specs.Integers.{plus_ball}
use Rattle.builtin_table.specs.Outcomes.{Outcome}
use Rattle.tree_results.specs.Placed.{results_for, equal_at}

-- the argument of this place is this value, or what is wrong is the error
abbrev pub computed_at : List Tree → (place : ℕ) → Value → Outcome
computed_at ts place (Ok z) = results_for ts (equal_at place (integer z) ∷ [])
computed_at ts place (Err e) = plus_ball e
