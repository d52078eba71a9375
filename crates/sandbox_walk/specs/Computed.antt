-- The verdict as a plain program computes it: what is reached, round by round.
use Rattle.std.specs.Prelude.{◌≡◌, ℕ, zero, suc, Bool, ◌||◌, ◌&&◌, List, length, Option}
use Rattle.std.specs.List.{list_any}
use Rattle.term_core.specs.declared.pi.Pi.{Pi}
use Rattle.term_core.specs.Tree.{Tree}
use Rattle.builtin_table.specs.Table.{Rows, rows_of_app}
use Rattle.program.specs.Clauses.{Clause}
use Rattle.program.specs.Loaded.{Loaded}
use Rattle.sandbox_walk.specs.declared.unsafe_goal.Unsafe.{Unsafe}
use Rattle.sandbox_walk.specs.Verdict.{in_goal, in_clause, has_literal, reads, all_shown, refusal, Verdict}

-- what is reached in so many rounds: by the goal, and by the clauses that the round before reads
abbrev pub reached_in : Rows → List Clause → Tree → ℕ → Pi → Bool
reached_in rows p g zero i = has_literal i (in_goal rows g)
reached_in rows p g (suc n) i =
    has_literal i (in_goal rows g) || list_any (λ c. reads rows p (reached_in rows p g n) c && has_literal i (in_clause rows c)) p

-- Each round reads a clause more, or none does any more.
abbrev pub is_reached : Rows → List Clause → Tree → Pi → Bool
is_reached rows p g i = reached_in rows p g (suc (length p)) i

unfoldable pub verdict : Rows → List Clause → Tree → Option Unsafe
verdict rows p g = refusal rows (all_shown rows p g (is_reached rows p g))

-- over a program, by the table of its application
abbrev pub verdict_over : Loaded → Tree → Option Unsafe
verdict_over l g = verdict (rows_of_app l.app) l.clauses g

-- There is a verdict on each goal over each program, and no other than this one.
pub record IsTheVerdict (rows : Rows) (p : List Clause) (g : Tree) : Type 0 where
  pub stands : Verdict rows p g (verdict rows p g)
  pub only : (v : Option Unsafe) → Verdict rows p g v → v ≡ verdict rows p g

abbrev pub TheVerdictIsOne : Type 0
TheVerdictIsOne = (rows : Rows) (p : List Clause) (g : Tree) → IsTheVerdict rows p g
