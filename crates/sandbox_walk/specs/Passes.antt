-- A goal that passes: nothing outside is reached, and a body stands at each goal position.
use Rattle.std.specs.Prelude.{◌≡◌, Bool, true, false, List, IsTrue}
use Rattle.std.specs.List.{list_all}
use Rattle.term_core.specs.declared.pi.Pi.{Pi}
use Rattle.term_core.specs.Tree.{Tree}
use Rattle.builtin_table.specs.Outside.{is_outside_in}
use Rattle.builtin_table.specs.Table.{Rows, rows_of_app}
use Rattle.program.specs.Clauses.{Clause}
use Rattle.program.specs.Loaded.{Loaded}
use Rattle.sandbox_walk.specs.declared.found.Stands.TheVariants.{Opens, Unbound, Shut}
use Rattle.sandbox_walk.specs.declared.found.Found.{Found}
use Rattle.sandbox_walk.specs.declared.found.Found.TheVariants.{Literal, Place}
use Rattle.sandbox_walk.specs.Verdict.{Reach, enters, in_goal, in_predicate}

abbrev pub opens : Found → Bool
opens (Literal i) = true
opens (Place h Opens) = true
opens (Place h Unbound) = false
opens (Place h (Shut t)) = false

pub record Passes (rows : Rows) (p : List Clause) (g : Tree) : Type 0 where
  pub inside : (i : Pi) → Reach rows p g i → is_outside_in rows i ≡ false
  pub goal : list_all opens (in_goal rows g) ≡ true
  pub clauses : (i : Pi) → Reach rows p g i → IsTrue (enters rows p i) → list_all opens (in_predicate rows p i) ≡ true

-- over a program, by the table of its application
abbrev pub PassesOver : Loaded → Tree → Type 0
PassesOver l g = Passes (rows_of_app l.app) l.clauses g
