-- Soundness of the sandbox.
use Rattle.std.specs.Prelude.{◌≡◌, ℕ, Bool, true, List, length, Option, Some, None}
use Rattle.std.specs.List.{list_all}
use Rattle.term_core.specs.declared.app.App.{App}
use Rattle.term_core.specs.declared.pi.Pi.{Pi}
use Rattle.term_core.specs.Tree.{Tree}
use Rattle.builtin_table.specs.declared.row.Row.{Row}
use Rattle.builtin_table.specs.Outside.{outside_in}
use Rattle.builtin_table.specs.Table.{rows_of_app, row_of}
use Rattle.builtin_table.specs.Taken.{may_be_taken}
use Rattle.program.specs.Clauses.{Clause}
use Rattle.program.specs.Loaded.{Loaded}
use Rattle.program.specs.Source.{program_of}
use Rattle.solve_model.specs.Run.{World, Outside, query}
use Rattle.sandbox_walk.specs.Computed.{verdict_over}
use Rattle.sandbox_walk.specs.Keeping.{client_keeps, ClausesKeep, KeepsSandbox}
use Rattle.sandbox_walk.specs.Passes.{PassesOver}

-- A passed goal may take primitives of the classes Control, Safe and Meta. A predicate in no row has no primitive: a call of it is an error.
abbrev pub may_be_row : Option Row → Bool
may_be_row None = true
may_be_row (Some r) = may_be_taken r.class

-- A world of the program: its clauses, and what its application has outside. The primitives, the replies and the limit of steps are free.
pub record RunsOver (l : Loaded) (w : World) : Type 0 where
  pub clauses : w.clauses ≡ l.clauses
  pub outside : w.outside ≡ outside_in l.app

-- worlds that differ at most in what primitives of other classes do, by the table of the application
pub record DifferElsewhere (app : App) (w w2 : World) : Type 0 where
  pub clauses : w2.clauses ≡ w.clauses
  pub outside : w2.outside ≡ w.outside
  pub replies : w2.replies ≡ w.replies
  pub limit : w2.limit ≡ w.limit
  pub primitives : (i : Pi) (ts : List Tree) (v : ℕ) → may_be_row (row_of i (rows_of_app app)) ≡ true → length ts ≡ i.arity → w2.primitive i ts v ≡ w.primitive i ts v

-- The goal runs the same over the program whatever the primitives of other classes than Control, Safe and Meta would do, for every limit of steps and all replies, and no run of it ends outside. So each primitive that is taken has a row of one of these classes in the table of the program's application.
pub record StaysInside (l : Loaded) (g : Tree) : Type 0 where
  pub inside : (w : World) (t : Tree) (i : Pi) → RunsOver l w → (query w g t).end ≡ Outside i → ⊥
  pub taken : (w w2 : World) (t : Tree) → RunsOver l w → DifferElsewhere l.app w w2 → query w2 g t ≡ query w g t

-- a goal that passes over a program that keeps to the sandbox
abbrev pub PassedGoalsStayInside : Type 0
PassedGoalsStayInside = (l : Loaded) (g : Tree) → KeepsSandbox l → PassesOver l g → StaysInside l g

-- a goal that the sandbox lets through
abbrev pub SafeGoalsStayInside : Type 0
SafeGoalsStayInside = (l : Loaded) (g : Tree) → KeepsSandbox l → verdict_over l g ≡ None → StaysInside l g

-- The clauses that are loaded over a library keep to the sandbox where the library's do, and where no client's clause is of a reserved predicate or of one whose name begins with `$`.
abbrev pub LoadedProgramsKeepTheSandbox : Type 0
LoadedProgramsKeepTheSandbox =
    (app : App) (library own : List Clause) → ClausesKeep app library → list_all (client_keeps (rows_of_app app)) own ≡ true → ClausesKeep app (program_of library own)
