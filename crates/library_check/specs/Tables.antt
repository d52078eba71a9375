-- The tables that the sandbox's test of a program reads, as the code holds them.
use Rattle.std.specs.Prelude.{◌≡◌, ℕ, List, map, ℤ}
use Rattle.term_core.specs.declared.app.App.{App}
use Rattle.term_core.specs.declared.pi.Pi.{Pi}
use Rattle.builtin_table.specs.declared.row.Class.TheVariants.{Library}
use Rattle.builtin_table.specs.Table.{Rows, rows_of_app}
use Rattle.sandbox_walk.specs.Shown.{indicator}
use denote.Bor.{Bor}

-- the indicators of a table of names and numbers of arguments
abbrev pub indicators_in : List (Bor (List ℕ) × ℕ) → List Pi
indicators_in rs = map (λ r. indicator r.0.now r.1) rs

-- the rows of a table of names, numbers of arguments and goal positions
abbrev pub rows_in : List (Bor (List ℕ) × ℕ × List ℤ) → Rows
rows_in rs = map (λ r. (indicator r.0.now r.1, record { class = Library; metas = r.2 })) rs

-- the rows are those of an application
abbrev pub AreOfApp : Rows → Type 0
AreOfApp rows = (app : App) × (rows ≡ rows_of_app app)
