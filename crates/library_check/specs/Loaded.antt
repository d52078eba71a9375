-- What holds of the clauses of clients' texts.
use Rattle.std.specs.Prelude.{◌≡◌, ℕ, true, List, None}
use Rattle.std.specs.List.{list_all}
use Rattle.term_core.specs.declared.app.App.{App}
use Rattle.term_core.specs.Tree.{Tree}
use Rattle.builtin_table.specs.Table.{Rows, rows_of_app, reserved_of}
use Rattle.program.specs.Clauses.{Clause}
use Rattle.program.specs.Source.{first_fault, clauses_in, program_of}
use Rattle.sandbox_walk.specs.Keeping.{client_keeps, ClausesKeep}

-- The clauses of a client's text that has no fault are of predicates that the sandbox leaves to the client.
abbrev pub AcceptedTextsKeepTheSandbox : Type 0
AcceptedTextsKeepTheSandbox =
    (rows : Rows) (n : ℕ) (ts : List Tree) → first_fault (reserved_of rows) n ts ≡ None → list_all (client_keeps rows) (clauses_in true ts) ≡ true

-- What is loaded over a library that keeps to the sandbox does so too, whatever the client's text.
abbrev pub LoadedTextsKeepTheSandbox : Type 0
LoadedTextsKeepTheSandbox =
    (app : App) (library : List Clause) (ts : List Tree) → ClausesKeep app library → first_fault (reserved_of (rows_of_app app)) 1 ts ≡ None → ClausesKeep app (program_of library (clauses_in true ts))
