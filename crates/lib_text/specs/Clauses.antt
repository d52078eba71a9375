-- The clauses of an application's library: what its text reads as.
use Rattle.std.specs.Prelude.{◌≡◌, ℕ, false, List, [], map, length, Result, Ok, Err}
use Rattle.term_core.specs.declared.app.App.{App}
use Rattle.prolog_read.specs.declared.fault.ReadFault.{ReadFault}
use Rattle.prolog_read.specs.Clauses.{iso}
use Rattle.prolog_read.specs.Outcome.{ReadAs, clauses_read}
use Rattle.program.specs.Clauses.{Clause}
use Rattle.program.specs.Loaded.{Loaded}
use Rattle.program.specs.Source.{clauses_in}
use Rattle.lib_text.specs.Text.{text_of}

-- the text reads as terms, each of which is a clause
abbrev pub IsAccepted : List ℕ → Type 0
IsAccepted text = (xs : List ReadAs) × (clauses_read iso text ≡ Ok xs) × (length (clauses_in false (map (λ x. x.0) xs)) ≡ length xs)

-- the clauses of a text that reads so; a text that can't be read has none
abbrev pub clauses_from : Result (List ReadAs) ReadFault → List Clause
clauses_from (Ok xs) = clauses_in false (map (λ x. x.0) xs)
clauses_from (Err e) = []

-- the clauses of the source text of the application's library
unfoldable pub library_clauses : App → List Clause
library_clauses app = clauses_from (clauses_read iso (text_of app))

-- the library as a program, to which no client adds anything
abbrev pub library_of : App → Loaded
library_of app = record { clauses = library_clauses app; app = app; declared = [] }
