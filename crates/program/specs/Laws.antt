-- What a program has of a predicate.
use Rattle.std.specs.Prelude.{◌≡◌, List, [], ◌∷◌}
use Rattle.term_core.specs.declared.pi.Pi.{Pi}
use Rattle.program.specs.Clauses.{Clause, clauses_of}
use Rattle.program.specs.Source.{program_of}

-- these clauses, or the others where there are none
abbrev pub or_else : List Clause → List Clause → List Clause
or_else [] ds = ds
or_else (c ∷ cs) ds = c ∷ cs

-- A predicate is the client's whole where the client defines it, and the library's whole elsewhere.
abbrev pub ClientReplacesLibrary : Type 0
ClientReplacesLibrary =
    (i : Pi) (library own : List Clause) → clauses_of i (program_of library own) ≡ or_else (clauses_of i own) (clauses_of i library)
