use Rattle.std.proofs.Common.{◌≡◌, Bool, List, map}
use Rattle.program.specs.Kept.{clause_of}
use Rattle.solve_model.specs.Run.{Item}
use Rattle.solve_model.specs.Search.{alternatives, place_of}
use Rattle.solve_model.proofs.matching.next_match.Given as goal

abbrev pub invariant-loop-at : goal.invariant-loop-at
invariant-loop-at l =
    (is : List Item) (more : Bool) → alternatives (map clause_of l.clauses) l.from l.goal is (place_of l.place) more ≡ alternatives (map clause_of l.clauses) l.at l.goal is (place_of l.place) more
