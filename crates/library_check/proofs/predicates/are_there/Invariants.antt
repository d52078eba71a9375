use Rattle.std.proofs.Common.{◌≡◌, drop}
use Rattle.std.specs.List.{list_all}
use Rattle.sandbox_walk.specs.Keeping.{is_there}
use Rattle.library_check.specs.Tables.{indicators_in}
use Rattle.library_check.proofs.predicates.are_there.Given as goal

abbrev pub invariant-loop-name : goal.invariant-loop-name
invariant-loop-name l = list_all (is_there l.program.clauses) (indicators_in (drop l.name-index l.names)) ≡ list_all (is_there l.program.clauses) (indicators_in l.names)
