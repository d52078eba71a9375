use Rattle.std.proofs.Common.{◌≡◌, false, take}
use Rattle.program.specs.Source.{clauses_in, trees_read}
use Rattle.program.proofs.texts.library_clauses.Given as goal

abbrev pub invariant-loop-i : goal.invariant-loop-i
invariant-loop-i l = l.clauses ≡ clauses_in false (trees_read (take l.i l.terms))
