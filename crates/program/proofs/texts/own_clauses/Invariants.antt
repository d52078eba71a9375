use Rattle.std.proofs.Common.{◌≡◌, ◌+◌, true, take, drop}
use Rattle.program.specs.Source.{clauses_in, trees_read, first_fault}
use Rattle.program.proofs.texts.own_clauses.Given as goal

abbrev pub invariant-loop-i : goal.invariant-loop-i
invariant-loop-i l = record {
  clauses : l.clauses ≡ clauses_in true (trees_read (take l.i l.terms));
  accepted : first_fault l.reserved (l.i + 1) (trees_read (drop l.i l.terms)) ≡ first_fault l.reserved 1 (trees_read l.terms);
}
