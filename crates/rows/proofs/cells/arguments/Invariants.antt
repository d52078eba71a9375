use Rattle.std.specs.List.{All}
use Rattle.store.specs.Cells.{IsCell}
use Rattle.rows.proofs.cells.arguments.Given as goal

abbrev pub invariant-loop-i : goal.invariant-loop-i
invariant-loop-i l = All (IsCell l.store) l.cells.items
