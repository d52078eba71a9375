use Rattle.store.specs.Cells.{IsCell}
use Rattle.call_tests.proofs.cells.shared.Given as goal

abbrev pub invariant-loop-i : goal.invariant-loop-i
invariant-loop-i l = IsCell l.store l.cell
