use Rattle.std.proofs.Common.{◌≡◌, map, take}
use Rattle.store.specs.Cells.{tree_of}
use Rattle.tree_offers.proofs.outcome.taken.Given as goal

abbrev pub invariant-loop-cell : goal.invariant-loop-cell
invariant-loop-cell l = l.terms.items ≡ map (tree_of l.store) (take l.cell-index l.cells)
