use Rattle.std.proofs.Common.{take}
use Rattle.store.specs.Cells.{Keeps}
use Rattle.tree_offers.specs.Results.{Offered}
use Rattle.tree_offers.proofs.cells.offered.Given as goal

abbrev pub invariant-loop-pair : goal.invariant-loop-pair
invariant-loop-pair l = record {
  keeps : Keeps l.fn.store l.store;
  offered : Offered l.fn.store l.store (take l.pair-index l.pairs) l.offered;
}
