use Rattle.std.proofs.Common.{◌≡◌, map, take}
use Rattle.tree_results.specs.Placed.{pair_for}
use Rattle.prims_tree.proofs.offer.over.Given as goal

abbrev pub invariant-loop-pair : goal.invariant-loop-pair
invariant-loop-pair l = l.pairs ≡ map (pair_for l.arguments) (take l.pair-index l.pair-items)
