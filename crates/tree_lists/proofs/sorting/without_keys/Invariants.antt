use Rattle.std.proofs.Common.{◌≡◌, map, take}
use Rattle.tree_lists.proofs.sorting.without_keys.Given as goal

abbrev pub invariant-loop-item : goal.invariant-loop-item
invariant-loop-item l = l.terms.items ≡ map (λ k. k.term) (take l.item-index l.items)
