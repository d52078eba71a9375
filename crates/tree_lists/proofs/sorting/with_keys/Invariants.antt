use Rattle.std.proofs.Common.{◌≡◌, map, take}
use Rattle.tree_lists.specs.Keys.{keyed}
use Rattle.tree_lists.proofs.sorting.with_keys.Given as goal

abbrev pub invariant-loop-term : goal.invariant-loop-term
invariant-loop-term l = l.items.items ≡ map keyed (take l.term-index l.terms)
