use Rattle.std.proofs.Common.{◌≡◌, take}
use Rattle.prims_tree.proofs.by_name.copies.Given as goal

abbrev pub invariant-loop-term : goal.invariant-loop-term
invariant-loop-term l = l.copies.items ≡ take l.term-index l.terms
