use Rattle.std.proofs.Common.{◌≡◌, ℕ, ◌++◌, length, map, reverse}
use Rattle.term_core.specs.Tree.{Tree}
use Rattle.builtin_table.specs.Solutions.{Keyed, parts}
use Rattle.tree_lists.proofs.solutions.group_offer.Given as goal

abbrev pub invariant-loop-key : goal.invariant-loop-key
invariant-loop-key l = record {
  pairs : l.pairs ++ map (λ (a : Keyed). (0, (parts a.1).0)) (reverse l.group) ≡ map (λ (a : Keyed). (0, (parts a.1).0)) (reverse l.fn.group);
  results : l.results.items ++ map (λ a. (parts a.1).1) (reverse l.group) ≡ map (λ a. (parts a.1).1) (reverse l.fn.group);
}

abbrev pub decreases-loop-key : goal.decreases-loop-key
decreases-loop-key l = length l.group
