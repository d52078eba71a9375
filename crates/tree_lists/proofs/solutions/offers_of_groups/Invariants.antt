use Rattle.std.proofs.Common.{◌≡◌, ◌++◌, length, map, reverse}
use Rattle.tree_results.specs.Outcomes.{result_of}
use Rattle.tree_lists.specs.Groups.{arranged, placed_group}
use Rattle.tree_lists.proofs.solutions.offers_of_groups.Given as goal

abbrev pub invariant-loop-group : goal.invariant-loop-group
invariant-loop-group l =
    map result_of l.offers.items ++ map (λ g. placed_group (arranged l.arrangement) (reverse g)) (reverse l.groups.items) ≡ map (λ g. placed_group (arranged l.arrangement) (reverse g)) (reverse l.fn.groups.items)

abbrev pub decreases-loop-group : goal.decreases-loop-group
decreases-loop-group l = length l.groups.items
