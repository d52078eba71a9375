use Rattle.std.proofs.Common.{◌≡◌, [], length, reverse}
use Rattle.builtin_table.specs.Solutions.{grouped}
use Rattle.tree_lists.proofs.Grouping.{joined_all, begun}
use Rattle.tree_lists.specs.Groups.{groups_of}
use Rattle.tree_lists.proofs.solutions.grouped.Given as goal

abbrev pub invariant-loop-solution : goal.invariant-loop-solution
invariant-loop-solution l = record {
  same : joined_all l.rest.items (begun (reverse l.group) (groups_of l.groups.items)) ≡ grouped l.fn.solutions.items;
  started : l.group ≡ [] → l.groups.items ≡ [];
}

abbrev pub decreases-loop-solution : goal.decreases-loop-solution
decreases-loop-solution l = length l.rest.items
