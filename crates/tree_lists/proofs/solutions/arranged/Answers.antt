use Rattle.std.proofs.Common.{ap, ◌∙◌}
use Rattle.std.specs.List.{dedup}
use Rattle.std.specs.Ordering.{eq_by_cmp}
use Rattle.std.proofs.lemmas.List.Filters.{dedup_is}
use Rattle.term_core.specs.Order.{tree_cmp}
use Rattle.term_core.specs.OrderLaws.{tree_cmp_total}
use Rattle.builtin_table.proofs.Sorting.{sorted_is}
use Rattle.tree_lists.proofs.solutions.arranged.Goals as goal

pub returns-in_ok-sort-in-Sorted : goal.returns-in_ok-sort-in-Sorted
returns-in_ok-sort-in-Sorted c =
    rw c.in-Sorted.is
    (dedup_is _ _ _ c.dedup.ensures.filtered
    ∙ ap (dedup (eq_by_cmp tree_cmp)) (sorted_is tree_cmp tree_cmp_total c.args.results.items _ c.in_ok-sort-in-Sorted.ensures.sorted c.in_ok-sort-in-Sorted.ensures.stable))
