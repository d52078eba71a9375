use Rattle.std.proofs.Common.{◌∙◌, ap}
use Rattle.term_core.specs.Order.{tree_cmp}
use Rattle.term_core.specs.OrderLaws.{tree_cmp_total}
use Rattle.builtin_table.specs.Sorting.{sorted_terms}
use Rattle.builtin_table.proofs.Sorting.{sorted_is}
use Rattle.tree_lists.proofs.sorting.sorted_terms.Goals as goal

pub returns : goal.returns
returns c =
    sorted_is tree_cmp tree_cmp_total c.into_vec-terms.result.items c.sort.new.self.items c.in_ok-sort.ensures.sorted c.sort.ensures.stable ∙ ap sorted_terms c.into_vec-terms.ensures
