use Rattle.std.proofs.Common.{◌∙◌, ap, List}
use Rattle.std.specs.List.{dedup}
use Rattle.std.specs.Ordering.{eq_by_cmp}
use Rattle.std.proofs.lemmas.List.Filters.{dedup_is}
use Rattle.term_core.specs.Tree.{Tree}
use Rattle.term_core.specs.Order.{tree_cmp}
use Rattle.tree_lists.proofs.sorting.sorted_set.Goals as goal

pub returns : goal.returns
returns c =
    dedup_is (eq_by_cmp tree_cmp) c.in_ok-terms.terms.items c.dedup.new.self.items c.dedup.ensures.filtered ∙ ap (λ (ts : List Tree). dedup (eq_by_cmp tree_cmp) ts) c.in_ok-terms.ensures
