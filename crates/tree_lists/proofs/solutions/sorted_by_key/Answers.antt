use Rattle.std.proofs.Common.{rules}
use Rattle.std.proofs.lemmas.Cmp.{on_total}
use Rattle.std.proofs.lemmas.List.Sorted.{ranks_by, answers_always}
use Rattle.term_core.specs.OrderLaws.{tree_cmp_total}
use Rattle.builtin_table.specs.Solutions.{Keyed, key_cmp}
use Rattle.builtin_table.proofs.Sorting.{sorted_is}
use Rattle.tree_lists.proofs.solutions.sorted_by_key.Goals as goal

pub returns : goal.returns
returns c =
    let ranks = ranks_by tree_cmp_total (λ (a : Keyed). a.0) in
    let sorted = c.in_ok-sort_by.ensures in
    sorted_is key_cmp (on_total (λ (a : Keyed). a.0) tree_cmp_total) c.args.solutions.items _
    (sorted.sorted _ ranks (answers_always _ _ _ (λ f a r g k. search rules)))
    (sorted.stable _ ranks (answers_always _ _ _ (λ f a r g k. search rules)))
