use Rattle.std.proofs.Common.{◌∙◌, List, ap, map}
use Rattle.tree_lists.specs.declared.keyed.Keyed.{Keyed}
use Rattle.tree_lists.proofs.Keys.{sorted_by_keys}
use Rattle.tree_lists.proofs.sorting.sorted_pairs.Goals as goal

pub returns : goal.returns
returns c =
    c.in_ok-terms.ensures ∙ ap (λ (ks : List Keyed). map (λ (k : Keyed). k.term) ks) c.deref.ensures.value
    ∙ sorted_by_keys c.args.terms.now c.in_ok-items.items.items c.sort.new.self.items c.in_ok-items.ensures c.in_ok-sort.ensures.sorted c.sort.ensures.stable
