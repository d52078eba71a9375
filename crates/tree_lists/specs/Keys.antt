-- Terms with their keys, in the order of the keys.
use Rattle.std.specs.declared.cmp.Ordering.{Ordering}
use Rattle.std.specs.Cmp.{IsTotalOrder}
use Rattle.std.proofs.lemmas.Cmp.{on_total}
use Rattle.term_core.specs.Tree.{Tree}
use Rattle.term_core.specs.Order.{tree_cmp}
use Rattle.term_core.specs.OrderLaws.{tree_cmp_total}
use Rattle.tree_lists.specs.declared.keyed.Keyed.{Keyed}
use Rattle.builtin_table.specs.Sorting.{key_of}

abbrev pub keyed : Tree → Keyed
keyed t = record { key = key_of t; term = t }

abbrev pub keyed_cmp : Keyed → Keyed → Ordering
keyed_cmp k l = tree_cmp k.key l.key

pub keyed_cmp_total : IsTotalOrder keyed_cmp
keyed_cmp_total = on_total (λ (k : Keyed). k.key) tree_cmp_total
