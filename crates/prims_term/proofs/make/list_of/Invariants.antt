use Rattle.std.proofs.Common.{◌≡◌, ◌-◌, length, drop, map}
use Rattle.builtin_table.specs.Lists.{list_of}
use Rattle.store.specs.Cells.{Makes, tree_of}
use Rattle.prims_term.proofs.make.list_of.Given as goal

abbrev pub invariant-loop-i : goal.invariant-loop-i
invariant-loop-i l = record {
  made : Makes l.fn.store l.store l.list (list_of (map (tree_of l.fn.store) (drop (length l.cells - l.i) l.cells)));
  next : l.store.next ≡ l.fn.store.next;
}
