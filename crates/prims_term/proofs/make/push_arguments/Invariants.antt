use Rattle.std.proofs.Common.{◌≡◌, ◌++◌, map, take}
use Rattle.std.specs.List.{All}
use Rattle.term_core.specs.Parts.{arguments_of}
use Rattle.store.specs.Cells.{IsCell, tree_of}
use Rattle.prims_term.proofs.make.push_arguments.Given as goal

abbrev pub invariant-loop-i : goal.invariant-loop-i
invariant-loop-i l = record {
  cells : All (IsCell l.store) l.cells.items;
  trees : map (tree_of l.store) l.cells.items ≡ map (tree_of l.store) l.initial.cells.items ++ take l.i (arguments_of (tree_of l.store l.c));
}
