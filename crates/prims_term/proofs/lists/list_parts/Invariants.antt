use Rattle.std.proofs.Common.{◌≡◌, ◌++◌, map}
use Rattle.std.specs.List.{All}
use Rattle.builtin_table.specs.Lists.{elements, rest}
use Rattle.store.specs.Cells.{IsCell, tree_of}
use Rattle.prims_term.proofs.lists.list_parts.Given as goal

abbrev pub invariant-loop-i : goal.invariant-loop-i
invariant-loop-i l = record {
  cells : All (IsCell l.store) l.elements.items;
  cell : IsCell l.store l.rest;
  elements : map (tree_of l.store) l.elements.items ++ elements (tree_of l.store l.rest) ≡ elements (tree_of l.store l.fn.c);
  rest : rest (tree_of l.store l.rest) ≡ rest (tree_of l.store l.fn.c);
}
