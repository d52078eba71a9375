use Rattle.std.proofs.Common.{◌≡◌, ◌++◌, length}
use Rattle.term_core.specs.Flat.{parse}
use Rattle.builtin_table.specs.Lists.{elements, rest}
use Rattle.tree_results.proofs.Cells.{IsNodes}
use Rattle.tree_results.proofs.lists.list_parts.Given as goal

abbrev pub invariant-loop-parts : goal.invariant-loop-parts
invariant-loop-parts l = record {
  nodes : IsNodes l.nodes;
  elements : l.elements.items ++ elements (parse l.nodes) ≡ elements l.fn.term;
  rest : rest (parse l.nodes) ≡ rest l.fn.term;
}

abbrev pub decreases-loop-parts : goal.decreases-loop-parts
decreases-loop-parts l = length l.nodes
