use Rattle.std.proofs.Common.{◌≡◌, ◌++◌, drop, take}
use Rattle.std.specs.Prelude.{All}
use Rattle.term_core.specs.Tree.{IsTerm}
use Rattle.term_core.specs.Flat.{flatten}
use Rattle.builtin_table.specs.Lists.{list_of}
use Rattle.tree_results.proofs.lists.list_of.Given as goal

abbrev pub invariant-loop-element : goal.invariant-loop-element
invariant-loop-element l = record {
  nodes : l.nodes.items ++ flatten (list_of (drop l.element-index l.elements)) ≡ flatten (list_of l.elements);
  terms : All IsTerm (take l.element-index l.elements);
}
