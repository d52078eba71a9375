use Rattle.std.proofs.Common.{◌≡◌, ◌<◌, length, map, take}
use Rattle.std.specs.List.{All}
use Rattle.term_core.specs.Tree.{variable}
use Rattle.store.specs.Heap.{known_of, GrownFrom, tree_at}
use Rattle.store.proofs.heap.Heap.variables_placed.Given as goal

abbrev pub invariant-loop-number : goal.invariant-loop-number
invariant-loop-number l = record {
  grown : GrownFrom (known_of l.initial.self) l.self;
  cells : All (λ c. c < length (known_of l.self).trees) l.cells.items;
  trees : map (tree_at (known_of l.self)) l.cells.items ≡ map variable (take l.number-index l.numbers);
}
