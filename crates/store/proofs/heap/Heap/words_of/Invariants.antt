use Rattle.std.proofs.Common.{◌≡◌, ◌-◌, length, drop, map}
use Rattle.std.specs.List.{All}
use Rattle.store.specs.Heap.{known_of, IsWord, tree_at, trees_on}
use Rattle.store.proofs.heap.Heap.words_of.Given as goal

abbrev pub invariant-loop-i : goal.invariant-loop-i
invariant-loop-i l = record {
  words : All (IsWord (known_of l.self)) l.words.items;
  trees : trees_on (known_of l.self) l.words.items ≡ map (tree_at (known_of l.self)) (drop (length l.cells - l.i) l.cells);
}
