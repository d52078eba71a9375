use Rattle.std.proofs.Common.{◌≡◌, ◌-◌, ◌≤◌, ◌++◌, length}
use Rattle.std.specs.List.{All, flat_map}
use Rattle.term_core.specs.Flat.{flatten}
use Rattle.store.specs.Heap.{known_of, IsWord, word_tree, trees_on}
use Rattle.store.proofs.heap.Heap.nodes.Given as goal

abbrev pub invariant-loop-word : goal.invariant-loop-word
invariant-loop-word l = record {
  words : All (IsWord (known_of l.self)) l.pending.items;
  so_far : l.nodes.items ++ flat_map flatten (trees_on (known_of l.self) l.pending.items) ≡ flatten (word_tree (known_of l.self) l.fn.word);
  few : length l.nodes.items ≤ l.limit;
}

abbrev pub decreases-loop-word : goal.decreases-loop-word
decreases-loop-word l = 1048577 - length l.nodes.items
