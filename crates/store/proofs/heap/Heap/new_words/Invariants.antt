use Rattle.std.proofs.Common.{◌≡◌, ◌+◌, ◌-◌, length}
use Rattle.std.specs.List.{All}
use Rattle.store.specs.Cells.{variables_from}
use Rattle.store.specs.Heap.{known_of, IsWord, trees_on}
use Rattle.store.proofs.heap.Heap.new_words.Given as goal

abbrev pub invariant-loop-i : goal.invariant-loop-i
invariant-loop-i l = record {
  words : All (IsWord (known_of l.self)) l.words.items;
  trees : trees_on (known_of l.self) l.words.items ≡ variables_from (l.next + (l.count - l.i)) l.i;
  count : length l.words.items ≡ l.i;
}
