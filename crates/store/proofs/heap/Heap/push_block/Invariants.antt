use Rattle.std.proofs.Common.{◌≡◌, ◌-◌, ◌++◌, drop}
use Rattle.std.specs.List.{All}
use Rattle.store.specs.Heap.{known_of, IsWord, block, trees_on}
use Rattle.store.proofs.heap.Heap.push_block.Given as goal

abbrev pub invariant-loop-i : goal.invariant-loop-i
invariant-loop-i l = record {
  words : All (IsWord (known_of l.self)) l.pending.items;
  trees : trees_on (known_of l.self) l.pending.items ≡ drop (l.count - l.i) (block (known_of l.self) l.first l.count) ++ trees_on (known_of l.self) l.initial.pending.items;
}
