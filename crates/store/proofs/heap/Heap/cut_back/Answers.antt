use Rattle.std.proofs.Common.{refl}
use Rattle.store.specs.declared.heap.Heap.{Heap}
use Rattle.store.proofs.Heaps.{IsHeap-take, trees-take}
use Rattle.store.proofs.heap.Heap.cut_back.Goals as goal

pub returns-clause-heap : goal.returns-clause-heap
returns-clause-heap c =
    let h = c.args.self.now in
    let i : Heap = record h { words = c.truncate.new.self } in
    IsHeap-take h i c.requires c.args.len refl refl c.truncate.ensures.items

pub returns-clause-trees : goal.returns-clause-trees
returns-clause-trees c =
    let h = c.args.self.now in
    let i : Heap = record h { words = c.truncate.new.self } in
    trees-take h i c.requires c.args.len refl refl c.truncate.ensures.items
