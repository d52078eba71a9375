use Rattle.std.proofs.Common.{arith}
use Rattle.store.proofs.Heaps.{length-trees}
use Rattle.store.proofs.heap.Heap.len.Goals as goal

pub returns : goal.returns
returns c = omega (arith, c.len.ensures, length-trees c.args.self.now, c.args.self.now.words.ok)
