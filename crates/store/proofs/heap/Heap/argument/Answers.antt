use Rattle.std.proofs.Common.{◌≡◌, ◌+◌, ◌<◌, length, get_or, [], arith}
use Rattle.term_core.specs.Tree.{atom}
use Rattle.term_core.specs.Parts.{arguments_of}
use Rattle.store.specs.Heap.{known_of, tree_at, word_tree}
use Rattle.store.proofs.Reading.{argument_at, argument_below}
use Rattle.store.proofs.heap.Heap.argument.Goals as goal
use Rattle.store.proofs.heap.Heap.argument.Goals.{In-Comp}

there : (c : In-Comp) → (c.in-Comp.first + c.args.i < length (known_of c.args.self.now).trees) × (tree_at (known_of c.args.self.now) (c.in-Comp.first + c.args.i) ≡ get_or (arguments_of (word_tree (known_of c.args.self.now) c.args.word)) c.args.i (atom []))
there c =
    argument_at (known_of c.args.self.now) c.args.word c.in-Comp.name c.in-Comp.count c.in-Comp.first c.in-Comp.closed c.in-Comp.ensures.shape c.requires.word c.args.i c.requires.within

pub overflow_add-result : goal.overflow_add-result
overflow_add-result c =
    omega (arith, c.in-Comp.ensures.place, argument_below (known_of c.args.self.now) c.args.word c.in-Comp.name c.in-Comp.count c.in-Comp.first c.in-Comp.closed c.in-Comp.ensures.shape c.requires.word c.args.i c.requires.within)

pub returns-clause-place : goal.returns-clause-place
returns-clause-place c = (there c).0

pub returns-clause-tree : goal.returns-clause-tree
returns-clause-tree c = (there c).1
