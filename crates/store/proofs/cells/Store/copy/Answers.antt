use Rattle.std.proofs.Common.{◌≡◌, [], ap, ◌∙◌, sym}
use Rattle.term_core.specs.Variables.{occurrences}
use Rattle.store.specs.Cells.{Cells, tree_of}
use Rattle.store.specs.Heap.{known_of, word_tree}
use Rattle.store.specs.Words.{shape_of}
use Rattle.store.proofs.Stacks.{closed_shape}
use Rattle.store.proofs.Making.{copied, no_number}
use Rattle.store.proofs.cells.Store.copy.Goals as goal
use Rattle.store.proofs.cells.Store.copy.Goals.{Then-is_closed}

at : (c : Then-is_closed) → word_tree (known_of c.self.inside.heap) c.word_at.result ≡ tree_of c.args.self.now c.args.c
at c = c.word_at.ensures.tree_is ∙ ap (λ (s : Cells). tree_of s c.args.c) c.self.view_is

closed : (c : Then-is_closed) → occurrences (word_tree (known_of c.self.inside.heap) c.word_at.result) ≡ []
closed c = closed_shape (known_of c.self.inside.heap) (shape_of c.word_at.result) c.word_at.ensures.is_word (sym c.if-is_closed.ensures)

pub returns-then-is_closed-clause-ok : goal.returns-then-is_closed-clause-ok
returns-then-is_closed-clause-ok c = copied c.args.self.now c.args.c _ (at c) (closed c) c.requires

pub returns-then-is_closed-clause-next : goal.returns-then-is_closed-clause-next
returns-then-is_closed-clause-next c = no_number c.args.self.now c.args.c _ (at c) (closed c)
