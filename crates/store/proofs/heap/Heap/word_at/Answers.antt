use Rattle.std.proofs.Common.{◌≡◌, ◌<◌, ℕ, [], length, get_or, subst, sym, ap, ◌∙◌, arith}
use Rattle.term_core.specs.Tree.{atom}
use Rattle.store.specs.declared.word.Word.{Word}
use Rattle.store.specs.Heap.{known_of, HasTree, tree_at}
use Rattle.store.proofs.Heaps.{length-trees, word_of}
use Rattle.store.proofs.heap.Heap.word_at.Goals as goal

pub index-requires : goal.index-requires
index-requires c =
    omega (arith, c.requires.cell, c.place.ensures, length-trees c.args.self.now, c.args.self.now.words.ok)

pub returns : goal.returns
returns c =
    let h = c.args.self.now in
    let within : c.args.cell < length h.words.items = omega (arith, c.requires.cell, length-trees h) in
    let read : c.index.result.now ≡ get_or h.words.items c.args.cell c.index.result.now = c.index.ensures ∙ ap (λ (p : ℕ). get_or h.words.items p c.index.result.now) c.place.ensures in
    subst (λ (w : Word). HasTree (known_of h) w (tree_at (known_of h) c.args.cell)) (sym read)
    (word_of h c.requires.heap c.args.cell c.index.result.now (atom []) within)
