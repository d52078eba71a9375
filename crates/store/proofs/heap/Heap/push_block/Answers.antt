use Rattle.std.proofs.Common.{◌≡◌, List, ◌-◌, ◌+◌, ◌<◌, ◌∷◌, [], ◌++◌, length, subst, sym, ap, ◌∙◌, arith}
use Rattle.std.proofs.lemmas.List.Elements.{All-push}
use Rattle.std.specs.List.{All}
use Rattle.term_core.specs.Tree.{atom}
use Rattle.store.specs.declared.word.Word.{Word}
use Rattle.store.specs.Heap.{known_of, HasTree, IsWord, tree_at, trees_on}
use Rattle.store.proofs.Heaps.{length-trees, word_of}
use Rattle.store.proofs.Stacks.{trees_on-push}
use Rattle.store.proofs.Reading.{argument_before}
use Rattle.store.proofs.heap.Heap.push_block.Goals as goal

pub overflow_add-at : goal.overflow_add-at
overflow_add-at c =
    omega (arith, c.requires.within, length-trees c.args.self.now, c.args.self.now.words.ok, c.args.self.now.words.small)

pub index-requires : goal.index-requires
index-requires c =
    omega (arith, c.requires.within, length-trees c.args.self.now, c.args.self.now.words.ok)

pub loop-i-preserved : goal.loop-i-preserved
loop-i-preserved c =
    let h = c.args.self.now in
    let k = known_of h in
    let p = c.args.first + (c.args.count - 1 - c.loop-i.i) in
    let w = c.index.result.now in
    let within : p < length h.words.items = omega (arith, c.requires.within, length-trees h) in
    let has : HasTree k w (tree_at k p) = subst (λ (v : Word). HasTree k v (tree_at k p)) (sym c.index.ensures) (word_of h c.requires.heap p w (atom []) within) in
    let pushed : c.push.new.self.items ≡ c.loop-i.pending.items ++ w ∷ [] = c.in_ok-push.ensures.items in
    record {
      words = subst (λ (ws : List Word). All (IsWord k) ws) (sym pushed) (All-push (IsWord k) c.loop-i.pending.items w c.loop-i.invariant.words has.is_word);
      trees =
          ap (trees_on k) pushed ∙ trees_on-push k c.loop-i.pending.items w
          ∙ (λ i. has.tree_is i ∷ c.loop-i.invariant.trees i)
          ∙ ap (λ ts. ts ++ trees_on k c.args.pending.now.items) (sym (argument_before k c.args.first c.args.count c.loop-i.i c.requires.within c.loop-i-test.true));
    }
