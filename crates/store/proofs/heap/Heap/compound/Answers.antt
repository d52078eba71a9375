use Rattle.std.proofs.Common.{◌≡◌, ◌∷◌, [], ◌++◌, Some, length, map, refl, ap, ◌∙◌, sym, arith}
use Rattle.std.specs.Option.{option_to_list}
use Rattle.std.proofs.lemmas.List.Elements.{All-pop}
use Rattle.term_core.specs.Tree.{compound, trees_of}
use Rattle.store.specs.Heap.{known_of, word_tree, IsWord, trees_on}
use Rattle.store.proofs.Stacks.{trees_on-push, trees_on-grows, length-trees_on}
use Rattle.store.proofs.Reading.{whole_compound}
use Rattle.store.proofs.heap.Heap.compound.Goals as goal

pub returns-clause-word : goal.returns-clause-word
returns-clause-word c =
    let k = known_of c.args.self.now in
    let m = known_of c.name.new.self in
    let n = known_of c.gather.new.self in
    let w = c.unwrap.result in
    let rest = c.pop.new.self.items in
    let ws = c.args.pending.items in
    let popped : c.gather.new.pending.items ≡ rest ++ w ∷ [] = c.pop.ensures.items ∙ ap (λ o. rest ++ option_to_list o) c.unwrap.ensures in
    let known = All-pop (IsWord n) c.gather.new.pending.items rest (Some w) popped c.in_ok-gather.ensures.pending in
    let on_top : word_tree n w ∷ trees_on n rest ≡ trees_on n c.gather.new.pending.items = sym (trees_on-push n rest w) ∙ ap (trees_on n) (sym popped) in
    let same : trees_on m ws ≡ trees_on k ws = trees_on-grows k m c.in_ok-at.ensures.grown.grows ws (record { bits = 0 }) c.requires.words in
    record {
      is_word = known.1;
      tree_is =
          whole_compound _ c.len-count.result (word_tree n w) (trees_on n rest) (trees_on m ws) (trees_on k ws) (on_top ∙ c.in_ok-gather.ensures.trees) same (omega (arith, length-trees_on k ws, c.len-count.ensures, c.args.pending.ok))
          ∙ ap (λ f. compound f (trees_of (trees_on k ws))) c.in_ok-at.ensures.name;
    }
