use Rattle.std.proofs.Common.{◌≡◌, ◌∷◌, [], ◌++◌, List, length, ap, ◌∙◌, sym, arith, length-append}
use Rattle.std.specs.List.{flat_map}
use Rattle.term_core.specs.declared.node.Node.{Node}
use Rattle.term_core.specs.Flat.{flatten}
use Rattle.store.specs.Heap.{known_of, word_tree, trees_on}
use Rattle.store.proofs.Stacks.{trees_on-push}
use Rattle.store.proofs.Reading.{node_taken}
use Rattle.store.proofs.heap.Heap.nodes.Goals as goal

pub loop-word-preserved : goal.loop-word-preserved
loop-word-preserved c =
    let k = known_of c.args.self.now in
    let w = c.in-Some.word in
    let rest = c.pop.new.self.items in
    let all = flatten (word_tree k c.args.word) in
    let popped : c.loop-word.pending.items ≡ rest ++ w ∷ [] = c.in-Some.ensures.items in
    let before : c.loop-word.nodes.items ++ flat_map flatten (word_tree k w ∷ trees_on k rest) ≡ all = ap (λ ts. c.loop-word.nodes.items ++ flat_map flatten ts) (sym (trees_on-push k rest w) ∙ ap (trees_on k) (sym popped)) ∙ c.loop-word.invariant.so_far in
    let pushed : c.push.new.self.items ≡ c.loop-word.nodes.items ++ c.in_ok-node.field-0 ∷ [] = c.in_ok-push.ensures.items in
    record {
      words = c.in_ok-push_arguments.ensures.pending;
      so_far =
          ap (λ (ns : List Node). ns ++ flat_map flatten (trees_on k c.push_arguments.new.pending.items)) pushed
          ∙ node_taken c.loop-word.nodes.items c.in_ok-node.field-0 (word_tree k w) (trees_on k rest) (trees_on k c.push_arguments.new.pending.items) all before (c.in_ok-node.ensures ∙ c.symbol.ensures) c.in_ok-push_arguments.ensures.trees;
      few = omega (arith, ap length pushed, length-append c.loop-word.nodes.items (c.in_ok-node.field-0 ∷ []), c.len.ensures, c.loop-word.nodes.ok);
    }
