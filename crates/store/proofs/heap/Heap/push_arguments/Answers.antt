use Rattle.std.proofs.Common.{◌≡◌, ◌++◌, ap, ◌∙◌, sym}
use Rattle.std.proofs.lemmas.Result.{on_ok_weaker}
use Rattle.term_core.specs.Parts.{arguments_of}
use Rattle.store.specs.Heap.{known_of, word_tree, block, trees_on}
use Rattle.store.proofs.Reading.{compound_arguments}
use Rattle.store.proofs.heap.Heap.push_arguments.Goals as goal

pub returns-in-Comp-clause-trees : goal.returns-in-Comp-clause-trees
returns-in-Comp-clause-trees c =
    let k = known_of c.args.self.now in
    let below = trees_on k c.args.pending.now.items in
    let same = compound_arguments k c.args.word c.in-Comp.name c.in-Comp.count c.in-Comp.first c.in-Comp.closed c.in-Comp.ensures.shape c.requires.word in
    on_ok_weaker {P = trees_on k c.push_block.new.pending.items ≡ block k c.in-Comp.first c.in-Comp.count ++ below} {Q = trees_on k c.push_block.new.pending.items ≡ arguments_of (word_tree k c.args.word) ++ below} c.push_block.result
    (λ e. e ∙ ap (λ ts. ts ++ below) (sym same)) c.push_block.ensures.trees
