use Rattle.std.proofs.Common.{◌≡◌, ◌∷◌, [], ◌++◌, get_or, refl, ap, ◌∙◌}
use Rattle.term_core.specs.Tree.{variable}
use Rattle.store.specs.Heap.{known_of, shape_tree}
use Rattle.store.proofs.Heaps.{GrownFrom-after}
use Rattle.store.proofs.Reading.{variable_more}
use Rattle.store.proofs.heap.Heap.variables_placed.Goals as goal

pub loop-number-preserved : goal.loop-number-preserved
loop-number-preserved c =
    let k = known_of c.loop-number.self in
    let m = known_of c.place.new.self in
    let n = get_or c.args.numbers.now c.loop-number.number-index 0 in
    let one : m.trees ≡ k.trees ++ variable n ∷ [] = c.in_ok-place.ensures.ok ∙ ap (λ t. k.trees ++ t ∷ []) (ap (shape_tree k) c.in_ok-variable_word.ensures) in
    let more = variable_more k m c.in_ok-place.ensures.grown.grows c.loop-number.cells.items c.push.new.self.items c.at.result n c.loop-number.number-index c.args.numbers.now c.loop-number.invariant.cells c.loop-number.invariant.trees (c.at.ensures ∙ c.in_ok-place.ensures.place) one c.loop-number-test.true refl c.in_ok-push.ensures.items in
    record {
      grown = GrownFrom-after (known_of c.args.self.now) c.loop-number.self c.place.new.self c.loop-number.invariant.grown c.in_ok-place.ensures.grown;
      cells = more.0;
      trees = more.1;
    }
