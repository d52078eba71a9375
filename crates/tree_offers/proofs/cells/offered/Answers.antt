use Rattle.std.proofs.Common.{◌≡◌, ℕ, List, [], ◌∷◌, ◌+◌, ◌++◌, take, ap, sym, subst, ◌∙◌}
use Rattle.std.proofs.lemmas.List.{take_more}
use Rattle.term_core.specs.Tree.{Tree}
use Rattle.tree_offers.specs.Results.{Offered}
use Rattle.tree_offers.proofs.Putting.{Keeps-after, one_offered}
use Rattle.tree_offers.proofs.cells.offered.Goals as goal

pub loop-pair-preserved : goal.loop-pair-preserved
loop-pair-preserved c =
    let old = c.args.store.now in
    let new = c.put.new.self in
    let ps = c.args.pairs.now in
    let i = c.loop-pair.pair-index in
    let p : ℕ × Tree = c.pair-item.result in
    let more : take (i + 1) ps ≡ take i ps ++ p ∷ [] = take_more ps i p c.loop-pair-test.true ∙ ap (λ (q : ℕ × Tree). take i ps ++ q ∷ []) (sym c.pair-item.is) in
    record {
      keeps = Keeps-after old c.loop-pair.store new c.loop-pair.invariant.keeps c.in_ok-cell.ensures.ok.keeps;
      offered = subst (λ (qs : List (ℕ × Tree)). Offered old new qs c.push.new.self) (sym more)
          (one_offered old c.loop-pair.store new (take i ps) c.loop-pair.offered c.push.new.self p.0 c.in_ok-cell.cell p.1 c.loop-pair.invariant.keeps c.loop-pair.invariant.offered c.in_ok-cell.ensures.ok c.in_ok-cell.ensures.next c.in_ok-push.ensures.ok);
    }
