use Rattle.std.proofs.Common.{◌+◌, ◌++◌, ◌∷◌, [], ap, arith, ◌∙◌}
use Rattle.term_core.specs.Tree.{Tree}
use Rattle.term_core.specs.Substitution.{apply}
use Rattle.term_core.specs.Variables.{numbered, occurrences}
use Rattle.solve_model.specs.Collecting.{offers_by}
use Rattle.solve_model.specs.Run.{gathered}
use Rattle.solve_model.specs.Search.{items_of, place_of, runs}
use Rattle.solve_model.proofs.Gathering.{takes_copy}
use Rattle.solve_model.proofs.RowLemmas.{greatest_le}
use Rattle.solve_model.proofs.collecting.take_copy.Goals as goal

pub rename-requires : goal.rename-requires
rename-requires c =
    omega (arith, greatest_le (occurrences c.in_ok-solution.solution), c.in_ok-fresh.ensures.ok, c.if-collector-fresh.false)

pub returns : goal.returns
returns c = λ w more u r.
    let k = c.args.collector.now in
    let same = c.in_ok-solution.ensures ∙ ap numbered (c.in_ok-apply.ensures ∙ ap (λ s. apply s k.template) c.subst.ensures) in
    let taken = c.in_ok-push.ensures.items ∙ ap (λ (t : Tree). k.copies.items ++ t ∷ []) c.in_ok-rename.ensures in
    ap (λ n. gathered (runs w) k.template (offers_by k.collection) c.push.new.self.items (k.next + n) (items_of k.rest.items.items) (place_of k.rest.place) k.more r) c.in_ok-fresh.ensures.ok
    ∙ takes_copy w k c.args.subst.now c.in_ok-solution.solution same c.push.new.self.items taken more u r
