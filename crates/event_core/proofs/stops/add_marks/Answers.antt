use Rattle.std.proofs.Common.{◌≡◌, ◌∙◌, ap, sym, [], ◌++◌}
use Rattle.std.proofs.lemmas.List.{nil_from_length}
use Rattle.std.specs.Vec.Iter.{into_iter_items}
use Rattle.event_core.specs.Texts.{quoted}
use Rattle.event_core.specs.Fits.{fits}
use Rattle.event_core.specs.Stops.{stops_of, cut_at}
use Rattle.event_core.proofs.stops.add_marks.Goals as goal

pub loop-step-preserved : goal.loop-step-preserved
loop-step-preserved c = λ end.
    c.in_ok-add_mark.ensures.followed c.if-not-branch.false (into_iter_items c.next.new.self) end
    ∙ ap (λ ms. c.loop-step.stops.items ++ cut_at (fits quoted) (stops_of ms end)) (sym c.in-Some.ensures.steps.0)
    ∙ c.loop-step.invariant end

pub returns-then-not-branch-clause-last : goal.returns-then-not-branch-clause-last
returns-then-not-branch-clause-last c = λ no end.
    c.in_ok-add_mark.ensures.last c.if-not-branch.true (into_iter_items c.next.new.self) end
    ∙ ap (λ ms. c.loop-step.stops.items ++ cut_at (fits quoted) (stops_of ms end)) (sym c.in-Some.ensures.steps.0)
    ∙ c.loop-step.invariant end

pub returns-clause-followed : goal.returns-clause-followed
unfolding stops_of
returns-clause-followed c = λ yes end.
    let none : into_iter_items c.loop-step.step-iterator ≡ [] = nil_from_length _ (sym c.loop-step.step-iterator.rest.ok.0 ∙ c.in-None.ensures.steps.0) in
    ap (λ ms. c.loop-step.stops.items ++ cut_at (fits quoted) (stops_of ms end)) (sym none)
    ∙ c.loop-step.invariant end
