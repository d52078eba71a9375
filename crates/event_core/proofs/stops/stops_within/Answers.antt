use Rattle.std.proofs.Common.{◌≡◌, ◌∙◌, ap, sym, subst, ◌≤◌, ◌&&◌, true, false, nat_lt, min, None, if◌then◌else◌, arith, List, ℕ}
use Rattle.std.specs.List.{All}
use Rattle.solve_model.specs.declared.answers.Trace.{Trace}
use Rattle.event_core.specs.declared.stop.Stop.{Stop}
use Rattle.event_core.specs.Texts.{quoted}
use Rattle.event_core.specs.Fits.{fits}
use Rattle.event_core.specs.Stops.{at_end, end_stop, stops_of, cut_at, is_spent}
use Rattle.event_core.specs.Names.{answer_term}
use Rattle.event_core.specs.Parts.{replies}
use Rattle.event_core.specs.Reaching.{IsBegun}
use Rattle.event_core.specs.Standing.{stops_for}
use Rattle.event_core.proofs.Reaching.{ran, told_stops, whole, begun, in_time}
use Rattle.event_core.proofs.stops.stops_within.Goals as goal
use Rattle.event_core.proofs.stops.stops_within.Goals.{else-goes_on-via-then-goes_on+else-trace-steps, else-goes_on-via-else-goes_on}

abbrev told : goal.In_ok-stops → ℕ → List (ℕ × Stop)
told c n = told_stops c.args.program.now (replies c.args.requests.now) c.args.ask.now.goal (answer_term c.args.settings.names c.args.ask.now) (fits quoted) c.is_cut_off-goes_on.result (ran c.args.program.now (replies c.args.requests.now) c.args.ask.now.goal (answer_term c.args.settings.names c.args.ask.now) (fits quoted) n)

stops_are : (c : goal.In_ok-stops) → c.in_ok-stops.stops.items ≡ told c c.min-limit.result
stops_are c =
    c.in_ok-stops.ensures
    ∙ ap (λ (x : Trace). cut_at (fits quoted) (stops_of x.marks (at_end x.steps (if c.is_cut_off-goes_on.result then None else end_stop x.end)))) c.in_ok-trace.ensures

cut_is : (c : goal.In_ok-stops) → c.is_cut_off-goes_on.result ≡ (nat_lt c.args.steps c.args.settings.limit && is_spent c.in_ok-trace.trace.end)
cut_is c = c.is_cut_off-goes_on.ensures

differ : false ≡ true → ⊥
differ e = cc

-- a query that goes on has made all the steps
made_all : (c : goal.In_ok-stops) → c.is_cut_off-goes_on.result ≡ true → c.args.steps ≤ c.in_ok-trace.trace.steps
made_all c is =
    elim c.else-goes_on.branch [
      | else-goes_on-via-then-goes_on+else-trace-steps w ↦ omega (arith, w.if-trace-steps.false)
      | else-goes_on-via-else-goes_on w ↦ absurd (differ (sym w.if-goes_on.false ∙ is))
    ]

pub returns-clause-whole : goal.returns-clause-whole
returns-clause-whole c = λ isnt.
    stops_are c
    ∙ whole c.args.program.now (replies c.args.requests.now) c.args.ask.now.goal (answer_term c.args.settings.names c.args.ask.now) (fits quoted) c.args.steps c.args.settings.limit c.min-limit.result c.min-limit.ensures c.is_cut_off-goes_on.result
    (cut_is c ∙ ap (λ (x : Trace). nat_lt c.args.steps c.args.settings.limit && is_spent x.end) c.in_ok-trace.ensures) isnt

pub returns-clause-begun : goal.returns-clause-begun
returns-clause-begun c = λ is.
    subst (λ ps. IsBegun c.args.steps ps (stops_for c.args.program.now c.args.settings c.args.ask.now c.args.requests.now)) (sym (stops_are c))
    (begun c.args.program.now (replies c.args.requests.now) c.args.ask.now.goal (answer_term c.args.settings.names c.args.ask.now) (fits quoted) c.args.steps c.args.settings.limit c.min-limit.result c.min-limit.ensures c.is_cut_off-goes_on.result
    (cut_is c ∙ ap (λ (x : Trace). nat_lt c.args.steps c.args.settings.limit && is_spent x.end) c.in_ok-trace.ensures) is (subst (λ (x : Trace). c.args.steps ≤ x.steps) c.in_ok-trace.ensures (made_all c is)))

pub returns-clause-in_time : goal.returns-clause-in_time
returns-clause-in_time c =
    subst (λ (ps : List (ℕ × Stop)). All (λ s. s.0 ≤ min c.args.steps c.args.settings.limit) ps) (sym (stops_are c))
    (subst (λ k. All (λ s. s.0 ≤ k) (told c c.min-limit.result)) c.min-limit.ensures
    (in_time c.args.program.now (replies c.args.requests.now) c.args.ask.now.goal (answer_term c.args.settings.names c.args.ask.now) (fits quoted) c.min-limit.result c.is_cut_off-goes_on.result))
