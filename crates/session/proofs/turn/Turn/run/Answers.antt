use Rattle.std.proofs.Common.{◌≡◌, ◌∙◌, ℕ, ◌+◌, ◌^◌, ◌<◌, ◌==◌, ◌||◌, if◌then◌else◌, false, refl, ap, subst, length, List, [], None}
use Rattle.std.specs.Option.{MatchOption, is_some}
use Rattle.program.specs.Loaded.{Loaded}
use Rattle.solve_model.specs.Trace.{world_of}
use Rattle.event_core.specs.Names.{answer_term}
use Rattle.event_core.specs.declared.event.Event.{Event}
use Rattle.event_core.specs.declared.request.Request.{Request}
use Rattle.event_core.specs.Laws.{StaysInside, replying}
use Rattle.event_core.specs.Reaching.{IsBegun, IsWhole}
use Rattle.event_core.specs.Standing.{spec_of}
use Rattle.session.specs.Turns.{Turned, last_step}
use Rattle.session.specs.Views.{Gone, TurnView}
use Rattle.session.specs.TurnsKept.{turn_view, part_seen, IsGone, ends_at}
use Rattle.session.proofs.Running as running
use Rattle.session.proofs.turn.Turn.run.Goals as goal

abbrev turn : goal.After-drop-requests-2 → TurnView
turn c = turn_view c.self.inside

abbrev made : goal.After-drop-requests-2 → Gone
made c = record { steps = c.steps_of.result; events = c.in_ok-events-2.events; starved = false; rest = c.rest_after-rest.result }

-- what was reached, of the query of the turn
requests_are : (c : goal.After-drop-requests-2) → c.as_slice.result.now ≡ (turn c).query.requests
requests_are c = c.as_slice.ensures.value ∙ c.in_ok-requests.ensures

abbrev Known : goal.After-drop-requests-2 → Loaded → List Request → Type 0
Known c cs rs =
    MatchOption c.in_ok-events.field-0.rest ((c.reach_of-reaches.result < (turn c).settings.limit) × IsBegun c.reach_of-reaches.result c.in_ok-events.field-0.events ((spec_of cs (turn c).settings).part (turn c).query.asked rs).events)
    (λ x. IsWhole ((spec_of cs (turn c).settings).part (turn c).query.asked rs) c.in_ok-events.field-0.events x)

abbrev Left : goal.After-drop-requests-2 → Loaded → List Request → Type 0
Left c cs rs =
    c.in_ok-events.field-0.rest ≡ None → StaysInside (replying (world_of cs [] (turn c).settings.limit) rs) (turn c).query.asked.goal (answer_term (turn c).settings.names (turn c).query.asked) →
    length c.in_ok-events.field-0.events < length ((spec_of cs (turn c).settings).part (turn c).query.asked rs).events

known : (c : goal.After-drop-requests-2) → Known c (turn c).program (turn c).query.requests
known c = subst (λ cs. Known c cs (turn c).query.requests) c.deref.ensures (subst (λ rs. Known c c.deref.result.now rs) (requests_are c) c.in_ok-events.ensures.events)

left : (c : goal.After-drop-requests-2) → Left c (turn c).program (turn c).query.requests
left c = subst (λ cs. Left c cs (turn c).query.requests) c.deref.ensures (subst (λ rs. Left c c.deref.result.now rs) (requests_are c) c.in_ok-events.ensures.left)

after_is : (c : goal.After-drop-requests-2) → c.in_ok-after.after ≡ (turn c).events + length c.in_ok-events-2.events
after_is c = c.in_ok-after.ensures.sum ∙ ap (λ n. (turn c).events + n) c.len.ensures

rest_is : (c : goal.After-drop-requests-2) → c.rest_after-rest.result ≡ (if (turn c).events + length c.in_ok-events-2.events == length c.in_ok-events.field-0.events then c.in_ok-events.field-0.rest else None)
rest_is c =
    c.rest_after-rest.ensures
    ∙ ap (λ n. if n == c.len-reached.result then c.in_ok-events.field-0.rest else None) (after_is c)
    ∙ ap (λ n. if (turn c).events + length c.in_ok-events-2.events == n then c.in_ok-events.field-0.rest else None) c.len-reached.ensures

turns : (c : goal.After-drop-requests-2) → Turned (part_seen (turn c)) (turn c).steps (turn c).events c.args.budget (turn c).room c.steps_of.result (length c.in_ok-events-2.events)
turns c =
    running.turned (turn c) (made c) c.args.budget c.reach_of-reaches.result c.in_ok-events.field-0.events c.in_ok-events.field-0.rest
    c.requires c.self.invariant.some_room c.reach_of-reaches.ensures.most c.reach_of-reaches.ensures.all (known c) (left c) c.in_ok-events.ensures.in_time c.in_ok-events-2.ensures (rest_is c)
    c.self.invariant.starts c.is_full-is_full.result (c.is_full-is_full.ensures ∙ ap (λ n. is_some c.rest_after-rest.result || (n == (turn c).room)) c.len-2.ensures)
    c.end_of-end.result (c.end_of-end.ensures ∙ ap (λ (l : List (ℕ × Event)). ends_at c.is_full-is_full.result (last_step (length l) l) c.reach_of-reaches.result) c.as_slice-2.ensures) c.steps_of.ensures.difference

pub returns-clause-gone : goal.returns-clause-gone
returns-clause-gone c =
    subst (λ (t : TurnView). IsGone t (made c)) c.self.view_is
    (running.gone (turn c) (made c) c.args.budget c.reach_of-reaches.result c.in_ok-events.field-0.events c.in_ok-events.field-0.rest
    c.requires c.self.invariant.some_room c.reach_of-reaches.ensures.most c.reach_of-reaches.ensures.all (known c) (left c) c.in_ok-events.ensures.in_time c.in_ok-events-2.ensures (rest_is c)
    c.self.invariant.starts refl (turns c)
    c.steps_of.ensures.fits (subst (λ n. (turn c).events + n < 2 ^ 64) c.len.ensures c.in_ok-after.ensures.fits))

pub returns-clause-turned : goal.returns-clause-turned
returns-clause-turned c =
    subst (λ (t : TurnView). Turned (part_seen t) t.steps t.events c.args.budget t.room c.steps_of.result (length c.in_ok-events-2.events)) c.self.view_is (turns c)
