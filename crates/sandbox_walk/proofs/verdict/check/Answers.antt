use Rattle.std.proofs.Common.{List, Some, None, refl, ap, sym, ◌∙◌}
use Rattle.std.specs.List.{list_any}
use Rattle.builtin_table.specs.Table.{rows_of_app}
use Rattle.program.specs.Loaded.{Loaded}
use Rattle.sandbox_walk.specs.declared.found.Found.{Found}
use Rattle.sandbox_walk.specs.Verdict.{is_unbound}
use Rattle.sandbox_walk.specs.Seen.{has}
use Rattle.sandbox_walk.proofs.Passing.{tells_outside, tells_unbound, tells_closed, tells_none, moved_reach, moved_shown, least_is, closed_is, verdict_passes}
use Rattle.sandbox_walk.proofs.Sound.{judged_stay_inside}
use Rattle.sandbox_walk.proofs.verdict.check.Goals as goal

pub returns-in-Some-clause-refused : goal.returns-in-Some-clause-refused
returns-in-Some-clause-refused c =
    tells_outside (rows_of_app c.args.p.now.value.app) c.args.p.now.value.clauses c.args.goal.now (has c.in_ok-reached.reached)
    (moved_reach _ (rows_of_app c.args.p.now.value.app) _ c.args.p.now.value.clauses c.args.goal.now (has c.in_ok-reached.reached) (c.in_ok-table.ensures ∙ ap (λ (l : Loaded). rows_of_app l.app) c.deref.ensures) (ap (λ (l : Loaded). l.clauses) c.deref-2.ensures) c.in_ok-reached.ensures)
    c.in_ok-shown.shown.items
    (moved_shown _ (rows_of_app c.args.p.now.value.app) _ c.args.p.now.value.clauses c.args.goal.now (has c.in_ok-reached.reached) _ (c.in_ok-table.ensures ∙ ap (λ (l : Loaded). rows_of_app l.app) c.deref.ensures) (ap (λ (l : Loaded). l.clauses) c.deref-3.ensures) c.in_ok-shown.ensures)
    c.in_ok-copied.field-0
    (least_is _ (rows_of_app c.args.p.now.value.app) _ c.deref-4.result.now _ (Some c.in-Some.pi) (Some c.in_ok-copied.field-0) (c.in_ok-table.ensures ∙ ap (λ (l : Loaded). rows_of_app l.app) c.deref.ensures) c.deref-4.ensures.value c.least_outside.ensures c.in-Some.is (ap Some (sym c.in_ok-copied.ensures)))

pub returns-then-has_unbound-clause-refused : goal.returns-then-has_unbound-clause-refused
returns-then-has_unbound-clause-refused c =
    tells_unbound (rows_of_app c.args.p.now.value.app) c.args.p.now.value.clauses c.args.goal.now (has c.in_ok-reached.reached)
    (moved_reach _ (rows_of_app c.args.p.now.value.app) _ c.args.p.now.value.clauses c.args.goal.now (has c.in_ok-reached.reached) (c.in_ok-table.ensures ∙ ap (λ (l : Loaded). rows_of_app l.app) c.deref.ensures) (ap (λ (l : Loaded). l.clauses) c.deref-2.ensures) c.in_ok-reached.ensures)
    c.in_ok-shown.shown.items
    (moved_shown _ (rows_of_app c.args.p.now.value.app) _ c.args.p.now.value.clauses c.args.goal.now (has c.in_ok-reached.reached) _ (c.in_ok-table.ensures ∙ ap (λ (l : Loaded). rows_of_app l.app) c.deref.ensures) (ap (λ (l : Loaded). l.clauses) c.deref-3.ensures) c.in_ok-shown.ensures)
    (least_is _ (rows_of_app c.args.p.now.value.app) _ c.deref-4.result.now _ None None (c.in_ok-table.ensures ∙ ap (λ (l : Loaded). rows_of_app l.app) c.deref.ensures) c.deref-4.ensures.value c.least_outside.ensures c.in_default.is refl)
    (ap (λ (fs : List Found). list_any is_unbound fs) (sym c.deref-5.ensures.value) ∙ sym c.has_unbound.ensures ∙ c.if-has_unbound.true)

pub returns-in-Some-first_closed-clause-refused : goal.returns-in-Some-first_closed-clause-refused
returns-in-Some-first_closed-clause-refused c =
    tells_closed (rows_of_app c.args.p.now.value.app) c.args.p.now.value.clauses c.args.goal.now (has c.in_ok-reached.reached)
    (moved_reach _ (rows_of_app c.args.p.now.value.app) _ c.args.p.now.value.clauses c.args.goal.now (has c.in_ok-reached.reached) (c.in_ok-table.ensures ∙ ap (λ (l : Loaded). rows_of_app l.app) c.deref.ensures) (ap (λ (l : Loaded). l.clauses) c.deref-2.ensures) c.in_ok-reached.ensures)
    c.in_ok-shown.shown.items
    (moved_shown _ (rows_of_app c.args.p.now.value.app) _ c.args.p.now.value.clauses c.args.goal.now (has c.in_ok-reached.reached) _ (c.in_ok-table.ensures ∙ ap (λ (l : Loaded). rows_of_app l.app) c.deref.ensures) (ap (λ (l : Loaded). l.clauses) c.deref-3.ensures) c.in_ok-shown.ensures)
    c.in_ok-copied-2.field-0
    (least_is _ (rows_of_app c.args.p.now.value.app) _ c.deref-4.result.now _ None None (c.in_ok-table.ensures ∙ ap (λ (l : Loaded). rows_of_app l.app) c.deref.ensures) c.deref-4.ensures.value c.least_outside.ensures c.in_default.is refl)
    (ap (λ (fs : List Found). list_any is_unbound fs) (sym c.deref-5.ensures.value) ∙ sym c.has_unbound.ensures ∙ c.if-has_unbound.false)
    (closed_is _ c.deref-6.result.now _ (Some c.in-Some-first_closed.term) (Some c.in_ok-copied-2.field-0) c.deref-6.ensures.value c.first_closed.ensures c.in-Some-first_closed.is (ap Some (sym c.in_ok-copied-2.ensures)))

pub keep-requires : goal.keep-requires
keep-requires c =
    verdict_passes (rows_of_app c.args.p.now.value.app) c.args.p.now.value.clauses c.args.goal.now
    (tells_none (rows_of_app c.args.p.now.value.app) c.args.p.now.value.clauses c.args.goal.now (has c.in_ok-reached.reached)
    (moved_reach _ (rows_of_app c.args.p.now.value.app) _ c.args.p.now.value.clauses c.args.goal.now (has c.in_ok-reached.reached) (c.in_ok-table.ensures ∙ ap (λ (l : Loaded). rows_of_app l.app) c.deref.ensures) (ap (λ (l : Loaded). l.clauses) c.deref-2.ensures) c.in_ok-reached.ensures)
    c.in_ok-shown.shown.items
    (moved_shown _ (rows_of_app c.args.p.now.value.app) _ c.args.p.now.value.clauses c.args.goal.now (has c.in_ok-reached.reached) _ (c.in_ok-table.ensures ∙ ap (λ (l : Loaded). rows_of_app l.app) c.deref.ensures) (ap (λ (l : Loaded). l.clauses) c.deref-3.ensures) c.in_ok-shown.ensures)
    (least_is _ (rows_of_app c.args.p.now.value.app) _ c.deref-4.result.now _ None None (c.in_ok-table.ensures ∙ ap (λ (l : Loaded). rows_of_app l.app) c.deref.ensures) c.deref-4.ensures.value c.least_outside.ensures c.in_default.is refl)
    (ap (λ (fs : List Found). list_any is_unbound fs) (sym c.deref-5.ensures.value) ∙ sym c.has_unbound.ensures ∙ c.if-has_unbound.false)
    (closed_is _ c.deref-6.result.now _ None None c.deref-6.ensures.value c.first_closed.ensures c.in_default-first_closed.is refl))

pub returns-clause-passed : goal.returns-clause-passed
returns-clause-passed c =
    tells_none (rows_of_app c.args.p.now.value.app) c.args.p.now.value.clauses c.args.goal.now (has c.in_ok-reached.reached)
    (moved_reach _ (rows_of_app c.args.p.now.value.app) _ c.args.p.now.value.clauses c.args.goal.now (has c.in_ok-reached.reached) (c.in_ok-table.ensures ∙ ap (λ (l : Loaded). rows_of_app l.app) c.deref.ensures) (ap (λ (l : Loaded). l.clauses) c.deref-2.ensures) c.in_ok-reached.ensures)
    c.in_ok-shown.shown.items
    (moved_shown _ (rows_of_app c.args.p.now.value.app) _ c.args.p.now.value.clauses c.args.goal.now (has c.in_ok-reached.reached) _ (c.in_ok-table.ensures ∙ ap (λ (l : Loaded). rows_of_app l.app) c.deref.ensures) (ap (λ (l : Loaded). l.clauses) c.deref-3.ensures) c.in_ok-shown.ensures)
    (least_is _ (rows_of_app c.args.p.now.value.app) _ c.deref-4.result.now _ None None (c.in_ok-table.ensures ∙ ap (λ (l : Loaded). rows_of_app l.app) c.deref.ensures) c.deref-4.ensures.value c.least_outside.ensures c.in_default.is refl)
    (ap (λ (fs : List Found). list_any is_unbound fs) (sym c.deref-5.ensures.value) ∙ sym c.has_unbound.ensures ∙ c.if-has_unbound.false)
    (closed_is _ c.deref-6.result.now _ None None c.deref-6.ensures.value c.first_closed.ensures c.in_default-first_closed.is refl)

pub returns-clause-sound : goal.returns-clause-sound
returns-clause-sound c =
    judged_stay_inside c.args.p.now.value c.args.goal.now
    (tells_none (rows_of_app c.args.p.now.value.app) c.args.p.now.value.clauses c.args.goal.now (has c.in_ok-reached.reached)
    (moved_reach _ (rows_of_app c.args.p.now.value.app) _ c.args.p.now.value.clauses c.args.goal.now (has c.in_ok-reached.reached) (c.in_ok-table.ensures ∙ ap (λ (l : Loaded). rows_of_app l.app) c.deref.ensures) (ap (λ (l : Loaded). l.clauses) c.deref-2.ensures) c.in_ok-reached.ensures)
    c.in_ok-shown.shown.items
    (moved_shown _ (rows_of_app c.args.p.now.value.app) _ c.args.p.now.value.clauses c.args.goal.now (has c.in_ok-reached.reached) _ (c.in_ok-table.ensures ∙ ap (λ (l : Loaded). rows_of_app l.app) c.deref.ensures) (ap (λ (l : Loaded). l.clauses) c.deref-3.ensures) c.in_ok-shown.ensures)
    (least_is _ (rows_of_app c.args.p.now.value.app) _ c.deref-4.result.now _ None None (c.in_ok-table.ensures ∙ ap (λ (l : Loaded). rows_of_app l.app) c.deref.ensures) c.deref-4.ensures.value c.least_outside.ensures c.in_default.is refl)
    (ap (λ (fs : List Found). list_any is_unbound fs) (sym c.deref-5.ensures.value) ∙ sym c.has_unbound.ensures ∙ c.if-has_unbound.false)
    (closed_is _ c.deref-6.result.now _ None None c.deref-6.ensures.value c.first_closed.ensures c.in_default-first_closed.is refl))
