use Rattle.std.proofs.Common.{◌≡◌, ◌∙◌, true, ap, sym, subst}
use Rattle.event_core.specs.declared.event.Event.TheVariants as event
use Rattle.session.specs.After.{aborted_at, struck}
use Rattle.session.specs.declared.automaton.Automaton.{Automaton}
use Rattle.session.specs.declared.state.State.TheVariants as at
use Rattle.session.specs.Views.{Does, spec_seen}
use Rattle.session.specs.Kept.{view_of, is_busy, says, closed}
use Rattle.session.proofs.Seen.{cleared, busy_breaks}
use Rattle.session.proofs.automaton.Automaton.break_off.Goals as goal

pub returns-clause-does : goal.returns-clause-does
returns-clause-does c =
    let a : Automaton = c.args.self.now in
    let b : is_busy a.state ≡ true = sym c.is_busy.ensures ∙ c.if-not-is_busy.false in
    let e : c.end.new.self ≡ closed a.settings.destroys (says event.Abort (record (cleared a) { state = at.Idle })) =
    c.end.ensures ∙ ap (λ (z : Automaton). closed z.settings.destroys z) c.emit.ensures ∙ ap (λ m. closed a.settings.destroys (says event.Abort (record a { mailbox = m; state = at.Idle }))) c.clear.ensures in
    subst (λ (z : Automaton). Does (λ p. aborted_at (spec_seen (view_of a)) p.state (struck p)) (view_of a) (view_of z)) (sym e) (busy_breaks a b)
