use Rattle.std.proofs.Common.{◌≡◌, ◌∙◌, ap, sym, subst}
use Rattle.event_core.specs.declared.event.Event.TheVariants as event
use Rattle.session.specs.After.{begins}
use Rattle.session.specs.declared.automaton.Automaton.{Automaton}
use Rattle.session.specs.Views.{Does, spec_seen}
use Rattle.session.specs.Kept.{view_of, says, closed}
use Rattle.session.proofs.Seen.{counted, refused_does}
use Rattle.session.proofs.automaton.Automaton.begin.Goals as goal

pub returns-in-Some-clause-does : goal.returns-in-Some-clause-does
returns-in-Some-clause-does c =
    let a : Automaton = c.args.self.now in
    let e : c.end.new.self ≡ closed a.settings.destroys (says (event.Error c.in-Some.term) (counted a)) =
    c.end.ensures ∙ ap (λ (z : Automaton). closed z.settings.destroys z) c.emit.ensures in
    subst (λ (z : Automaton). Does (begins (spec_seen (view_of a)) c.args.query.ask c.args.refusal) (view_of a) (view_of z)) (sym e)
    (subst (λ r. Does (begins (spec_seen (view_of a)) c.args.query.ask r) (view_of a) (view_of (closed a.settings.destroys (says (event.Error c.in-Some.term) (counted a))))) (sym c.in-Some.is)
    (refused_does a c.args.query.ask c.in-Some.term c.requires.idle))
