use Rattle.std.proofs.Common.{◌≡◌, ◌∙◌, ap, sym, subst}
use Rattle.event_core.specs.declared.event.Event.TheVariants as event
use Rattle.event_core.specs.declared.request.Request.{Request}
use Rattle.event_core.specs.Requests.{kind_of}
use Rattle.session.specs.After.{fits}
use Rattle.session.specs.declared.automaton.Automaton.{Automaton}
use Rattle.session.specs.Views.{Does, spec_seen}
use Rattle.session.specs.Kept.{view_of, IsSound, says}
use Rattle.session.proofs.Seen.{IsFurther, further_of_not, other_does, says_sound}
use Rattle.session.proofs.automaton.Automaton.consume_idle.Goals as goal

pub returns-in_default : goal.returns-in_default
returns-in_default c =
    let a : Automaton = c.args.self.now in
    let r : Request = c.args.letter.node in
    let e : c.emit.new.self ≡ says (event.Protocol (kind_of r)) a =
    c.emit.ensures ∙ ap (λ k. says (event.Protocol k) a) (c.kind.ensures ∙ ap kind_of c.into_request.ensures) in
    let f : IsFurther r = subst IsFurther c.into_request.ensures (further_of_not c.into_request.result c.in_default.not-Ask) in
    record {
      sound = subst IsSound (sym e) (says_sound (event.Protocol (kind_of r)) a c.requires.sound c.requires.idle c.requires.room);
      does = subst (λ (z : Automaton). Does (λ p. fits (spec_seen (view_of a)) p.state r p) (view_of a) (view_of z)) (sym e) (other_does a r c.requires.idle f);
    }
