use Rattle.std.proofs.Common.{◌≡◌, ◌∙◌, ap, sym, subst, arith}
use Rattle.event_core.specs.declared.event.Event.TheVariants as event
use Rattle.event_core.specs.declared.request.Request.{Request}
use Rattle.event_core.specs.declared.fit.Fit.TheVariants.{Misfit}
use Rattle.event_core.specs.Requests.{kind_of, fit}
use Rattle.session.specs.After.{fits}
use Rattle.session.specs.declared.automaton.Automaton.{Automaton}
use Rattle.session.specs.Views.{Does, spec_seen}
use Rattle.session.specs.Kept.{query_of, view_of, resting, rests, IsSound, says, closed}
use Rattle.session.proofs.Seen.{different, said_room, closed_sound, says_fair, rests_sound, stops_does, misfit_does, misfit_of}
use Rattle.session.proofs.automaton.Automaton.consume_resting.Goals as goal

pub returns-then-stops-clause-sound : goal.returns-then-stops-clause-sound
returns-then-stops-clause-sound c =
    let a : Automaton = c.args.self.now in
    let e : c.end.new.self ≡ closed a.settings.destroys (says event.Stop a) = c.end.ensures ∙ ap (λ (z : Automaton). closed z.settings.destroys z) c.emit.ensures in
    subst IsSound (sym e) (closed_sound a.settings.destroys (says event.Stop a) (says_fair event.Stop a c.requires.sound (omega (arith, c.requires.room))))

pub returns-then-stops-clause-does : goal.returns-then-stops-clause-does
returns-then-stops-clause-does c =
    let a : Automaton = c.args.self.now in
    let e : c.end.new.self ≡ closed a.settings.destroys (says event.Stop a) = c.end.ensures ∙ ap (λ (z : Automaton). closed z.settings.destroys z) c.emit.ensures in
    subst (λ (z : Automaton). Does (λ p. fits (spec_seen (view_of a)) p.state c.args.letter.node p) (record (view_of a) { look = resting c.args.rest (query_of c.args.query) }) (view_of z)) (sym e)
    (stops_does a c.args.rest c.args.query c.args.letter.node c.requires.rests (c.stops.ensures.0 c.if-stops.true))

pub returns-else-stops-clause-sound : goal.returns-else-stops-clause-sound
returns-else-stops-clause-sound c =
    let a : Automaton = c.args.self.now in
    let e : c.rest.new.self ≡ record (says (event.Protocol c.kind.result) a) { state = rests c.args.rest c.args.query } = c.rest.ensures ∙ ap (λ (z : Automaton). record z { state = rests c.args.rest c.args.query }) c.emit-else-stops.ensures in
    subst IsSound (sym e) (rests_sound c.args.rest c.args.query (says (event.Protocol c.kind.result) a) (says_fair (event.Protocol c.kind.result) a c.requires.sound (omega (arith, c.requires.room)))
    (said_room a (event.Protocol c.kind.result) c.requires.room) (omega (arith, c.requires.counted)) c.requires.program)

pub returns-else-stops-clause-does : goal.returns-else-stops-clause-does
returns-else-stops-clause-does c =
    let a : Automaton = c.args.self.now in
    let r : Request = c.args.letter.node in
    let e : c.rest.new.self ≡ record (says (event.Protocol (kind_of r)) a) { state = rests c.args.rest c.args.query } =
    c.rest.ensures ∙ ap (λ (z : Automaton). record z { state = rests c.args.rest c.args.query }) (c.emit-else-stops.ensures ∙ ap (λ k. says (event.Protocol k) a) c.kind.ensures) in
    let m : fit c.args.rest r ≡ Misfit = misfit_of (fit c.args.rest r) (λ g. different c.goes_on.result c.if-goes_on.false (c.goes_on.ensures.1 g)) (λ g. different c.stops.result c.if-stops.false (c.stops.ensures.1 g)) in
    subst (λ (z : Automaton). Does (λ p. fits (spec_seen (view_of a)) p.state r p) (record (view_of a) { look = resting c.args.rest (query_of c.args.query) }) (view_of z)) (sym e)
    (misfit_does a c.args.rest c.args.query r c.requires.rests m)
