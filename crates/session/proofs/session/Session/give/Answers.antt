use Rattle.session.specs.Kept.{view_of}
use Rattle.session.proofs.Recording.{turn_of, give_back, given_goes_on}
use Rattle.session.proofs.session.Session.give.Goals as goal

pub give-requires-clause-turn : goal.give-requires-clause-turn
give-requires-clause-turn c = rw c.self.view_is (turn_of c.args.self.now c.args.turn c.requires.taken c.requires.gone)

pub invariant_of-self : goal.invariant_of-self
invariant_of-self c = (
  c.give.ensures.sound,
  given_goes_on (give_back (view_of c.self.inside.automaton) (view_of c.give.new.self) c.args.turn c.requires.gone.0 c.give.result (rw c.self.view_is c.requires.taken) c.give.ensures.answer (λ k. c.give.ensures.kept c.requires.gone.0 k c.requires.gone.1) (λ d. c.give.ensures.dropped c.requires.gone.0 d c.requires.gone.1))
      (rw c.self.view_is c.requires.taken) c.self.invariant.1,
)

pub returns-clause-back : goal.returns-clause-back
returns-clause-back c = λ g e. rw (← c.self.view_is) (give_back (view_of c.self.inside.automaton) (view_of c.give.new.self) c.args.turn g c.give.result (rw c.self.view_is c.requires.taken) c.give.ensures.answer (λ k. c.give.ensures.kept g k e) (λ d. c.give.ensures.dropped g d e))
