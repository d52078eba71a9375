use Rattle.session.specs.Kept.{view_of}
use Rattle.session.proofs.Recording.{starts_well, take_back, take_goes_on}
use Rattle.session.proofs.session.Session.take.Goals as goal

pub take-requires-clause-starts : goal.take-requires-clause-starts
take-requires-clause-starts c = λ q e. starts_well (view_of c.self.inside.automaton) c.self.invariant.1 q e

pub invariant_of-self : goal.invariant_of-self
invariant_of-self c = (c.take.ensures.sound, take_goes_on c.self.inside.automaton c.take.new.self c.take.result c.take.ensures.answer c.take.ensures.taken c.take.ensures.none c.self.invariant.1)

pub returns-clause-taken : goal.returns-clause-taken
returns-clause-taken c = rw (← c.self.view_is) (λ t e. take_back c.self.inside.automaton c.take.new.self c.take.result c.take.ensures.answer c.take.ensures.taken c.self.invariant.1 t e)
