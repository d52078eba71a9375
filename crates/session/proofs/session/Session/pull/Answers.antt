use Rattle.session.proofs.Recording.{pulled_one, goes_on}
use Rattle.session.proofs.session.Session.pull.Goals as goal

pub invariant_of-self : goal.invariant_of-self
invariant_of-self c = (c.pull.ensures.sound, goes_on (pulled_one c.self.inside.automaton c.pull.new.self c.in-Some.event c.in-Some.ensures.some.1.0 c.in-Some.ensures.some.1.1 c.in-Some.ensures.does) c.self.invariant.1)

pub returns-in-Some-clause-pulled : goal.returns-in-Some-clause-pulled
returns-in-Some-clause-pulled c = rw (← c.self.view_is) (λ n. pulled_one c.self.inside.automaton c.pull.new.self c.in-Some.event c.in-Some.ensures.some.1.0 c.in-Some.ensures.some.1.1 c.in-Some.ensures.does)
