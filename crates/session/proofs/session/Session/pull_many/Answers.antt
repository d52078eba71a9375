use Rattle.session.proofs.Recording.{pulled_some, goes_on}
use Rattle.session.proofs.session.Session.pull_many.Goals as goal

pub invariant_of-self-in-Some : goal.invariant_of-self-in-Some
invariant_of-self-in-Some c = (
  c.in_ok-waiting.ensures.sound,
  goes_on (pulled_some c.self.inside.automaton c.pull_many.new.self c.args.max c.requires.some (rw c.in-Some.is at c.in_ok-waiting.ensures.some).2 (rw c.in-Some.is at c.in_ok-waiting.ensures.does)) c.self.invariant.1,
)

pub returns-in-Some-clause-pulled : goal.returns-in-Some-clause-pulled
returns-in-Some-clause-pulled c = rw (← c.self.view_is) (λ n. pulled_some c.self.inside.automaton c.pull_many.new.self c.args.max c.requires.some n (rw c.in-Some.is at c.in_ok-waiting.ensures.does))
