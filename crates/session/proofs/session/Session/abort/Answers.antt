use Rattle.session.specs.Kept.{view_of}
use Rattle.session.proofs.Recording.{aborts, goes_on}
use Rattle.session.proofs.session.Session.abort.Goals as goal

pub invariant_of-self : goal.invariant_of-self
invariant_of-self c = (c.abort.ensures.sound, goes_on (aborts (view_of c.self.inside.automaton) (view_of c.abort.new.self) c.abort.ensures.does) c.self.invariant.1)

pub returns : goal.returns
returns c = rw (← c.self.view_is) (aborts (view_of c.self.inside.automaton) (view_of c.abort.new.self) c.abort.ensures.does)
