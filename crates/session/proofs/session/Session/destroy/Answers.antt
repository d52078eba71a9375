use Rattle.session.proofs.session.Session.destroy.Goals as goal
use Rattle.session.proofs.Seen.{destroyed}
use Rattle.std.proofs.Common.{◌∙◌, sym}

pub returns-clause-destroyed : goal.returns-clause-destroyed
returns-clause-destroyed c = rw (← c.self.view_is) (λ p h. destroyed c.self.inside.automaton p h ∙ sym c.destroy.ensures.events)
