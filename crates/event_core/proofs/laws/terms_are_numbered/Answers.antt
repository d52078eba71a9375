use Rattle.event_core.proofs.Terms
use Rattle.event_core.proofs.laws.terms_are_numbered.Goals as goal

pub returns : goal.returns
returns c = Terms.terms_are_numbered
