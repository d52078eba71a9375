use Rattle.event_core.proofs.Growing
use Rattle.event_core.proofs.laws.events_only_grow.Goals as goal

pub returns : goal.returns
returns c = Growing.full_grows
