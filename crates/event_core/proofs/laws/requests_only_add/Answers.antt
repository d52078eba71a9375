use Rattle.event_core.proofs.Longer
use Rattle.event_core.proofs.laws.requests_only_add.Goals as goal

pub returns : goal.returns
returns c = Longer.requests_only_add
