use Rattle.event_core.proofs.Longer
use Rattle.event_core.proofs.laws.steps_only_add.Goals as goal

pub returns : goal.returns
returns c = Longer.steps_only_add
