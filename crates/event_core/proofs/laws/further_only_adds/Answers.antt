use Rattle.event_core.proofs.Parts
use Rattle.event_core.proofs.laws.further_only_adds.Goals as goal

pub returns : goal.returns
returns c = Parts.further_only_adds
