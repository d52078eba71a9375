use Rattle.event_core.proofs.Rising
use Rattle.event_core.proofs.laws.steps_never_fall.Goals as goal

pub returns : goal.returns
returns c = Rising.steps_never_fall
