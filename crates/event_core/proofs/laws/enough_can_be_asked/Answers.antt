use Rattle.event_core.proofs.Chunks
use Rattle.event_core.proofs.laws.enough_can_be_asked.Goals as goal

pub returns : goal.returns
returns c = Chunks.enough_can_be_asked
