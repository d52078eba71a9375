use Rattle.event_core.proofs.Chunks
use Rattle.event_core.proofs.laws.chunks_dont_matter.Goals as goal

pub returns : goal.returns
returns c = Chunks.chunks_dont_matter
