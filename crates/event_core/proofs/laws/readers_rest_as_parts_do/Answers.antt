use Rattle.event_core.proofs.Readers
use Rattle.event_core.proofs.laws.readers_rest_as_parts_do.Goals as goal

pub returns : goal.returns
returns c = Readers.rests_as_the_part
