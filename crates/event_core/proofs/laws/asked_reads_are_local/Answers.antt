use Rattle.event_core.proofs.Hearing
use Rattle.event_core.proofs.laws.asked_reads_are_local.Goals as goal

pub returns : goal.returns
returns c = Hearing.asked_reads_are_local
