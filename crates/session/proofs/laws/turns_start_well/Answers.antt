use Rattle.session.proofs.Sandboxed
use Rattle.session.proofs.laws.turns_start_well.Goals as goal

pub returns : goal.returns
returns c = Sandboxed.turns_start_well
