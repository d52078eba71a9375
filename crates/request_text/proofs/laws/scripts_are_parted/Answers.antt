use Rattle.request_text.proofs.LinePlaces.{parted}
use Rattle.request_text.proofs.laws.scripts_are_parted.Goals as goal

pub returns : goal.returns
returns c = parted
