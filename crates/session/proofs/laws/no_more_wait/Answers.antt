use Rattle.session.proofs.Room
use Rattle.session.proofs.laws.no_more_wait.Goals as goal

pub returns : goal.returns
returns c = Room.no_more_wait
