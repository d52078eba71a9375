use Rattle.session.proofs.Numbers
use Rattle.session.proofs.laws.lost_turns_are_older.Goals as goal

pub returns : goal.returns
returns c = Numbers.lost_turns_are_older
