use Rattle.session.proofs.Showing
use Rattle.session.proofs.laws.answers_are_the_pengines.Goals as goal

pub returns : goal.returns
returns c = Showing.answers_are_the_pengines
