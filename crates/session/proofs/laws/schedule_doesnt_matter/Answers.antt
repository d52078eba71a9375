use Rattle.session.proofs.Resolution
use Rattle.session.proofs.laws.schedule_doesnt_matter.Goals as goal

pub returns : goal.returns
returns c = Resolution.schedule_doesnt_matter
