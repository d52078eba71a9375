use Rattle.solve_model.proofs.RunLaws
use Rattle.solve_model.proofs.laws.more_only_adds.Goals as goal

pub returns : goal.returns
returns c = RunLaws.more_only_adds
