use Rattle.solve_model.proofs.RunLaws
use Rattle.solve_model.proofs.laws.marks_stand.Goals as goal

pub returns : goal.returns
returns c = RunLaws.marks_stand
