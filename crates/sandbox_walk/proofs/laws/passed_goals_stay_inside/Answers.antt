use Rattle.sandbox_walk.proofs.Sound.{stay_inside}
use Rattle.sandbox_walk.proofs.laws.passed_goals_stay_inside.Goals as goal

pub returns : goal.returns
returns c = stay_inside
