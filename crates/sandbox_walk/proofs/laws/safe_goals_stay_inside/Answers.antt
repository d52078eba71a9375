use Rattle.sandbox_walk.proofs.Sound.{safe_stay_inside}
use Rattle.sandbox_walk.proofs.laws.safe_goals_stay_inside.Goals as goal

pub returns : goal.returns
returns c = safe_stay_inside
