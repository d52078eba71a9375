use Rattle.event_core.proofs.Refusing
use Rattle.event_core.proofs.laws.asked_goals_stay_inside.Goals as goal

pub returns : goal.returns
returns c = Refusing.asked_stay_inside
