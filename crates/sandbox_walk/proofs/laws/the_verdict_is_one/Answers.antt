use Rattle.sandbox_walk.proofs.Rounds.{is_one}
use Rattle.sandbox_walk.proofs.laws.the_verdict_is_one.Goals as goal

pub returns : goal.returns
returns c = is_one
