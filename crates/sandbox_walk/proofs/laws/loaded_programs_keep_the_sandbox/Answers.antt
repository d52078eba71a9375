use Rattle.sandbox_walk.proofs.Loading.{loaded_keep}
use Rattle.sandbox_walk.proofs.laws.loaded_programs_keep_the_sandbox.Goals as goal

pub returns : goal.returns
returns c = loaded_keep
