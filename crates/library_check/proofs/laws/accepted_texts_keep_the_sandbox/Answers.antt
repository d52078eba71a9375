use Rattle.library_check.proofs.Loading.{own_keep}
use Rattle.library_check.proofs.laws.accepted_texts_keep_the_sandbox.Goals as goal

pub returns : goal.returns
returns c = own_keep
