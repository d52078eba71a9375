use Rattle.library_check.proofs.Loading.{loaded_texts_keep}
use Rattle.library_check.proofs.laws.loaded_texts_keep_the_sandbox.Goals as goal

pub returns : goal.returns
returns c = loaded_texts_keep
