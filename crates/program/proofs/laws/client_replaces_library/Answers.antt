use Rattle.program.proofs.ProgramLemmas.{replaced}
use Rattle.program.proofs.laws.client_replaces_library.Goals as goal

pub returns : goal.returns
returns c = replaced
