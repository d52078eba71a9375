use Rattle.session.proofs.Sandboxed
use Rattle.session.proofs.laws.kept_programs_resolve.Goals as goal

pub returns : goal.returns
returns c = Sandboxed.kept_programs_resolve
