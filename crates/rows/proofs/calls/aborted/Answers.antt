use Rattle.std.specs.Prelude.{refl}
use Rattle.session.specs.After.{Abort}
use Rattle.session.proofs.Recording.{still_taken}
use Rattle.rows.proofs.calls.aborted.Goals as goal

pub returns : goal.returns
returns c = still_taken Abort refl c.abort.ensures c.requires
