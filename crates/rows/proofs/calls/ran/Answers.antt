use Rattle.session.proofs.Recording.{gone_taken}
use Rattle.rows.proofs.calls.ran.Goals as goal

pub returns-clause-taken : goal.returns-clause-taken
returns-clause-taken c = gone_taken c.go.ensures.after_is c.requires.taken
