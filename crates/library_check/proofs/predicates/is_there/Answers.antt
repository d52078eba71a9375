use Rattle.library_check.proofs.There.{is_there_by}
use Rattle.library_check.proofs.predicates.is_there.Goals as goal

pub returns : goal.returns
returns c = is_there_by c.args.program.now.clauses c.args.pi.now c.clauses.result.now c.is_empty.result c.clauses.ensures c.is_empty.ensures
