use Rattle.library_check.proofs.Rows.{known_helper, known_called}
use Rattle.library_check.proofs.tables.is_known.Goals as goal

pub returns-then-is_some : goal.returns-then-is_some
returns-then-is_some c = known_helper c.args.pi.now c.helper.result c.helper.ensures c.is_some.result c.is_some.ensures c.if-is_some.true

pub returns-else-is_some : goal.returns-else-is_some
returns-else-is_some c = known_called c.args.pi.now c.helper.result c.helper.ensures c.is_some.result c.is_among.result c.is_some.ensures c.if-is_some.false c.is_among.ensures
