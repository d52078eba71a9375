use Rattle.library_check.proofs.Rows.{helper_runs}
use Rattle.library_check.proofs.tables.runs_goals.Goals as goal

pub returns-else-is_of_library : goal.returns-else-is_of_library
returns-else-is_of_library c =
    helper_runs c.args.pi.now c.helper.result c.helper.ensures c.args.table.now c.is_of_library.result c.is_some.result c.is_of_library.ensures c.if-is_of_library.false c.is_some.ensures
