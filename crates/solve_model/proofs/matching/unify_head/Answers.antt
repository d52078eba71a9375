use Rattle.std.proofs.Common.{arith, sym}
use Rattle.term_core.specs.Variables.{occurrences}
use Rattle.solve_model.proofs.RowLemmas.{greatest_le}
use Rattle.solve_model.proofs.matching.unify_head.Goals as goal

pub rename-requires : goal.rename-requires
rename-requires c =
    omega (arith, greatest_le (occurrences c.args.clause.now.head), c.args.clause.now.head_below)

pub returns-then-first_arguments_clash : goal.returns-then-first_arguments_clash
returns-then-first_arguments_clash c =
    sym (c.first_arguments_clash.ensures c.if-first_arguments_clash.true c.args.place.now.next c.args.place.now.subst)
