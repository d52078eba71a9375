use Rattle.std.proofs.Common.{arith}
use Rattle.term_core.specs.Variables.{occurrences}
use Rattle.solve_model.proofs.RowLemmas.{greatest_le}
use Rattle.solve_model.proofs.catches.caught_by.Goals as goal

pub rename-requires : goal.rename-requires
rename-requires c = omega (arith, greatest_le (occurrences c.args.ball.now), c.in_ok-fresh.ensures.ok)
