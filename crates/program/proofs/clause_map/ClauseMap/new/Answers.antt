use Rattle.program.proofs.Keeping.{nothing_kept}
use Rattle.program.proofs.clause_map.ClauseMap.new.Goals as goal

pub invariant_of-result : goal.invariant_of-result
invariant_of-result c = rw c.new-2.ensures.items (nothing_kept c.new.result c.new.ensures.empty)
