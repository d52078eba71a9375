use Rattle.program.specs.Kept.{clause_of}
use Rattle.sandbox_walk.specs.Verdict.{in_clause, reads}
use Rattle.sandbox_walk.specs.Seen.{has}
use Rattle.sandbox_walk.proofs.Collecting.{read_on}
use Rattle.sandbox_walk.proofs.texts.all_shown.Goals as goal

pub loop-clause-preserved : goal.loop-clause-preserved
loop-clause-preserved c =
    read_on (in_clause c.args.table.now) (λ x. clause_of x.now) c.deref-clause-items.result.now c.loop-clause.clause-index c.clause-item.result c.loop-clause-test.true (reads c.args.table.now c.args.program.now.clauses (has c.args.reached.now)) _ c.loop-clause.all.items c.read.new.all.items
    c.loop-clause.invariant c.clause-item.is c.in_ok-read.ensures
