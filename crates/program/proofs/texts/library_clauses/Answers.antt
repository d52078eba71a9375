use Rattle.std.proofs.Common.{false}
use Rattle.program.proofs.TextLemmas.{clauses_more}
use Rattle.program.proofs.texts.library_clauses.Goals as goal

pub loop-i-preserved : goal.loop-i-preserved
loop-i-preserved c =
    clauses_more c.args.terms.now c.loop-i.i c.index-terms-i.result c.loop-i-test.true false c.loop-i.clauses _ _ c.loop-i.invariant c.in_ok-entry.ensures c.in_ok-clauses.ensures
