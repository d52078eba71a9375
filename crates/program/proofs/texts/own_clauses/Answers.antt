use Rattle.std.proofs.Common.{true, arith}
use Rattle.std.proofs.lemmas.Result.{err_from_is_err_and}
use Rattle.program.proofs.TextLemmas.{clauses_more, faults_more, fault_here, none_left}
use Rattle.program.proofs.texts.own_clauses.Goals as goal

pub returns-in_err-entry-clause-refused : goal.returns-in_err-entry-clause-refused
returns-in_err-entry-clause-refused c =
    let p = err_from_is_err_and c.from_residual-in_err-entry.result c.from_residual-in_err-entry.ensures.1 in
    rw (p.1, p.2)
    (fault_here c.args.terms.now c.loop-i.i c.index-terms-i.result c.loop-i-test.true c.args.reserved.now _ c.in_err-entry.field-0.0 c.loop-i.invariant.accepted c.in_err-entry.ensures.refused)

pub loop-i-preserved : goal.loop-i-preserved
loop-i-preserved c = record {
  clauses = clauses_more c.args.terms.now c.loop-i.i c.index-terms-i.result c.loop-i-test.true true c.loop-i.clauses _ _ c.loop-i.invariant.clauses c.in_ok-entry.ensures.entry c.in_ok-clauses.ensures;
  accepted = faults_more c.args.terms.now c.loop-i.i c.index-terms-i.result c.loop-i-test.true c.args.reserved.now _ c.in_ok-entry.ensures.accepted c.loop-i.invariant.accepted;
}

pub returns-clause-accepted : goal.returns-clause-accepted
returns-clause-accepted c =
    none_left c.args.terms.now c.loop-i.i c.args.reserved.now _ (omega (arith, c.loop-i-test.false)) c.loop-i.invariant.accepted
