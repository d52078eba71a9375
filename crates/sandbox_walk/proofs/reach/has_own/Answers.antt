use Rattle.std.proofs.Common.{ap, sym, ◌∙◌}
use Rattle.program.specs.declared.clause.Clause as kept
use Rattle.program.specs.Clauses.{Clause}
use Rattle.program.specs.Kept.{clause_of}
use Rattle.sandbox_walk.proofs.Collecting.{any_at}
use Rattle.sandbox_walk.proofs.reach.has_own.Goals as goal

pub returns-then-clause : goal.returns-then-clause
returns-then-clause c =
    any_at (λ (x : Clause). x.own) clause_of c.args.clauses.now c.loop-clause.clause-index c.clause-item.result c.loop-clause-test.true
    (ap (λ (x : kept.Clause). x.own) (sym c.clause-item.is) ∙ c.if-clause.true)
