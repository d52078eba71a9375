use Rattle.solve_model.proofs.Dropped.{condition_settled}
use Rattle.solve_model.proofs.frames.settled.Goals as goal

pub returns-in-Condition : goal.returns-in-Condition
returns-in-Condition c = λ w r.
    rw c.in-Condition.is (condition_settled w c.args.level c.in-Condition.branch c.in-Condition.field-1 r c.if-frame-level.true)
