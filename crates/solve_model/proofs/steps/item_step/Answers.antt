use Rattle.solve_model.specs.Run.{item_step}
use Rattle.solve_model.specs.Trace.{world_of}
use Rattle.solve_model.proofs.steps.item_step.Goals as goal

pub returns-in_ok-now-in-Goal : goal.returns-in_ok-now-in-Goal
unfolding item_step
returns-in_ok-now-in-Goal c = λ ts limit u. rw c.in-Goal.is (c.in_ok-now-in-Goal.ensures ts limit u)

pub returns-in_ok-now-in-Commit : goal.returns-in_ok-now-in-Commit
unfolding item_step
returns-in_ok-now-in-Commit c = λ ts limit u.
    rw c.in-Commit.is (c.in_ok-now-in-Commit.ensures (world_of c.args.program.now ts limit) u)

pub returns-in-ExitCatch : goal.returns-in-ExitCatch
unfolding item_step
returns-in-ExitCatch c = λ ts limit u. rw c.in-ExitCatch.is
