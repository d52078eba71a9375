use Rattle.std.proofs.Common.{List, ◌∷◌, ap, sym, ◌∙◌}
use Rattle.solve_model.specs.Run.{Item, Goal, goal_step}
use Rattle.solve_model.specs.Rows.{row_as}
use Rattle.solve_model.specs.Search.{place_of, resumed}
use Rattle.solve_model.specs.Trace.{world_of}
use Rattle.solve_model.proofs.Choosing.{same_run}
use Rattle.solve_model.proofs.steps.goal_step.Goals as goal

pub returns-in-Succeeds : goal.returns-in-Succeeds
unfolding goal_step
returns-in-Succeeds c = λ ts limit u. rw (sym c.in_ok-row_in.ensures ∙ ap (row_as c.args.goal.term) c.in-Succeeds.is)

pub returns-in-Fails : goal.returns-in-Fails
unfolding goal_step
returns-in-Fails c = λ ts limit u. rw (sym c.in_ok-row_in.ensures ∙ ap (row_as c.args.goal.term) c.in-Fails.is)

pub returns-in_ok-branch-in-Both : goal.returns-in_ok-branch-in-Both
unfolding goal_step
returns-in_ok-branch-in-Both c = λ ts limit u.
    rw (sym c.in_ok-row_in.ensures ∙ ap (row_as c.args.goal.term) c.in-Both.is)
    (ap (resumed (world_of c.args.program.now ts limit) c.args.stack.now.frames.items)
    (same_run (world_of c.args.program.now ts limit) _ _ _ _ c.args.more u
    (c.in_ok-branch-in-Both.ensures.items ∙ ap (λ (is : List Item). Goal c.in-Both.first c.args.goal.scope.level c.args.goal.scope.more ∷ is) c.in_ok-rest-in-Both.ensures.items)
    (ap place_of (c.in_ok-branch-in-Both.ensures.place ∙ c.in_ok-rest-in-Both.ensures.place))))

pub returns-in_ok-now-in-Cuts : goal.returns-in_ok-now-in-Cuts
unfolding goal_step
returns-in_ok-now-in-Cuts c = λ ts limit u.
    rw (sym c.in_ok-row_in.ensures ∙ ap (row_as c.args.goal.term) c.in-Cuts.is)
    (c.in_ok-now-in-Cuts.ensures (world_of c.args.program.now ts limit) u)

pub returns-in_ok-now-in-Either : goal.returns-in_ok-now-in-Either
unfolding goal_step
returns-in_ok-now-in-Either c = λ ts limit u.
    rw (sym c.in_ok-row_in.ensures ∙ ap (row_as c.args.goal.term) c.in-Either.is)
    (c.in_ok-now-in-Either.ensures (world_of c.args.program.now ts limit) u)

pub returns-in_ok-now-in-IfElse : goal.returns-in_ok-now-in-IfElse
unfolding goal_step
returns-in_ok-now-in-IfElse c = λ ts limit u.
    rw (sym c.in_ok-row_in.ensures ∙ ap (row_as c.args.goal.term) c.in-IfElse.is)
    (c.in_ok-now-in-IfElse.ensures (world_of c.args.program.now ts limit) u)

pub returns-in_ok-now-in-Test : goal.returns-in_ok-now-in-Test
unfolding goal_step
returns-in_ok-now-in-Test c = λ ts limit u.
    rw (sym c.in_ok-row_in.ensures ∙ ap (row_as c.args.goal.term) c.in-Test.is)
    (c.in_ok-now-in-Test.ensures (world_of c.args.program.now ts limit) u)

pub returns-in_ok-now-in-Differ : goal.returns-in_ok-now-in-Differ
unfolding goal_step
returns-in_ok-now-in-Differ c = λ ts limit u.
    rw (sym c.in_ok-row_in.ensures ∙ ap (row_as c.args.goal.term) c.in-Differ.is)
    (c.in_ok-now-in-Differ.ensures (world_of c.args.program.now ts limit) u)

pub returns-in_ok-now-in-Catch : goal.returns-in_ok-now-in-Catch
unfolding goal_step
returns-in_ok-now-in-Catch c = λ ts limit u.
    rw (sym c.in_ok-row_in.ensures ∙ ap (row_as c.args.goal.term) c.in-Catch.is)
    (c.in_ok-now-in-Catch.ensures (world_of c.args.program.now ts limit) u)

pub returns-in_ok-now-in-Throw : goal.returns-in_ok-now-in-Throw
unfolding goal_step
returns-in_ok-now-in-Throw c = λ ts limit u.
    rw (sym c.in_ok-row_in.ensures ∙ ap (row_as c.args.goal.term) c.in-Throw.is)
    (c.in_ok-now-in-Throw.ensures (world_of c.args.program.now ts limit) u)

pub returns-in_ok-now-in-FindAll : goal.returns-in_ok-now-in-FindAll
unfolding goal_step
returns-in_ok-now-in-FindAll c = λ ts limit u.
    rw (sym c.in_ok-row_in.ensures ∙ ap (row_as c.args.goal.term) c.in-FindAll.is)
    (c.in_ok-now-in-FindAll.ensures (world_of c.args.program.now ts limit) u)

pub returns-in_ok-now-in-BagOf : goal.returns-in_ok-now-in-BagOf
unfolding goal_step
returns-in_ok-now-in-BagOf c = λ ts limit u.
    rw (sym c.in_ok-row_in.ensures ∙ ap (row_as c.args.goal.term) c.in-BagOf.is)
    (c.in_ok-now-in-BagOf.ensures (world_of c.args.program.now ts limit) u)

pub returns-in_ok-now-in-SetOf : goal.returns-in_ok-now-in-SetOf
unfolding goal_step
returns-in_ok-now-in-SetOf c = λ ts limit u.
    rw (sym c.in_ok-row_in.ensures ∙ ap (row_as c.args.goal.term) c.in-SetOf.is)
    (c.in_ok-now-in-SetOf.ensures (world_of c.args.program.now ts limit) u)

pub returns-in_ok-now-in-Call : goal.returns-in_ok-now-in-Call
unfolding goal_step
returns-in_ok-now-in-Call c = λ ts limit u.
    rw (sym c.in_ok-row_in.ensures ∙ ap (row_as c.args.goal.term) c.in-Call.is, sym c.deref.ensures.value)
    (c.in_ok-now-in-Call.ensures (world_of c.args.program.now ts limit) u)

pub returns-in_ok-now-in-Predicate : goal.returns-in_ok-now-in-Predicate
unfolding goal_step
returns-in_ok-now-in-Predicate c = λ ts limit u.
    rw (sym c.in_ok-row_in.ensures ∙ ap (row_as c.args.goal.term) c.in-Predicate.is)
    (c.in_ok-now-in-Predicate.ensures ts limit u)

pub returns-in_ok-now-in-Output : goal.returns-in_ok-now-in-Output
unfolding goal_step
returns-in_ok-now-in-Output c = λ ts limit u.
    rw (sym c.in_ok-row_in.ensures ∙ ap (row_as c.args.goal.term) c.in-Output.is)
    (c.in_ok-now-in-Output.ensures (world_of c.args.program.now ts limit) u)

pub returns-in_ok-now-in-Input : goal.returns-in_ok-now-in-Input
unfolding goal_step
returns-in_ok-now-in-Input c = λ ts limit u.
    rw (sym c.in_ok-row_in.ensures ∙ ap (row_as c.args.goal.term) c.in-Input.is)
    (c.in_ok-now-in-Input.ensures (world_of c.args.program.now ts limit) u)
