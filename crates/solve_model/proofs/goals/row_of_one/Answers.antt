use Rattle.solve_model.specs.Goals.{one_rows, row_of_one}
use Rattle.solve_model.proofs.RowLemmas.{only_argument, not_named}
use Rattle.solve_model.proofs.goals.row_of_one.Goals as goal

pub returns-in_ok-succeeds-in-text : goal.returns-in_ok-succeeds-in-text
unfolding row_of_one
returns-in_ok-succeeds-in-text c = λ a e.
    rw (c.in-text.is, only_argument c.args.goal.now c.args.name.now a _ e c.in_ok-condition-in-text.ensures, c.in_ok-fails-in-text.ensures, c.in_ok-succeeds-in-text.ensures)

pub returns-in_ok-fails-in-once : goal.returns-in_ok-fails-in-once
unfolding row_of_one
returns-in_ok-fails-in-once c = λ a e.
    rw (c.in-once.is, only_argument c.args.goal.now c.args.name.now a _ e c.in_ok-condition-in-once.ensures, c.in_ok-succeeds-in-once.ensures, c.in_ok-fails-in-once.ensures)

pub returns-in_ok-succeeds-in-ignore-2 : goal.returns-in_ok-succeeds-in-ignore-2
unfolding row_of_one
returns-in_ok-succeeds-in-ignore-2 c = λ a e.
    rw (c.in-ignore.is, only_argument c.args.goal.now c.args.name.now a _ e c.in_ok-condition-in-ignore.ensures, c.in_ok-succeeds-in-ignore.ensures, c.in_ok-succeeds-in-ignore-2.ensures)

pub returns-in_ok-one_argument-in-throw : goal.returns-in_ok-one_argument-in-throw
unfolding row_of_one
returns-in_ok-one_argument-in-throw c = λ a e.
    rw (c.in-throw.is, only_argument c.args.goal.now c.args.name.now a _ e c.in_ok-one_argument-in-throw.ensures)

pub returns-in_ok-one_argument-in-pengine_output : goal.returns-in_ok-one_argument-in-pengine_output
unfolding row_of_one
returns-in_ok-one_argument-in-pengine_output c = λ a e.
    rw (c.in-pengine_output.is, only_argument c.args.goal.now c.args.name.now a _ e c.in_ok-one_argument-in-pengine_output.ensures)

pub returns-in_default : goal.returns-in_default
unfolding row_of_one
returns-in_default c = λ a e.
    rw e (not_named c.args.name.now (one_rows a) _ (c.in_default.not-text, (c.in_default.not-once, (c.in_default.not-ignore, (c.in_default.not-throw, (c.in_default.not-pengine_output, tt))))))
