use Rattle.solve_model.specs.Goals.{three_rows, row_of_three}
use Rattle.solve_model.proofs.RowLemmas.{all_three, not_named}
use Rattle.solve_model.proofs.goals.row_of_three.Goals as goal

pub returns-in_ok-goal-in-catch : goal.returns-in_ok-goal-in-catch
unfolding row_of_three
returns-in_ok-goal-in-catch c = λ a b d e.
    let found = c.in_ok-goal-in-catch in
    let same = all_three c.args.goal.now c.args.name.now a b d found.goal found.catching found.recovery e found.ensures in
    rw (c.in-catch.is, same.0, same.1, same.2)

pub returns-in_ok-template-in-findall : goal.returns-in_ok-template-in-findall
unfolding row_of_three
returns-in_ok-template-in-findall c = λ a b d e.
    let found = c.in_ok-template-in-findall in
    let same = all_three c.args.goal.now c.args.name.now a b d found.template found.goal found.list e found.ensures in
    rw (c.in-findall.is, same.0, same.1, same.2)

pub returns-in_ok-template-in-bagof : goal.returns-in_ok-template-in-bagof
unfolding row_of_three
returns-in_ok-template-in-bagof c = λ a b d e.
    let found = c.in_ok-template-in-bagof in
    let same = all_three c.args.goal.now c.args.name.now a b d found.template found.goal found.list e found.ensures in
    rw (c.in-bagof.is, same.0, same.1, same.2)

pub returns-in_ok-template-in-setof : goal.returns-in_ok-template-in-setof
unfolding row_of_three
returns-in_ok-template-in-setof c = λ a b d e.
    let found = c.in_ok-template-in-setof in
    let same = all_three c.args.goal.now c.args.name.now a b d found.template found.goal found.list e found.ensures in
    rw (c.in-setof.is, same.0, same.1, same.2)

pub returns-in_default : goal.returns-in_default
unfolding row_of_three
returns-in_default c = λ a b d e. rw e (not_named c.args.name.now (three_rows a b d) _ (c.in_default.not-catch, (c.in_default.not-findall, (c.in_default.not-bagof, (c.in_default.not-setof, tt)))))
