use Rattle.solve_model.specs.Goals.{two_rows, row_of_two}
use Rattle.solve_model.proofs.RowLemmas.{both_arguments, not_named}
use Rattle.solve_model.proofs.goals.row_of_two.Goals as goal

pub returns-in_ok-first-in-text : goal.returns-in_ok-first-in-text
unfolding row_of_two
returns-in_ok-first-in-text c = λ a b e.
    let same = both_arguments c.args.goal.now c.args.name.now a b c.in_ok-first-in-text.first c.in_ok-first-in-text.second e c.in_ok-first-in-text.ensures in
    rw (c.in-text.is, same.0, same.1)

pub returns-in_ok-row-in-text-2 : goal.returns-in_ok-row-in-text-2
unfolding row_of_two
returns-in_ok-row-in-text-2 c = λ a b e.
    let same = both_arguments c.args.goal.now c.args.name.now a b c.in_ok-first-in-text-2.first c.in_ok-first-in-text-2.second e c.in_ok-first-in-text-2.ensures in
    rw (c.in-text-2.is, c.in_ok-row-in-text-2.ensures c.args.goal.now, same.0, same.1)

pub returns-in_ok-fails-in-text-3 : goal.returns-in_ok-fails-in-text-3
unfolding row_of_two
returns-in_ok-fails-in-text-3 c = λ a b e.
    let same = both_arguments c.args.goal.now c.args.name.now a b c.in_ok-condition-in-text-3.condition c.in_ok-condition-in-text-3.then e c.in_ok-condition-in-text-3.ensures in
    rw (c.in-text-3.is, c.in_ok-fails-in-text-3.ensures, same.0, same.1)

pub returns-in_ok-first-in-text-4 : goal.returns-in_ok-first-in-text-4
unfolding row_of_two
returns-in_ok-first-in-text-4 c = λ a b e.
    let same = both_arguments c.args.goal.now c.args.name.now a b c.in_ok-first-in-text-4.first c.in_ok-first-in-text-4.second e c.in_ok-first-in-text-4.ensures in
    rw (c.in-text-4.is, same.0, same.1)

pub returns-in_ok-succeeds-in-forall : goal.returns-in_ok-succeeds-in-forall
unfolding row_of_two
returns-in_ok-succeeds-in-forall c = λ a b e.
    let same = both_arguments c.args.goal.now c.args.name.now a b c.in_ok-condition-in-forall.condition c.in_ok-condition-in-forall.action e c.in_ok-condition-in-forall.ensures in
    rw (c.in-forall.is, c.in_ok-condition-in-forall-2.ensures, c.in_ok-fails-in-forall.ensures, c.in_ok-succeeds-in-forall.ensures, same.0, same.1)

pub returns-in_ok-prompt-in-pengine_input : goal.returns-in_ok-prompt-in-pengine_input
unfolding row_of_two
returns-in_ok-prompt-in-pengine_input c = λ a b e.
    let same = both_arguments c.args.goal.now c.args.name.now a b c.in_ok-prompt-in-pengine_input.prompt c.in_ok-prompt-in-pengine_input.term e c.in_ok-prompt-in-pengine_input.ensures in
    rw (c.in-pengine_input.is, same.0, same.1)

pub returns-in_default : goal.returns-in_default
unfolding row_of_two
returns-in_default c = λ a b e.
    rw e (not_named c.args.name.now (two_rows a b) _ (c.in_default.not-text, (c.in_default.not-text-2, (c.in_default.not-text-3, (c.in_default.not-text-4, (c.in_default.not-forall, (c.in_default.not-pengine_input, tt)))))))
