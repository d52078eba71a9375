use Rattle.std.proofs.Common.{arith, ◌∙◌}
use Rattle.solve_model.proofs.RowLemmas.{length-arguments, row_by_one, row_by_two, row_by_three, row_by_more}
use Rattle.solve_model.proofs.goals.row_of_compound.Goals as goal

pub row_of_one-requires : goal.row_of_one-requires
row_of_one-requires c = length-arguments c.args.goal.now c.args.name.now c.args.count c.requires.symbol ∙ c.in-1.is

pub row_of_two-requires : goal.row_of_two-requires
row_of_two-requires c = length-arguments c.args.goal.now c.args.name.now c.args.count c.requires.symbol ∙ c.in-2.is

pub row_of_three-requires : goal.row_of_three-requires
row_of_three-requires c = length-arguments c.args.goal.now c.args.name.now c.args.count c.requires.symbol ∙ c.in-3.is

pub returns-in_ok-row-in-1 : goal.returns-in_ok-row-in-1
returns-in_ok-row-in-1 c =
    row_by_one c.args.goal.now c.args.name.now c.args.count _ c.requires.symbol c.requires.no_call c.in-1.is c.in_ok-row-in-1.ensures

pub returns-in_ok-row-in-2 : goal.returns-in_ok-row-in-2
returns-in_ok-row-in-2 c =
    row_by_two c.args.goal.now c.args.name.now c.args.count _ c.requires.symbol c.requires.no_call c.in-2.is c.in_ok-row-in-2.ensures

pub returns-in_ok-row-in-3 : goal.returns-in_ok-row-in-3
returns-in_ok-row-in-3 c =
    row_by_three c.args.goal.now c.args.name.now c.args.count _ c.requires.symbol c.requires.no_call c.in-3.is c.in_ok-row-in-3.ensures

pub returns-in_default : goal.returns-in_default
returns-in_default c =
    row_by_more c.args.goal.now c.args.name.now c.args.count c.requires.symbol c.requires.no_call (λ e. absurd (omega (arith, e))) (λ e. absurd (omega (arith, e))) (λ e. absurd (omega (arith, e)))
