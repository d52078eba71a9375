use Rattle.std.proofs.Common.{List, arith, ap, ◌∙◌}
use Rattle.arith.specs.declared.machine.Task.{Task}
use Rattle.arith.specs.declared.machine.Task.TheVariants.{Find, Two}
use Rattle.builtin_table.specs.Arithmetic.{binary_named}
use Rattle.arith.specs.Machine.{run}
use Rattle.arith.proofs.Parts.{length-arguments, two_planned, faulty, no_functor_two, three_more}
use Rattle.store.specs.Cells.{tree_of}
use Rattle.arith.proofs.machine.find_two.Goals as goal

pub arg-requires-clause-within : goal.arg-requires-clause-within
arg-requires-clause-within c =
    omega (arith, length-arguments (tree_of c.args.store.now c.args.cell) c.args.name.now 2 c.requires.symbol)

pub arg-requires-in-Some-clause-within : goal.arg-requires-in-Some-clause-within
arg-requires-in-Some-clause-within c =
    omega (arith, length-arguments (tree_of c.args.store.now c.args.cell) c.args.name.now 2 c.requires.symbol)

pub returns-in_ok-push-in-Some-3-clause-run : goal.returns-in_ok-push-in-Some-3-clause-run
returns-in_ok-push-in-Some-3-clause-run c = λ vs.
    ap (λ (ts : List Task). run c.args.store.now ts vs) (three_more c.args.tasks.now.items c.push.new.self.items c.push-in-Some.new.self.items c.push-in-Some-2.new.self.items (Two c.in-Some.function) (Find c.arg.result) (Find c.arg-in-Some.result) c.in_ok-push-in-Some.ensures.items c.in_ok-push-in-Some-2.ensures.items c.in_ok-push-in-Some-3.ensures.items)
    ∙ two_planned c.args.store.now c.args.cell c.args.name.now c.in-Some.function c.arg-in-Some.result c.arg.result _ vs c.requires.symbol (c.in-Some.ensures ∙ ap binary_named c.as_str.ensures) c.arg-in-Some.ensures.tree c.arg.ensures.tree

pub returns-in_ok-not_evaluable-in-None-clause-run : goal.returns-in_ok-not_evaluable-in-None-clause-run
returns-in_ok-not_evaluable-in-None-clause-run c = λ vs.
    faulty c.args.store.now c.args.cell c.args.name.now c.in_ok-not_evaluable-in-None.field-0 _ vs
    (no_functor_two c.args.store.now c.args.cell c.args.name.now _ c.requires.symbol (c.in-None.ensures ∙ ap binary_named c.as_str.ensures) c.in_ok-not_evaluable-in-None.ensures)
