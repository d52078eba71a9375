use Rattle.std.proofs.Common.{◌≡◌, ◌∷◌, ◌++◌, [], Err, ℤ, List, ap, ◌∙◌, sym, reverse, rules}
use mir.Syntax.{w128}
use mir.Val.{SFits}
use Rattle.std.proofs.lemmas.Int.{to_z-of_z}
use Rattle.store.specs.Cells.{tree_of}
use Rattle.arith.specs.Machine.{run}
use Rattle.arith.proofs.Parts.{value-variable, value-atom, value-other, found_integer, faulty, reverse-push}
use Rattle.arith.proofs.machine.find.Goals as goal

pub returns-in_ok-instantiation_error-in-Var-clause-run : goal.returns-in_ok-instantiation_error-in-Var-clause-run
returns-in_ok-instantiation_error-in-Var-clause-run c =
    faulty c.args.store.now c.args.cell [] c.in_ok-instantiation_error-in-Var.field-0 _ _
    (value-variable (tree_of c.args.store.now c.args.cell) _ (sym c.in-Var.ensures) ∙ ap Err (sym c.in_ok-instantiation_error-in-Var.ensures))

pub returns-in_ok-push-in-Int-clause-run : goal.returns-in_ok-push-in-Int-clause-run
returns-in_ok-push-in-Int-clause-run c =
    let z = c.in-Int.value in
    let fits : SFits w128 z = search rules in
    let before = c.args.values.now.items in
    let pushed : c.push.new.self.items ≡ before ++ z ∷ [] = c.in_ok-push-in-Int.ensures.items ∙ ap (λ (y : ℤ). before ++ y ∷ []) (to_z-of_z w128 z fits) in
    ap (λ (vs : List ℤ). run c.args.store.now (reverse c.args.tasks.now.items) vs) (ap reverse pushed ∙ reverse-push before z)
    ∙ found_integer c.args.store.now c.args.cell [] z _ _ (sym c.in-Int.ensures)

pub returns-in_ok-not_evaluable-in-Atom-clause-run : goal.returns-in_ok-not_evaluable-in-Atom-clause-run
returns-in_ok-not_evaluable-in-Atom-clause-run c =
    faulty c.args.store.now c.args.cell [] c.in_ok-not_evaluable-in-Atom.field-0 _ _
    (value-atom (tree_of c.args.store.now c.args.cell) c.in-Atom.name.now (sym c.in-Atom.ensures) ∙ sym c.in_ok-not_evaluable-in-Atom.ensures)

pub returns-in_ok-not_evaluable-in-Comp-clause-run : goal.returns-in_ok-not_evaluable-in-Comp-clause-run
returns-in_ok-not_evaluable-in-Comp-clause-run c =
    faulty c.args.store.now c.args.cell [] c.in_ok-not_evaluable-in-Comp.field-0 _ _
    (value-other (tree_of c.args.store.now c.args.cell) c.in-Comp.name.now c.in-Comp.count (sym c.in-Comp.ensures) c.if-count-eq1.false c.if-count-eq2.false ∙ sym c.in_ok-not_evaluable-in-Comp.ensures)
