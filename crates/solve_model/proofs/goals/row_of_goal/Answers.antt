use Rattle.std.proofs.Common.{ℕ, List, ap, arith, inl, inr, sym, ◌∙◌}
use Rattle.term_core.specs.declared.node.Node.TheVariants as node
use Rattle.term_core.specs.Tree.{Tree, atom}
use Rattle.solve_model.specs.Goals.{row_of_atom}
use Rattle.solve_model.specs.Rows.{is_call_of, row_as}
use Rattle.solve_model.proofs.RowLemmas.{length-arguments, some_called, row_of_variable, row_of_integer, row_of_atomic, row_of_added, the_atom}
use Rattle.solve_model.proofs.goals.row_of_goal.Goals as goal

pub returns-in_ok-copied-in-Var : goal.returns-in_ok-copied-in-Var
returns-in_ok-copied-in-Var c =
    rw (c.in_ok-copied-in-Var.ensures, c.new.ensures.items)
    (elim c.in-Var.is [
      | inl h ↦ row_of_variable c.args.goal.now h.0 (sym c.symbol.ensures ∙ h.1)
      | inr h ↦ row_of_integer c.args.goal.now h.0 (sym c.symbol.ensures ∙ h.1)
    ])

pub returns-in-Atom : goal.returns-in-Atom
returns-in-Atom c =
    let same = sym c.symbol.ensures ∙ c.in-Atom.is in
    row_of_atomic c.args.goal.now c.in-Atom.name _ same
    (ap (λ (t : Tree). row_as t c.row_of_atom.result) (the_atom c.args.goal.now c.in-Atom.name same)
    ∙ ap (λ (f : List ℕ). row_as (atom f) c.row_of_atom.result) (sym c.as_str.ensures)
    ∙ c.row_of_atom.ensures ∙ ap row_of_atom c.as_str.ensures)

pub first_and_others-requires : goal.first_and_others-requires
first_and_others-requires c =
    omega (arith, length-arguments c.args.goal.now c.in-Comp.name c.in-Comp.count (sym c.symbol.ensures ∙ c.in-Comp.is), some_called c.as_str-in-Comp.result.now c.in-Comp.count (sym c.is_call.ensures ∙ c.if-is_call.true))

pub row_of_compound-requires : goal.row_of_compound-requires
row_of_compound-requires c = record {
  symbol = sym c.symbol.ensures ∙ c.in-Comp.is ∙ ap (λ (f : List ℕ). node.Comp f c.in-Comp.count) (sym c.as_str-else-is_call.ensures);
  no_call = ap (λ (f : List ℕ). is_call_of f c.in-Comp.count) (c.as_str-else-is_call.ensures ∙ sym c.as_str-in-Comp.ensures) ∙ sym c.is_call.ensures ∙ c.if-is_call.false;
}

pub returns-in_ok-called-in-Comp : goal.returns-in_ok-called-in-Comp
returns-in_ok-called-in-Comp c =
    row_of_added c.args.goal.now c.in-Comp.name c.in-Comp.count _ _ (sym c.symbol.ensures ∙ c.in-Comp.is) (ap (λ (f : List ℕ). is_call_of f c.in-Comp.count) (sym c.as_str-in-Comp.ensures) ∙ sym c.is_call.ensures ∙ c.if-is_call.true) c.in_ok-called-in-Comp.ensures
