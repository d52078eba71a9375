use Rattle.std.proofs.Common.{inl, inr}
use Rattle.solve_model.specs.Goals.{atom_rows, row_of_atom}
use Rattle.solve_model.proofs.RowLemmas.{not_named}
use Rattle.solve_model.proofs.goals.row_of_atom.Goals as goal

pub returns-in-true : goal.returns-in-true
unfolding row_of_atom
returns-in-true c = rw c.in-true.is

pub returns-in-fail : goal.returns-in-fail
unfolding row_of_atom
returns-in-fail c = elim c.in-fail.is [ inl h ↦ rw h | inr h ↦ rw h ]

pub returns-in-text : goal.returns-in-text
unfolding row_of_atom
returns-in-text c = rw c.in-text.is

pub returns-in_default : goal.returns-in_default
unfolding row_of_atom
returns-in_default c =
    not_named c.args.name.now atom_rows _ (c.in_default.not-true, (c.in_default.not-fail, (c.in_default.not-false, (c.in_default.not-text, tt))))
