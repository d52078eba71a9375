use Rattle.std.proofs.Common.{map, refl, ap, ◌∙◌}
use Rattle.builtin_table.specs.Table.{rows_of_app, silenced}
use Rattle.builtin_table.proofs.table.rows_for.Goals as goal

pub returns-in-Sandbox : goal.returns-in-Sandbox
unfolding rows_of_app
returns-in-Sandbox c = rw c.in-Sandbox.is c.in_ok-rows.ensures

pub returns-in_ok-rows-in-School : goal.returns-in_ok-rows-in-School
unfolding rows_of_app
returns-in_ok-rows-in-School c = rw c.in-School.is (c.in_ok-rows-in-School.ensures ∙ ap (map silenced) c.in_ok-rows.ensures)

pub returns-in_ok-append-in-Numbers : goal.returns-in_ok-append-in-Numbers
unfolding rows_of_app
returns-in_ok-append-in-Numbers c =
    rw c.in-Numbers.is (c.in_ok-append-in-Numbers.ensures.items ∙ rw (c.in_ok-rows.ensures, c.in_ok-others-in-Numbers.ensures) refl)
