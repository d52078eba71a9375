use Rattle.std.proofs.Common.{Some, refl, ap}
use Rattle.builtin_table.specs.Table.{plus_and_divmod, rows_of_app, standard}
use Rattle.builtin_table.proofs.Applications.{class_silenced, class_joined}
use Rattle.builtin_table.proofs.classes.class_in.Goals as goal

pub returns-in-Sandbox : goal.returns-in-Sandbox
unfolding rows_of_app
returns-in-Sandbox c = rw c.in-Sandbox.is c.standard_class.ensures

pub returns-in_err-class-in-School : goal.returns-in_err-class-in-School
unfolding rows_of_app
returns-in_err-class-in-School c =
    rw (c.in-School.is, class_silenced standard c.args.pi.now, ← c.in_err-class-in-School.ensures) c.from_residual.ensures

pub returns-in_ok-class-in-School : goal.returns-in_ok-class-in-School
unfolding rows_of_app
returns-in_ok-class-in-School c =
    rw (c.in-School.is, class_silenced standard c.args.pi.now, ← c.in_ok-class-in-School.ensures) (ap Some c.class_in_school.ensures)

pub returns-in-Some : goal.returns-in-Some
unfolding rows_of_app
returns-in-Some c =
    rw (c.in-Numbers.is, class_joined standard plus_and_divmod c.args.pi.now, ← c.in-Some.ensures) refl

pub returns-in-None : goal.returns-in-None
unfolding rows_of_app
returns-in-None c =
    rw (c.in-Numbers.is, class_joined standard plus_and_divmod c.args.pi.now, ← c.in-None.ensures) c.class_among.ensures
