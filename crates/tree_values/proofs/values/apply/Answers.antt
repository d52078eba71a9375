use Rattle.std.proofs.Common.{◌∙◌}
use Rattle.tree_values.proofs.TreeValues.{other_applied}
use Rattle.tree_values.proofs.values.apply.Goals as goal

pub returns-in_ok-value : goal.returns-in_ok-value
returns-in_ok-value c = c.in_ok-value.ensures ∙ other_applied c.args.name.now c.args.args.now c.if-args-eq1.false c.if-args-eq2.false
