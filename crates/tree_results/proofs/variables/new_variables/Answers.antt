use Rattle.std.proofs.Common.{◌∙◌, ◌+◌, ℕ, ap}
use Rattle.term_core.specs.Tree.{variable}
use Rattle.tree_results.proofs.NewVariables.{new_variables-more}
use Rattle.tree_results.proofs.variables.new_variables.Goals as goal

pub loop-i-preserved : goal.loop-i-preserved
loop-i-preserved c =
    c.in_ok-push.ensures.items ∙ new_variables-more c.args.next c.loop-i.i c.loop-i.variables.items c.in_ok-var.field-0 c.loop-i.invariant (c.in_ok-var.ensures ∙ ap variable (c.in_ok-number.ensures ∙ ap (λ (k : ℕ). c.args.next + k) c.from.ensures))
