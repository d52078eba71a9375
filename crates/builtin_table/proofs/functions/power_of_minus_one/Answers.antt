use Rattle.std.proofs.Common.{pos, ap, sym, ◌∙◌}
use Rattle.std.specs.Prelude.{int_rem}
use Rattle.std.specs.Int.{w128, cast_unsigned as of_z}
use Rattle.std.proofs.lemmas.Int.{to_z-of_z}
use Rattle.builtin_table.proofs.Powers.{even_power_of_minus_one, odd_power_of_minus_one}
use Rattle.builtin_table.proofs.functions.power_of_minus_one.Goals as goal

pub returns-then-y-eq0 : goal.returns-then-y-eq0
returns-then-y-eq0 c =
    even_power_of_minus_one c.args.y (ap (λ z. of_z w128 (int_rem z (pos 2))) (sym (to_z-of_z w128 c.args.y c.ranges.y)) ∙ c.if-y-eq0.true)

pub returns-else-y-eq0 : goal.returns-else-y-eq0
returns-else-y-eq0 c =
    odd_power_of_minus_one c.args.y (λ h. c.if-y-eq0.false (ap (λ z. of_z w128 (int_rem z (pos 2))) (to_z-of_z w128 c.args.y c.ranges.y) ∙ h))
