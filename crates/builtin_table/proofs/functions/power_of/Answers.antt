use Rattle.std.proofs.Common.{pos, ap, sym, ◌∙◌}
use Rattle.std.specs.Prelude.{int_lt}
use Rattle.std.specs.Int.{w128}
use Rattle.std.proofs.lemmas.Int.{to_z-of_z}
use Rattle.builtin_table.proofs.Powers.{power_is_one, power_of_zero, power_overflows}
use Rattle.builtin_table.proofs.functions.power_of.Goals as goal

pub returns-then-y-eq0 : goal.returns-then-y-eq0
returns-then-y-eq0 c = power_is_one c.args.x c.args.y c.ranges.x c.ranges.y c.then-y-eq0.either

pub returns-then-x-eq0 : goal.returns-then-x-eq0
returns-then-x-eq0 c =
    power_of_zero c.args.x c.args.y c.ranges.x c.if-y-eq0.false (ap (λ z. int_lt z (pos 0)) (sym (to_z-of_z w128 c.args.y c.ranges.y)) ∙ c.if-y-lt0.false) c.if-x-eq0.true

pub returns-then-y-gt127 : goal.returns-then-y-gt127
returns-then-y-gt127 c =
    power_overflows c.args.x c.args.y c.if-x-eq0.false c.if-x-eq1.false c.if-x-eqminus1.false (ap (int_lt (pos 127)) (sym (to_z-of_z w128 c.args.y c.ranges.y)) ∙ c.if-y-gt127.true)
