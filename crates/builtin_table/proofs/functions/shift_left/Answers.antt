use Rattle.std.proofs.Common.{rules, ◌-◌, ◌/◌, ◌^◌, ◌*ℤ◌, ℤ, pos, FitsSigned, ap, sym, ◌∙◌}
use Rattle.std.specs.Prelude.{unsigned_abs}
use Rattle.std.specs.Int.{w128, cast_signed as to_z, cast_unsigned as of_z}
use Rattle.std.proofs.lemmas.Int.{to_z-of_z}
use Rattle.builtin_table.specs.Arithmetic.{fitting, shifted}
use Rattle.builtin_table.proofs.Bits.{passed}
use Rattle.builtin_table.proofs.Shifts.{shift_ok, shift_err}
use Rattle.builtin_table.proofs.functions.shift_left.Goals as goal

pub returns-in-Ok : goal.returns-in-Ok
returns-in-Ok c =
    let x : ℤ = to_z w128 (of_z w128 c.args.x) in
    let y : ℤ = to_z w128 (of_z w128 c.args.y) in
    let fits : FitsSigned w128 c.in-Ok.part = search rules in
    shift_ok x y c.in-Ok.part c.times_power-in-Ok.result c.if-y-lt0.false c.if-y-gt127.false (sym c.in-Ok.is ∙ c.times_power.ensures) (c.times_power-in-Ok.ensures ∙ ap (λ z. fitting (z *ℤ pos (2 ^ (unsigned_abs y - unsigned_abs y / 2)))) (to_z-of_z w128 c.in-Ok.part fits))
    ∙ passed (λ a b. shifted (λ n. fitting (a *ℤ pos (2 ^ n))) b) c.args.x c.args.y c.ranges.x c.ranges.y

pub returns-in-Err : goal.returns-in-Err
returns-in-Err c =
    let x : ℤ = to_z w128 (of_z w128 c.args.x) in
    let y : ℤ = to_z w128 (of_z w128 c.args.y) in
    shift_err x y c.in-Err.fault c.if-y-lt0.false c.if-y-gt127.false (sym c.in-Err.is ∙ c.times_power.ensures)
    ∙ passed (λ a b. shifted (λ n. fitting (a *ℤ pos (2 ^ n))) b) c.args.x c.args.y c.ranges.x c.ranges.y
