use Rattle.std.proofs.Common.{◌≡◌, ℤ, pos, ◌+ℤ◌, FitsSigned, ap, sym, ◌∙◌, arith}
use mathlib.Core.Bool.{beq, false}
use Rattle.std.specs.Prelude.{int_lt, int_rem}
use Rattle.std.specs.Int.{w128, cast_signed as to_z, cast_unsigned as of_z}
use Rattle.std.proofs.lemmas.Int.{to_z-of_z}
use Rattle.builtin_table.proofs.Bits.{is_pos, passed, opposites}
use Rattle.builtin_table.proofs.Remainders.{nothing_left, something_left}
use Rattle.builtin_table.proofs.functions.floor_remainder.Goals as goal

pub returns-then-left-eq0 : goal.returns-then-left-eq0
returns-then-left-eq0 c =
    let rem : c.wrapping_rem-left.result ≡ int_rem c.args.x c.args.y = c.wrapping_rem-left.ensures ∙ passed int_rem c.args.x c.args.y c.ranges.x c.ranges.y in
    nothing_left c.args.x c.args.y c.requires (sym rem ∙ is_pos c.wrapping_rem-left.result 0 (record { sfits = c.wrapping_rem-left.type_inv }) (omega arith) c.if-left-eq0.true)

pub returns-else-left-y : goal.returns-else-left-y
returns-else-left-y c =
    let r : ℤ = c.wrapping_rem-left.result in
    let y : ℤ = c.args.y in
    let fits : FitsSigned w128 r = record { sfits = c.wrapping_rem-left.type_inv } in
    let rem : r ≡ int_rem c.args.x y = c.wrapping_rem-left.ensures ∙ passed int_rem c.args.x y c.ranges.x c.ranges.y in
    let signs : beq (int_lt r (pos 0)) (int_lt y (pos 0)) ≡ false = sym (passed (λ a b. beq (int_lt a (pos 0)) (int_lt b (pos 0))) r y fits c.ranges.y) ∙ c.if-left-y.false in
    passed (λ a b. to_z w128 (of_z w128 (a +ℤ b))) r y fits c.ranges.y
    ∙ to_z-of_z w128 (r +ℤ y) (opposites r y fits c.ranges.y signs)
    ∙ ap (λ (a : ℤ). a +ℤ y) rem
    ∙ something_left c.args.x y c.requires (λ h. c.if-left-eq0.false (ap (of_z w128) (rem ∙ h))) (ap (λ (a : ℤ). beq (int_lt a (pos 0)) (int_lt y (pos 0))) (sym rem) ∙ signs)
