use Rattle.std.proofs.Common.{◌≡◌, ◌≤◌, ◌+◌, ◌*◌, ◌^◌, drop}
use Rattle.std.specs.Char.{digit_value}
use Rattle.std.specs.List.{fold}
use Rattle.term_core.specs.Tokens.{value_in}
use Rattle.prolog_lex.proofs.digits.value_in.Given as goal

abbrev pub invariant-loop-digit : goal.invariant-loop-digit
invariant-loop-digit l =
    (value_in l.radix l.digits ≡ fold (λ n d. n * l.radix + digit_value d) l.value (drop l.digit-index l.digits)) × (l.value ≤ 2 ^ 127)
