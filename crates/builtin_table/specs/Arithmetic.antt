-- The values of expressions (ISO/IEC 13211-1, 9.1 to 9.4), where every integer has 128 bits.
use Rattle.std.specs.Prelude.{ℕ, suc, ◌/◌, ◌^◌, ℤ, pos, negsuc, ◌+ℤ◌, ◌-ℤ◌, ◌*ℤ◌, neg_ℤ, Bool, false, ◌==◌, nat_lt, if◌then◌else◌, List, [], ◌∷◌, length, Option, Some, None, Result, Ok, Err, codes, bytes_eq, int_div, int_rem, unsigned_abs}
use Rattle.std.specs.Int.{w128, int_signum, int_min, int_max, int_pow, int_bit_and, int_bit_or, int_bit_not}
use Rattle.term_core.specs.Tree.{Tree, variable, integer, atom, compound, Trees, no_trees, tree}
use Rattle.builtin_table.specs.declared.functions.Fault.{Fault}
use Rattle.builtin_table.specs.declared.functions.Fault.TheVariants.{IntOverflow, ZeroDivisor, Undefined}
use Rattle.builtin_table.specs.declared.functions.Unary.{Unary}
use Rattle.builtin_table.specs.declared.functions.Unary.TheVariants as unary
use Rattle.builtin_table.specs.declared.functions.Binary.{Binary}
use Rattle.builtin_table.specs.declared.functions.Binary.TheVariants as binary
use Rattle.builtin_table.specs.Errors.{instantiation_error, type_error, evaluation_error, indicator_term}

-- ---- functions of integers

-- from -2^127 to 2^127 - 1
abbrev pub fits : ℤ → Bool
fits (pos n) = nat_lt n (2 ^ 127)
fits (negsuc n) = nat_lt n (2 ^ 127)

abbrev pub fitting : ℤ → Result ℤ Fault
fitting z = if fits z then Ok z else Err IntOverflow

abbrev pub is_zero : ℤ → Bool
is_zero (pos n) = n == 0
is_zero (negsuc n) = false

-- a divisor of 0 goes before every other fault
abbrev pub divided : (divisor : ℤ) → Result ℤ Fault → Result ℤ Fault
divided y r = if is_zero y then Err ZeroDivisor else r

-- x over n, rounded down
abbrev pub down : ℤ → ℕ → ℤ
down (pos a) n = pos (a / n)
down (negsuc a) n = negsuc (a / n)

-- x over y, rounded down
abbrev pub floor_div : ℤ → ℤ → ℤ
floor_div x (pos b) = down x b
floor_div x (negsuc b) = down (neg_ℤ x) (suc b)

-- what is left of x over y rounded down
abbrev pub int_mod : ℤ → ℤ → ℤ
int_mod x y = x -ℤ floor_div x y *ℤ y

abbrev pub exact_div : ℤ → ℤ → Result ℤ Fault
exact_div x y = if is_zero (int_rem x y) then fitting (int_div x y) else Err Undefined

-- by 0 to 127 bits, with what these come to
abbrev pub shifted : (ℕ → Result ℤ Fault) → ℤ → Result ℤ Fault
shifted f (pos n) = if nat_lt n 128 then f n else Err Undefined
shifted f (negsuc n) = Err Undefined

-- 1 over x to the power n, where that is an integer
abbrev pub reciprocal : ℤ → (n : ℕ) → Result ℤ Fault
reciprocal (pos a) n = if a == 1 then Ok (pos 1) else Err Undefined
reciprocal (negsuc a) n = if a == 0 then Ok (int_pow (negsuc 0) n) else Err Undefined

abbrev pub power : ℤ → ℤ → Result ℤ Fault
power x (pos n) = fitting (int_pow x n)
power x (negsuc n) = reciprocal x (suc n)

unfoldable pub unary_value : Unary → ℤ → Result ℤ Fault
unary_value unary.Plus x = Ok x
unary_value unary.Minus x = fitting (neg_ℤ x)
unary_value unary.Abs x = fitting (pos (unsigned_abs x))
unary_value unary.Sign x = Ok (int_signum x)
-- of two's complement
unary_value unary.Complement x = Ok (int_bit_not w128 x)

unfoldable pub binary_value : Binary → ℤ → ℤ → Result ℤ Fault
binary_value binary.Plus x y = fitting (x +ℤ y)
binary_value binary.Minus x y = fitting (x -ℤ y)
binary_value binary.Times x y = fitting (x *ℤ y)
-- toward zero
binary_value binary.Quotient x y = divided y (fitting (int_div x y))
binary_value binary.FloorQuotient x y = divided y (fitting (floor_div x y))
-- with the sign of x
binary_value binary.Remainder x y = divided y (Ok (int_rem x y))
-- with the sign of y
binary_value binary.Modulus x y = divided y (Ok (int_mod x y))
binary_value binary.ExactQuotient x y = divided y (exact_div x y)
binary_value binary.Min x y = Ok (int_min x y)
binary_value binary.Max x y = Ok (int_max x y)
-- of two's complement
binary_value binary.And x y = Ok (int_bit_and w128 x y)
binary_value binary.Or x y = Ok (int_bit_or w128 x y)
binary_value binary.ShiftLeft x y = shifted (λ n. fitting (x *ℤ pos (2 ^ n))) y
binary_value binary.ShiftRight x y = shifted (λ n. Ok (down x (2 ^ n))) y
binary_value binary.Power x y = power x y

-- ---- their names

unfoldable pub unary_named : List ℕ → Option Unary
unary_named f =
    if bytes_eq f (codes "+") then Some unary.Plus
    else if bytes_eq f (codes "-") then Some unary.Minus
    else if bytes_eq f (codes "abs") then Some unary.Abs
    else if bytes_eq f (codes "sign") then Some unary.Sign
    else if bytes_eq f (codes "\\") then Some unary.Complement
    else None

unfoldable pub binary_named : List ℕ → Option Binary
binary_named f =
    if bytes_eq f (codes "+") then Some binary.Plus
    else if bytes_eq f (codes "-") then Some binary.Minus
    else if bytes_eq f (codes "*") then Some binary.Times
    else if bytes_eq f (codes "//") then Some binary.Quotient
    else if bytes_eq f (codes "div") then Some binary.FloorQuotient
    else if bytes_eq f (codes "rem") then Some binary.Remainder
    else if bytes_eq f (codes "mod") then Some binary.Modulus
    else if bytes_eq f (codes "/") then Some binary.ExactQuotient
    else if bytes_eq f (codes "min") then Some binary.Min
    else if bytes_eq f (codes "max") then Some binary.Max
    else if bytes_eq f (codes "/\\") then Some binary.And
    else if bytes_eq f (codes "\\/") then Some binary.Or
    else if bytes_eq f (codes "<<") then Some binary.ShiftLeft
    else if bytes_eq f (codes ">>") then Some binary.ShiftRight
    else if bytes_eq f (codes "^") then Some binary.Power
    else if bytes_eq f (codes "**") then Some binary.Power
    else None

abbrev pub fault_name : Fault → List ℕ
fault_name IntOverflow = codes "int_overflow"
fault_name ZeroDivisor = codes "zero_divisor"
fault_name Undefined = codes "undefined"

-- ---- expressions

-- an integer, or what is wrong
abbrev pub Value : Type 0
Value = Result ℤ Tree

abbrev pub evaluated : Result ℤ Fault → Value
evaluated (Ok z) = Ok z
evaluated (Err e) = Err (evaluation_error (fault_name e))

abbrev pub not_evaluable : List ℕ → ℕ → Value
not_evaluable f n = Err (type_error (codes "evaluable") (indicator_term (record { name = f; arity = n })))

abbrev pub unary_applied : Unary → Value → Value
unary_applied u (Ok x) = evaluated (unary_value u x)
unary_applied u (Err e) = Err e

-- the arguments' faults go from the left
abbrev pub binary_applied : Binary → Value → Value → Value
binary_applied b (Ok x) (Ok y) = evaluated (binary_value b x y)
binary_applied b (Ok x) (Err e) = Err e
binary_applied b (Err d) w = Err d

unfoldable pub applied : List ℕ → List Value → Value
applied f (v ∷ []) = elim (unary_named f) [ Some u ↦ unary_applied u v | None ↦ not_evaluable f 1 ]
applied f (v ∷ w ∷ []) = elim (binary_named f) [ Some b ↦ binary_applied b v w | None ↦ not_evaluable f 2 ]
applied f vs = not_evaluable f (length vs)

-- the value of an expression (9.1.2)
unfoldable mutual
  pub value_of : Tree → Value
  value_of (variable n) = Err instantiation_error
  value_of (integer z) = Ok z
  value_of (atom f) = not_evaluable f 0
  value_of (compound f ts) = applied f (values_of ts)

  pub values_of : Trees → List Value
  values_of no_trees = []
  values_of (tree t ts) = value_of t ∷ values_of ts
