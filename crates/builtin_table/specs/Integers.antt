-- plus/3 and divmod/4: integers that are a sum, or a quotient and what is left of it (ISO/IEC 13211-1, 9.1.3, for div and mod).
use Rattle.std.specs.Prelude.{ℤ, Bool, not, ◌&&◌, ◌||◌, if◌then◌else◌, List, [], ◌∷◌, Some, None, Ok, Err, codes}
use Rattle.std.specs.List.{find}
use Rattle.term_core.specs.Tree.{Tree, variable, integer}
use Rattle.builtin_table.specs.declared.functions.Binary.TheVariants as binary
use Rattle.builtin_table.specs.Errors.{instantiation_error, type_error}
use Rattle.builtin_table.specs.Arithmetic.{Value, evaluated, binary_value, binary_applied}
use Rattle.builtin_table.specs.Outcomes.{Outcome, offer, unifies, ball, is_variable, is_integer}

-- ---- plus(X, Y, Z): X + Y = Z, where at least two of them are given

abbrev pub plus_ball : Tree → Outcome
plus_ball e = ball (codes "plus") 3 e

-- the argument t is this value
abbrev pub plus_found : (t : Tree) → Value → Outcome
plus_found t (Ok z) = unifies t (integer z)
plus_found t (Err e) = plus_ball e

abbrev pub plus_given : (x y z : Tree) → Outcome
plus_given (integer x) (integer y) z = plus_found z (evaluated (binary_value binary.Plus x y))
plus_given (integer x) y (integer z) = plus_found y (evaluated (binary_value binary.Minus z x))
plus_given x (integer y) (integer z) = plus_found x (evaluated (binary_value binary.Minus z y))
plus_given x y z = plus_ball instantiation_error

-- two of the three are variables
abbrev pub too_few_given : (x y z : Tree) → Bool
too_few_given x y z = is_variable x && is_variable y || (is_variable x || is_variable y) && is_variable z

abbrev pub is_no_integer : Tree → Bool
is_no_integer t = not (is_variable t || is_integer t)

abbrev pub plus : (x y z : Tree) → Outcome
plus x y z =
    if too_few_given x y z then plus_ball instantiation_error
    else elim (find is_no_integer (x ∷ y ∷ z ∷ [])) [ Some t ↦ plus_ball (type_error (codes "integer") t) | None ↦ plus_given x y z ]

-- ---- divmod(A, B, Q, R): Q is A div B, and R is A mod B

abbrev pub divmod_ball : Tree → Outcome
divmod_ball e = ball (codes "divmod") 4 e

-- an argument that has to be an integer
abbrev pub needed_integer : Tree → Value
needed_integer (variable v) = Err instantiation_error
needed_integer (integer z) = Ok z
needed_integer t = Err (type_error (codes "integer") t)

abbrev pub divmod_found : (q r : Tree) → (quotient left : Value) → Outcome
divmod_found q r (Ok x) (Ok y) = offer ((q, integer x) ∷ (r, integer y) ∷ []) 0
divmod_found q r (Ok x) (Err e) = divmod_ball e
divmod_found q r (Err d) w = divmod_ball d

abbrev pub divmod : (a b q r : Tree) → Outcome
divmod a b q r =
    divmod_found q r (binary_applied binary.FloorQuotient (needed_integer a) (needed_integer b)) (binary_applied binary.Modulus (needed_integer a) (needed_integer b))
