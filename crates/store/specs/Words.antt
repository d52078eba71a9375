-- What a word of 64 bits says.
use Rattle.std.specs.Prelude.{ℕ, Bool, true, false, ◌+◌, ◌/◌, ◌%◌, ◌^◌, ◌==◌, pos, ◌-ℤ◌, cond}
use Rattle.store.specs.declared.word.Word.{Word}
use Rattle.store.specs.declared.word.Shape.{Shape}
use Rattle.store.specs.declared.word.Shape.TheVariants.{Var, Int, Large, Atom, Comp}

-- by the two lowest bits
abbrev pub shape_of_bits : (bits : ℕ) → Shape
shape_of_bits bits =
    cond (bits % 4 == 0) (Int (pos (bits / 4) -ℤ pos (2 ^ 61)))
    (cond (bits % 4 == 1) (Var (bits / 4))
    (cond (bits % 4 == 2) (cond (bits / 4 % 2 == 0) (Atom (bits / 4 / 2)) (Large (bits / 4 / 2)))
    (Comp (bits / 8192 % 8388608) (bits / 8 % 1024 + 1) (bits / 68719476736) (bits / 4 % 2 == 1))))

unfoldable pub shape_of : Word → Shape
shape_of w = shape_of_bits w.bits

-- whether a term with this symbol is known to have no variable
abbrev pub is_closed_shape : Shape → Bool
is_closed_shape (Var n) = false
is_closed_shape (Int z) = true
is_closed_shape (Large i) = true
is_closed_shape (Atom i) = true
is_closed_shape (Comp name count first closed) = closed

-- where a compound's arguments stand
abbrev pub first_of_shape : Shape → ℕ
first_of_shape (Var n) = 0
first_of_shape (Int z) = 0
first_of_shape (Large i) = 0
first_of_shape (Atom i) = 0
first_of_shape (Comp name count first closed) = first
