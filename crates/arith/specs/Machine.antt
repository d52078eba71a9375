-- What is left to do of an expression, and what it comes to.
use Rattle.std.specs.Prelude.{◌≡◌, ℤ, pos, List, [], ◌∷◌, ◌++◌, drop, slice_index_or, Option, Some, None, Ok, Err, ⊤}
use Rattle.term_core.specs.Tree.{Tree}
use Rattle.builtin_table.specs.Arithmetic.{Value, value_of, evaluated, unary_value, binary_value}
use Rattle.store.specs.Cells.{Cells, IsCell, tree_of}
use Rattle.arith.specs.declared.value.Value as kept
use Rattle.arith.specs.declared.value.Value.TheVariants as the
use Rattle.arith.specs.declared.machine.Task.{Task}
use Rattle.arith.specs.declared.machine.Task.TheVariants.{Find, One, Two}

-- a value as the definition has it
abbrev pub value_result : kept.Value → Value
value_result (the.Int z) = Ok z
value_result (the.Ball t) = Err t

abbrev pub IsTask : Cells → Task → Type 0
IsTask s (Find c) = IsCell s c
IsTask s (One u) = ⊤
IsTask s (Two b) = ⊤

-- the last value
abbrev pub top : List ℤ → ℤ
top vs = slice_index_or vs 0 (pos 0)

-- a fault ends all
abbrev pub then : Value → (ℤ → Value) → Value
then (Ok z) f = f z
then (Err e) f = Err e

-- what the tasks come to, the first one next, with these values, the last one first
abbrev pub run : Cells → List Task → List ℤ → Value
run s [] vs = Ok (top vs)
run s (Find c ∷ ts) vs = then (value_of (tree_of s c)) (λ v. run s ts (v ∷ vs))
run s (One u ∷ ts) vs = then (evaluated (unary_value u (top vs))) (λ v. run s ts (v ∷ drop 1 vs))
run s (Two b ∷ ts) vs = then (evaluated (binary_value b (top (drop 1 vs)) (top vs))) (λ v. run s ts (v ∷ drop 1 (drop 1 vs)))

-- what a part leaves: the whole's fault, or as much as before
abbrev pub parted : Option Tree → (left whole : Value) → Type 0
parted (Some e) left whole = whole ≡ Err e
parted None left whole = left ≡ whole

-- a part's value at the end of the values, or its fault
abbrev pub part_result : Option Tree → (before after : List ℤ) → Value → Type 0
part_result (Some e) before after found = found ≡ Err e
part_result None before after (Ok z) = after ≡ before ++ z ∷ []
part_result None before after (Err e) = ⊥
