-- What is read from the tokens of a term, or where the fault is.
use Rattle.std.specs.Prelude.{◌≡◌, ℕ, ◌^◌, Bool, true, false, ◌&&◌, nat_lt, nat_le, List, [], ◌∷◌, Option, Some, None, Result, Ok, Err, if◌then◌else◌, ⊤}
use Rattle.std.specs.List.{list_all}
use Rattle.term_core.specs.declared.node.Node.{Node}
use Rattle.term_core.specs.declared.node.Node.TheVariants.{Comp}
use Rattle.term_core.specs.Tree.{Tree, depth}
use Rattle.term_core.specs.Flat.{flatten}
use Rattle.op_table.specs.declared.op.Op.{Op}
use Rattle.prolog_grammar.specs.declared.grammar.lexeme.Placed.{Placed}
use Rattle.prolog_grammar.specs.declared.grammar.fault.Fault.{Fault}
use Rattle.prolog_grammar.specs.declared.grammar.fault.Fault.TheVariants.{Syntax, Nesting, IntRange, Memory}
use Rattle.prolog_grammar.specs.Readings.{Bytes, Reading, Digits, Negative, meaning}
use Rattle.prolog_grammar.specs.Machine.{State, Has, start, is_stuck, step, finish}

-- an integer's value, -2^127 to 2^127 - 1
abbrev pub is_sized : Reading → Bool
is_sized (Digits n d) = nat_lt n (2 ^ 127)
is_sized (Negative w n) = nat_le n (2 ^ 127)
is_sized _ = true

abbrev pub has_sized : State → Bool
has_sized (Has st r) = is_sized r
has_sized _ = true

-- the fault of a token, by whether it is stuck and whether its integer fits
abbrev pub refusal : Placed → Bool → Bool → Option Fault
refusal p true sized = Some (Syntax p.from)
refusal p false false = Some (IntRange p.from)
refusal p false true = if nat_le p.open 4000 then None else Some (Nesting p.from)

abbrev pub unless : {A : Type 0} → Option Fault → Result A Fault → Result A Fault
unless None r = r
unless (Some e) r = Err e

-- what was read, or the fault at this place
abbrev pub ok_or : {A : Type 0} → Option A → Fault → Result A Fault
ok_or None e = Err e
ok_or (Some a) e = Ok a

-- a compound has 1 to 1,024 arguments
abbrev pub has_arguments : Node → Bool
has_arguments (Comp f k) = nat_le 1 k && nat_le k 1024
has_arguments _ = true

-- no compound has more than 1,024 arguments, and the depth is at most 1,000
abbrev pub is_within : Tree → Bool
is_within t = list_all has_arguments (flatten t) && nat_le (depth t) 1000

abbrev pub limited : ℕ → Tree → Result Tree Fault
limited at t = if is_within t then Ok t else Err (Nesting at)

-- the place of the first token
abbrev pub first_place : ℕ → List Placed → ℕ
first_place end [] = end
first_place end (p ∷ ps) = p.from

abbrev pub and_then : {A B : Type 0} → Result A Fault → (A → Result B Fault) → Result B Fault
and_then (Ok a) f = f a
and_then (Err e) f = Err e

-- the nodes of what was read
abbrev pub nodes_of : Result Reading Fault → Result (List Node) Fault
nodes_of (Ok r) = Ok (flatten (meaning r))
nodes_of (Err e) = Err e

module _ (prefix infix_op : Bytes → Option Op) where
  -- the tokens in order, from a state on: the first fault, or the reading of all of them
  unfoldable pub reading : ℕ → List Placed → State → Result Reading Fault
  reading end [] S = ok_or (finish prefix infix_op S) (Syntax end)
  reading end (p ∷ ps) S =
      let next = step prefix infix_op p.lexeme S in
      unless (refusal p (is_stuck next) (has_sized next)) (reading end ps next)

  -- the term of these tokens, where the text or its end token stands at `end`
  unfoldable pub term_of : ℕ → List Placed → Result Tree Fault
  term_of end ps = and_then (reading end ps start) (λ r. limited (first_place end ps) (meaning r))

-- want of memory may come in the place of any answer
abbrev pub Tells : {A : Type 0} → Result A Fault → Fault → Type 0
Tells expected Memory = ⊤
Tells expected (Syntax at) = expected ≡ Err (Syntax at)
Tells expected (Nesting at) = expected ≡ Err (Nesting at)
Tells expected (IntRange at) = expected ≡ Err (IntRange at)
