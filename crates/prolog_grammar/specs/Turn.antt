-- From the nodes of a tree with arguments first to those with functors first. The nodes are taken from the last to the first, and put from the last to the first.
use Rattle.std.specs.Prelude.{ℕ, ◌-◌, nat_lt, List, [], ◌∷◌, ◌++◌, if◌then◌else◌}
use Rattle.term_core.specs.declared.node.Node.{Node}
use Rattle.term_core.specs.Preorder.{count_of}

-- functors with the number of their arguments that are still to come, the innermost first, and what was put
abbrev pub Turning : Type 0
Turning = List (Node × ℕ) × List Node

-- an argument was put
unfoldable pub settle : List (Node × ℕ) → List Node → Turning
settle [] out = ([], out)
settle (x ∷ st) out = if nat_lt 1 x.1 then ((x.0, x.1 - 1) ∷ st, out) else settle st (out ++ x.0 ∷ [])

abbrev pub turn : Node → Turning → Turning
turn n x = if nat_lt 0 (count_of n) then ((n, count_of n) ∷ x.0, x.1) else settle x.0 (x.1 ++ n ∷ [])

unfoldable pub turned : List Node → Turning → Turning
turned [] x = x
turned (n ∷ ns) x = turned ns (turn n x)
