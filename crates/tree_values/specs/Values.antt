-- The values of the trees that a list of nodes stands for.
use Rattle.std.specs.Prelude.{◌-◌, List, [], ◌∷◌, ◌++◌, length, take, drop, reverse, Ok, Err}
use Rattle.term_core.specs.declared.node.Node.{Node}
use Rattle.term_core.specs.declared.node.Node.TheVariants.{Var, Int, Atom, Comp}
use Rattle.builtin_table.specs.Errors.{instantiation_error}
use Rattle.builtin_table.specs.Arithmetic.{Value, not_evaluable, applied}

-- the values of the trees that begin with a node, from those of the trees after it; the first tree's is last
abbrev pub with_node : Node → List Value → List Value
with_node (Var n) vs = vs ++ Err instantiation_error ∷ []
with_node (Int z) vs = vs ++ Ok z ∷ []
with_node (Atom f) vs = vs ++ not_evaluable f 0 ∷ []
with_node (Comp f k) vs = take (length vs - k) vs ++ applied f (reverse (drop (length vs - k) vs)) ∷ []

-- the values of the trees of these nodes, the first tree's last
abbrev pub node_values : List Node → List Value
node_values [] = []
node_values (n ∷ ns) = with_node n (node_values ns)
