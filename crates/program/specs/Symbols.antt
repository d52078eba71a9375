-- What the code reads off the nodes of terms.
use Rattle.std.specs.Prelude.{ℕ, ◌-◌, Bool, true, false, ◌&&◌, ◌||◌, ◌==◌, List, [], ◌∷◌, ◌++◌, length, take, drop, if◌then◌else◌, codes, bytes_eq, is_ok}
use Rattle.std.specs.List.{list_all}
use Rattle.term_core.specs.declared.node.Node.{Node}
use Rattle.term_core.specs.declared.node.Node.TheVariants.{Var, Int, Atom, Comp}
use Rattle.term_core.specs.Tree.{Tree, compound}
use Rattle.op_table.specs.Table.{asked}
use Rattle.program.specs.Bodies.{is_connective}

-- the symbol of a directive or a rule
abbrev pub is_neck : Node → Bool
is_neck (Comp f k) = bytes_eq f (codes ":-") && (k == 1 || k == 2)
is_neck (Var n) = false
is_neck (Int z) = false
is_neck (Atom f) = false

-- the symbols of the arguments of an op/3 that is accepted
abbrev pub is_operator_of : (priority kind name : Node) → Bool
is_operator_of (Int p) (Atom kind) (Atom name) = is_ok (asked p kind name)
is_operator_of p kind name = false

-- a compound's name
abbrev pub functor_of : Tree → List ℕ
functor_of (compound f ts) = f
functor_of t = []

-- which of the trees that begin with a node are bodies, from those of the trees after it; the first tree's is last
abbrev pub with_node : Node → List Bool → List Bool
with_node (Var n) bs = bs ++ true ∷ []
with_node (Int z) bs = bs ++ false ∷ []
with_node (Atom f) bs = bs ++ true ∷ []
with_node (Comp f k) bs =
    take (length bs - k) bs ++ (if is_connective f && k == 2 then list_all (λ b. b) (drop (length bs - k) bs) else true) ∷ []

-- which of the trees of these nodes are bodies, the first tree's last
abbrev pub node_bodies : List Node → List Bool
node_bodies [] = []
node_bodies (n ∷ ns) = with_node n (node_bodies ns)
