-- Two lists of nodes whose trees are to be unified, the first with the first and so on.
use Rattle.std.specs.Prelude.{◌≡◌, ℕ, cond, false, ◌&&◌, ◌==◌, nat_lt, bytes_eq, List, [], ◌∷◌, map, drop}
use Rattle.std.specs.List.{zip}
use Rattle.std.specs.Ordering.{is_eq, int_cmp}
use Rattle.term_core.specs.declared.node.Node.{Node}
use Rattle.term_core.specs.declared.node.Node.TheVariants.{Var, Int, Atom, Comp}
use Rattle.term_core.specs.declared.unifier.Demand.{Demand}
use Rattle.term_core.specs.declared.unifier.Demand.TheVariants.{Same, Clash, Left, Right}
use Rattle.term_core.specs.declared.unifier.Binding.{Binding}
use Rattle.term_core.specs.Tree.{Tree}
use Rattle.term_core.specs.Flat.{build, parse}
use Rattle.term_core.specs.Preorder.{AreTermNodes}
use Rattle.term_core.specs.Substitution.{apply}
use Rattle.term_core.specs.Unification.{contains_variable}

-- the pairs of trees
abbrev pub pending : List Node → List Node → List (Tree × Tree)
pending ms ns = zip (build ms) (build ns)

-- what the first nodes of both sides ask for
abbrev pub demand_of : Node → Node → Demand
demand_of (Var m) (Var n) = cond (m == n) Same (cond (nat_lt m n) (Right n) (Left m))
demand_of (Var m) (Int z) = Left m
demand_of (Var m) (Atom b) = Left m
demand_of (Var m) (Comp g l) = Left m
demand_of (Int y) (Var n) = Right n
demand_of (Int y) (Int z) = cond (is_eq (int_cmp y z)) Same Clash
demand_of (Int y) (Atom b) = Clash
demand_of (Int y) (Comp g l) = Clash
demand_of (Atom a) (Var n) = Right n
demand_of (Atom a) (Int z) = Clash
demand_of (Atom a) (Atom b) = cond (bytes_eq a b) Same Clash
demand_of (Atom a) (Comp g l) = Clash
demand_of (Comp f k) (Var n) = Right n
demand_of (Comp f k) (Int z) = Clash
demand_of (Comp f k) (Atom b) = Clash
demand_of (Comp f k) (Comp g l) = cond (bytes_eq f g && k == l) Same Clash

-- m is bound to the tree that `other` begins with, and both sides are under that binding
pub record Binds (m : ℕ) (rest other : List Node) (b : Binding) : Type 0 where
  pub absent : contains_variable m (parse other) ≡ false
  pub made : b.made ≡ (m, parse other) ∷ []
  pub rest_nodes : AreTermNodes b.rest.items
  pub other_nodes : AreTermNodes b.other.items
  pub rest_trees : build b.rest.items ≡ map (apply b.made) (build rest)
  pub other_trees : build b.other.items ≡ map (apply b.made) (drop 1 (build other))
