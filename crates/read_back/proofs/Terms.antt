-- A term of the code is sound where its nodes are.
use Rattle.std.specs.Prelude.{◌≡◌, List, [], ◌∷◌, ◌++◌, All}
use Rattle.std.specs.List.{AllByRecursion}
use Rattle.std.proofs.lemmas.List.Elements.{recursion_from_All}
use Rattle.term_core.specs.declared.node.Node.{Node}
use Rattle.term_core.specs.Tree.{Tree, variable, integer, atom, compound, Trees, no_trees, tree, IsTerm}
use Rattle.term_core.specs.Flat.{flatten, flatten_all}
use Rattle.read_back.specs.Sound.{IsSound, HasValue, HasValues, HaveValues}

abbrev Each : List Node → Type 0
Each ns = AllByRecursion HasValue ns

front : (ns ms : List Node) → Each (ns ++ ms) → Each ns
front [] ms h = tt
front (n ∷ ns) ms h = (h.0, front ns ms h.1)

behind : (ns ms : List Node) → Each (ns ++ ms) → Each ms
behind [] ms h = h
behind (n ∷ ns) ms h = behind ns ms h.1

mutual
  values : (t : Tree) → Each (flatten t) → HasValues t
  values (variable n) h = h.0
  values (integer z) h = h.0
  values (atom f) h = h.0
  values (compound f ts) h = (h.0, all_values ts h.1)

  all_values : (ts : Trees) → Each (flatten_all ts) → HaveValues ts
  all_values no_trees h = tt
  all_values (tree t ts) h = (values t (front (flatten t) (flatten_all ts) h), all_values ts (behind (flatten t) (flatten_all ts) h))

pub sound_from : (t : Tree) (ns : List Node) → ns ≡ flatten t → IsTerm t → All HasValue ns → IsSound t
sound_from t ns e i h = record { arguments = i; values = values t (recursion_from_All HasValue (flatten t) (rw (← e) h)) }
