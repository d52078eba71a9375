-- Which terms may be run as goals.
use Rattle.std.specs.Prelude.{ℕ, Bool, true, false, ◌&&◌, ◌||◌, ◌==◌, List, if◌then◌else◌, codes, bytes_eq}
use Rattle.term_core.specs.Tree.{Tree, variable, integer, atom, compound, Trees, no_trees, tree, arity}

-- the connectives, whose two arguments are bodies
abbrev pub is_connective : List ℕ → Bool
is_connective f = (bytes_eq f (codes ",") || bytes_eq f (codes ";")) || bytes_eq f (codes "->")

-- A term is a body unless an integer stands where a goal must (ISO 13211-1, 7.6.2).
unfoldable mutual
  pub is_body : Tree → Bool
  is_body (variable n) = true
  is_body (integer z) = false
  is_body (atom f) = true
  is_body (compound f ts) = if is_connective f && arity ts == 2 then are_bodies ts else true

  pub are_bodies : Trees → Bool
  are_bodies no_trees = true
  are_bodies (tree t ts) = is_body t && are_bodies ts
