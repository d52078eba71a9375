-- What callers see of a store. A cell is a place, a number, and stands for a tree.
use Rattle.std.specs.Prelude.{◌≡◌, ℕ, zero, suc, ◌+◌, ◌<◌, ◌≤◌, List, [], ◌∷◌, map, length, slice_index_or, refl}
use Rattle.std.specs.Coded.{Coded, code_by, coded_ℕ, coded_list, coded×}
use Rattle.term_core.specs.Tree.{Tree, variable, atom}
use Rattle.std.specs.List.{All}
use Rattle.term_core.specs.Flat.{flatten, tree_code}
use Rattle.term_core.specs.Parts.{arguments_of}

pub record Cells : Type 0 where
  -- the trees of the cells, in the order of their places
  pub trees : List Tree
  -- the number of the next new variable
  pub next : ℕ
  -- the variables that are bound, each with its tree; no call binds one yet
  pub bound : List (ℕ × Tree)

abbrev pub cells_code : Coded Cells
cells_code =
    code_by (List Tree × (ℕ × List (ℕ × Tree))) (coded× (coded_list tree_code) (coded× coded_ℕ (coded_list (coded× coded_ℕ tree_code)))) (λ s. (s.trees, (s.next, s.bound))) (λ p. record { trees = p.0; next = p.1.0; bound = p.1.1 }) (λ _. refl)

abbrev pub IsCell : Cells → ℕ → Type 0
IsCell s c = c < length s.trees

abbrev pub tree_of : Cells → ℕ → Tree
tree_of s c = slice_index_or s.trees c (atom [])

-- the cells of the first store are cells of the second and stand for the same trees
pub record Keeps (old new : Cells) : Type 0 where
  pub cells : (c : ℕ) → IsCell old c → IsCell new c × (tree_of new c ≡ tree_of old c)
  pub next : old.next ≤ new.next
  pub bound : new.bound ≡ old.bound

-- a cell of the second store for this tree, where all else is as before
pub record Makes (old new : Cells) (c : ℕ) (t : Tree) : Type 0 where
  pub is_cell : IsCell new c
  pub tree : tree_of new c ≡ t
  pub keeps : Keeps old new

-- how many nodes a tree has
abbrev pub size : Tree → ℕ
size t = length (flatten t)

-- an argument of a tree, counted from 0
abbrev pub argument_of : Tree → ℕ → Tree
argument_of t i = slice_index_or (arguments_of t) i (atom [])

-- so many variables, numbered from the first
abbrev pub variables_from : (first many : ℕ) → List Tree
variables_from first zero = []
variables_from first (suc k) = variable first ∷ variables_from (first + 1) k

-- cells of the second store for these trees, where all else is as before
pub record MakesAll (old new : Cells) (cs : List ℕ) (ts : List Tree) : Type 0 where
  pub cells : All (IsCell new) cs
  pub trees : map (tree_of new) cs ≡ ts
  pub keeps : Keeps old new
