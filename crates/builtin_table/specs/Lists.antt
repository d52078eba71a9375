-- Lists as terms (ISO/IEC 13211-1, 6.3.5): cells of an element and a rest, up to the atom [].
use Rattle.std.specs.Prelude.{ℕ, Bool, false, if◌then◌else◌, List, [], ◌∷◌, Result, Ok, Err, codes, bytes_eq}
use Rattle.std.specs.List.{list_any}
use Rattle.term_core.specs.Tree.{Tree, variable, integer, atom, compound, Trees, no_trees, tree}
use Rattle.builtin_table.specs.Errors.{two_arguments, instantiation_error, type_error}
use Rattle.builtin_table.specs.Outcomes.{is_variable}

abbrev pub empty_list : Tree
empty_list = atom (codes "[]")

abbrev pub cell : Tree → Tree → Tree
cell h t = two_arguments (codes ".") h t

-- the list of these elements
abbrev pub list_of : List Tree → Tree
list_of [] = empty_list
list_of (t ∷ ts) = cell t (list_of ts)

unfoldable mutual
  -- the elements of the cells that a term begins with
  pub elements : Tree → List Tree
  elements (variable n) = []
  elements (integer z) = []
  elements (atom f) = []
  elements (compound f ts) = if bytes_eq f (codes ".") then elements_of_cell ts else []

  pub elements_of_cell : Trees → List Tree
  elements_of_cell (tree h (tree t no_trees)) = h ∷ elements t
  elements_of_cell ts = []

unfoldable mutual
  -- what follows these cells
  pub rest : Tree → Tree
  rest (variable n) = variable n
  rest (integer z) = integer z
  rest (atom f) = atom f
  rest (compound f ts) = if bytes_eq f (codes ".") then rest_of_cell f ts else compound f ts

  pub rest_of_cell : List ℕ → Trees → Tree
  rest_of_cell f (tree h (tree t no_trees)) = rest t
  rest_of_cell f ts = compound f ts

abbrev pub is_empty_list : Tree → Bool
is_empty_list (variable n) = false
is_empty_list (integer z) = false
is_empty_list (atom f) = bytes_eq f (codes "[]")
is_empty_list (compound f ts) = false

-- nothing but [] follows the cells
abbrev pub is_list : Tree → Bool
is_list t = is_empty_list (rest t)

-- ---- lists that are needed

-- these elements of l, where only [] is after them, or what is wrong
abbrev pub elements_before : (l : Tree) → List Tree → (after : Tree) → Result (List Tree) Tree
elements_before l ts (variable n) = Err instantiation_error
elements_before l ts r = if is_empty_list r then Ok ts else Err (type_error (codes "list") l)

-- the elements of a list, or what is wrong
abbrev pub needed_list : Tree → Result (List Tree) Tree
needed_list l = elements_before l (elements l) (rest l)

abbrev pub bound : Result (List Tree) Tree → Result (List Tree) Tree
bound (Ok ts) = if list_any is_variable ts then Err instantiation_error else Ok ts
bound (Err e) = Err e

-- the same, where no element may be a variable
abbrev pub needed_values : Tree → Result (List Tree) Tree
needed_values l = bound (needed_list l)
