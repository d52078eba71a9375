-- How solutions are put into groups.
use Rattle.std.specs.Prelude.{Bool, false, not, List, [], ◌∷◌, ◌++◌, map, reverse}
use Rattle.std.specs.Ordering.{is_eq}
use Rattle.term_core.specs.Tree.{Tree}
use Rattle.term_core.specs.Order.{tree_cmp}
use Rattle.builtin_table.specs.Sorting.{sorted_set}
use Rattle.builtin_table.specs.Lists.{list_of}
use Rattle.builtin_table.specs.Solutions.{Keyed, parts, groups}
use Rattle.tree_results.specs.Placed.{Result}
use Rattle.tree_lists.specs.declared.solutions.Arrangement.{Arrangement}
use Rattle.tree_lists.specs.declared.solutions.Arrangement.TheVariants as arrangement

-- whether a group's first solution has another key
abbrev pub first_is_other : List Keyed → Tree → Bool
first_is_other [] k = false
first_is_other (a ∷ bs) k = not (is_eq (tree_cmp k a.0))

-- groups of which the last comes first, and in each the last solution first
abbrev pub groups_of : List (List Keyed) → List (List Keyed)
groups_of gs = reverse (map reverse gs)

abbrev pub arranged : Arrangement → List Tree → List Tree
arranged arrangement.AsFound = λ ts. ts
arranged arrangement.Sorted = sorted_set

-- ---- results over two arguments: the witness, which findall/3 hasn't, and the list

-- what is unified for a group, with the list that f makes of its terms
abbrev pub placed_group : (List Tree → List Tree) → List Keyed → Result
placed_group f g = record { pairs = map (λ a. (0, (parts a.1).0)) g ++ (1, list_of (f (map (λ a. (parts a.1).1) g))) ∷ []; fresh = 0 }

abbrev pub placed_groups : (List Tree → List Tree) → List Tree → List Result
placed_groups f ss = map (placed_group f) (groups ss)

abbrev pub placed_list : List Tree → Result
placed_list ts = record { pairs = (1, list_of ts) ∷ []; fresh = 0 }
