-- The variables of a term, and a term with other variables.
use Rattle.std.specs.Prelude.{ℕ, suc, ◌+◌, max, cond, ◌==◌, List, [], ◌∷◌, ◌++◌}
use Rattle.std.specs.List.{list_any}
use Rattle.term_core.specs.Tree.{Tree, variable, integer, atom, compound, Trees, no_trees, tree}

-- the variables' numbers in the order of the text, each as often as it stands there
abbrev mutual
  pub occurrences : Tree → List ℕ
  occurrences (variable n) = n ∷ []
  occurrences (integer z) = []
  occurrences (atom a) = []
  occurrences (compound f ts) = all_occurrences ts

  pub all_occurrences : Trees → List ℕ
  all_occurrences no_trees = []
  all_occurrences (tree t ts) = occurrences t ++ all_occurrences ts

-- the numbers with n at their end, unless it is among them
abbrev pub with_new : List ℕ → ℕ → List ℕ
with_new seen n = cond (list_any (λ m. m == n) seen) seen (seen ++ n ∷ [])

-- each number once, where it comes first, after those seen already
abbrev pub distinct_after : List ℕ → List ℕ → List ℕ
distinct_after seen [] = seen
distinct_after seen (n ∷ ns) = distinct_after (with_new seen n) ns

-- the variables by first occurrence
abbrev pub variables : Tree → List ℕ
variables t = distinct_after [] (occurrences t)

-- f of each variable's number
module _ (f : ℕ → ℕ) where
  abbrev mutual
    pub map_variables : Tree → Tree
    map_variables (variable n) = variable (f n)
    map_variables (integer z) = integer z
    map_variables (atom a) = atom a
    map_variables (compound g ts) = compound g (map_all_variables ts)

    pub map_all_variables : Trees → Trees
    map_all_variables no_trees = no_trees
    map_all_variables (tree t ts) = tree (map_variables t) (map_all_variables ts)

-- the variables' numbers raised by base
abbrev pub renamed : ℕ → Tree → Tree
renamed base t = map_variables (λ n. n + base) t

-- where n stands first, or the length
abbrev pub place_of : ℕ → List ℕ → ℕ
place_of n [] = 0
place_of n (m ∷ ms) = cond (m == n) 0 (suc (place_of n ms))

-- the variables numbered from 0 by first occurrence
abbrev pub numbered : Tree → Tree
numbered t = map_variables (λ n. place_of n (variables t)) t

-- one above the greatest of these numbers, or 0
abbrev pub above_all : List ℕ → ℕ
above_all [] = 0
above_all (n ∷ ns) = max (suc n) (above_all ns)

-- the first number that is above each variable of the term
abbrev pub first_free : Tree → ℕ
first_free t = above_all (occurrences t)
