-- Sorting by the standard order (ISO/IEC 13211-1, Cor.2, 8.4.3 and 8.4.4).
use Rattle.std.specs.Prelude.{Bool, false, not, if◌then◌else◌, List, [], ◌∷◌, Some, None, Result, Ok, Err, codes, bytes_eq}
use Rattle.std.specs.List.{find, dedup}
use Rattle.std.specs.declared.cmp.Ordering.{Ordering}
use Rattle.std.specs.Ordering.{is_lt, eq_by_cmp}
use Rattle.term_core.specs.Tree.{Tree, compound, no_trees, tree}
use Rattle.term_core.specs.Order.{tree_cmp}
use Rattle.builtin_table.specs.Errors.{type_error}
use Rattle.builtin_table.specs.Lists.{list_of, needed_list, needed_values}
use Rattle.builtin_table.specs.Outcomes.{Outcome, unifies, ball}

module _ {A : Type 0} (cmp : A → A → Ordering) where
  -- before the first element that isn't less
  abbrev pub inserted : A → List A → List A
  inserted x [] = x ∷ []
  inserted x (y ∷ ys) = if is_lt (cmp y x) then y ∷ inserted x ys else x ∷ y ∷ ys

  -- the elements from the least to the greatest; those that compare as equal keep their order
  abbrev pub sorted : List A → List A
  sorted [] = []
  sorted (x ∷ xs) = inserted x (sorted xs)

-- terms by the standard order, and each of them once
abbrev pub sorted_terms : List Tree → List Tree
sorted_terms ts = sorted tree_cmp ts

abbrev pub sorted_set : List Tree → List Tree
sorted_set ts = dedup (eq_by_cmp tree_cmp) (sorted_terms ts)

-- msort(L, S)
abbrev pub msort_made : (s : Tree) → Result (List Tree) Tree → Outcome
msort_made s (Ok ts) = unifies s (list_of (sorted_terms ts))
msort_made s (Err e) = ball (codes "msort") 2 e

abbrev pub msort : Tree → Tree → Outcome
msort l s = msort_made s (needed_list l)

-- sort(L, S)
abbrev pub sort_made : (s : Tree) → Result (List Tree) Tree → Outcome
sort_made s (Ok ts) = unifies s (list_of (sorted_set ts))
sort_made s (Err e) = ball (codes "sort") 2 e

abbrev pub sort : Tree → Tree → Outcome
sort l s = sort_made s (needed_list l)

-- ---- pairs Key-Value

abbrev pub is_pair : Tree → Bool
is_pair (compound f (tree k (tree v no_trees))) = bytes_eq f (codes "-")
is_pair t = false

abbrev pub key_of : Tree → Tree
key_of (compound f (tree k ts)) = k
key_of t = t

abbrev pub key_cmp : Tree → Tree → Ordering
key_cmp t u = tree_cmp (key_of t) (key_of u)

-- these terms, which have to be pairs
abbrev pub pairs_among : Result (List Tree) Tree → Result (List Tree) Tree
pairs_among (Ok ts) = elim (find (λ t. not (is_pair t)) ts) [ Some t ↦ Err (type_error (codes "pair") t) | None ↦ Ok ts ]
pairs_among (Err e) = Err e

-- keysort(L, S)
abbrev pub keysort_made : (s : Tree) → Result (List Tree) Tree → Outcome
keysort_made s (Ok ts) = unifies s (list_of (sorted key_cmp ts))
keysort_made s (Err e) = ball (codes "keysort") 2 e

abbrev pub keysort : Tree → Tree → Outcome
keysort l s = keysort_made s (pairs_among (needed_values l))
