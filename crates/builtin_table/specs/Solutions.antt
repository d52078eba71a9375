-- All solutions of a goal: what findall/3, bagof/3 and setof/3 make of them (ISO/IEC 13211-1, 8.10).
use Rattle.std.specs.Prelude.{ℕ, ◌+◌, Bool, true, false, if◌then◌else◌, List, [], ◌∷◌, ◌++◌, map, drop, length, codes, bytes_eq}
use Rattle.std.specs.declared.cmp.Ordering.{Ordering}
use Rattle.std.specs.Ordering.{is_eq}
use Rattle.term_core.specs.Tree.{Tree, variable, integer, atom, compound, Trees, no_trees, tree}
use Rattle.term_core.specs.Order.{tree_cmp}
use Rattle.term_core.specs.Parts.{arguments_of}
use Rattle.term_core.specs.Variables.{variables, numbered, renamed, first_free}
use Rattle.builtin_table.specs.Errors.{two_arguments}
use Rattle.builtin_table.specs.Sorting.{sorted, sorted_set}
use Rattle.builtin_table.specs.Lists.{list_of, rest}
use Rattle.builtin_table.specs.Primitives.{Offer}

-- ---- copies

-- Terms whose variables are numbered from 0, one after the other: each takes the next numbers.
abbrev pub copies : ℕ → List Tree → List Tree
copies v [] = []
copies v (t ∷ ts) = renamed v t ∷ copies (v + first_free t) ts

-- the next number after them
abbrev pub after_copies : ℕ → List Tree → ℕ
after_copies v [] = v
after_copies v (t ∷ ts) = after_copies (v + first_free t) ts

-- ---- findall(T, G, L)

abbrev pub may_end_list : Tree → Bool
may_end_list (variable n) = true
may_end_list (integer z) = false
may_end_list (atom f) = bytes_eq f (codes "[]")
may_end_list (compound f ts) = false

-- whether a term is a variable or a proper or partial list
abbrev pub may_be_list : Tree → Bool
may_be_list t = may_end_list (rest t)

-- the list of the copies is the one result
abbrev pub findall_offers : (list : Tree) → List Tree → List Offer
findall_offers l ts = record { pairs = (l, list_of ts) ∷ []; fresh = 0 } ∷ []

-- ---- bagof(T, G, L) and setof(T, G, L): the goal behind V^

unfoldable mutual
  -- the goal behind the leading V^ (7.1.1.3)
  pub behind_carets : Tree → Tree
  behind_carets (variable n) = variable n
  behind_carets (integer z) = integer z
  behind_carets (atom f) = atom f
  behind_carets (compound f ts) = if bytes_eq f (codes "^") then behind_caret f ts else compound f ts

  pub behind_caret : List ℕ → Trees → Tree
  behind_caret f (tree v (tree g no_trees)) = behind_carets g
  behind_caret f ts = compound f ts

unfoldable mutual
  -- the terms V of the leading V^
  pub carets : Tree → List Tree
  carets (variable n) = []
  carets (integer z) = []
  carets (atom f) = []
  carets (compound f ts) = if bytes_eq f (codes "^") then carets_of ts else []

  pub carets_of : Trees → List Tree
  carets_of (tree v (tree g no_trees)) = v ∷ carets g
  carets_of ts = []

-- T and each V, whose variables aren't free
abbrev pub bound_terms : (template goal : Tree) → List Tree
bound_terms t g = t ∷ carets g

-- The free variables (7.1.1.4): those of the goal that are new after T and each V, by first occurrence.
abbrev pub free_variables : (template goal : Tree) → List ℕ
free_variables t g =
    drop (length (variables (list_of (bound_terms t g)))) (variables (list_of (bound_terms t g ++ behind_carets g ∷ [])))

-- the list of the free variables, whose instances are the witnesses
abbrev pub witness : (template goal : Tree) → Tree
witness t g = list_of (map variable (free_variables t g))

-- what is gathered: W-T
abbrev pub witnessed : (witness template : Tree) → Tree
witnessed w t = two_arguments (codes "-") w t

-- ---- groups

-- W and T of W-T
abbrev pub parted : List Tree → Tree → Tree × Tree
parted (w ∷ t ∷ []) s = (w, t)
parted ts s = (s, s)

abbrev pub parts : Tree → Tree × Tree
parts s = parted (arguments_of s) s

-- A solution W-T by its key: W with its variables numbered by first occurrence. Variants have the same key.
abbrev pub Keyed : Type 0
Keyed = Tree × Tree

abbrev pub keyed : Tree → Keyed
keyed s = (numbered (parts s).0, s)

abbrev pub key_cmp : Keyed → Keyed → Ordering
key_cmp a b = tree_cmp a.0 b.0

-- a solution in the group that follows, where it has its key, or else in a group of its own
abbrev pub joined : Keyed → List (List Keyed) → List (List Keyed)
joined a [] = (a ∷ []) ∷ []
joined a ([] ∷ gs) = (a ∷ []) ∷ gs
joined a ((b ∷ bs) ∷ gs) = if is_eq (key_cmp a b) then (a ∷ b ∷ bs) ∷ gs else (a ∷ []) ∷ (b ∷ bs) ∷ gs

-- neighbours of one key together
abbrev pub grouped : List Keyed → List (List Keyed)
grouped [] = []
grouped (a ∷ bs) = joined a (grouped bs)

-- The groups by the standard order of their keys; in each the solutions keep their order.
abbrev pub groups : List Tree → List (List Keyed)
groups ss = grouped (sorted key_cmp (map keyed ss))

-- what is unified for a group: the free variables with each witness, and L with the list that f makes of its terms
abbrev pub group_offer : (List Tree → List Tree) → (witness list : Tree) → List Keyed → Offer
group_offer f w l g = record {
  pairs = map (λ a. (w, (parts a.1).0)) g ++ (l, list_of (f (map (λ a. (parts a.1).1) g))) ∷ [];
  fresh = 0;
}

abbrev pub group_offers : (List Tree → List Tree) → (witness list : Tree) → List Tree → List Offer
group_offers f w l ss = map (group_offer f w l) (groups ss)

-- bagof/3 takes each group's terms as they come, and setof/3 sorts them and drops equal ones
abbrev pub bagof_offers : (witness list : Tree) → List Tree → List Offer
bagof_offers w l ss = group_offers (λ ts. ts) w l ss

abbrev pub setof_offers : (witness list : Tree) → List Tree → List Offer
setof_offers w l ss = group_offers sorted_set w l ss
