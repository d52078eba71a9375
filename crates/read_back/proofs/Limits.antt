-- The limits of what is read hold of a term's numbered copy.
use Rattle.std.specs.Prelude.{◌≡◌, refl, ℕ, ◌≤◌, ◌^◌, ℤ, pos, negsuc, true, nat_le}
use Rattle.std.specs.List.{list_all}
use Rattle.std.proofs.Common.{arith, ◌∙◌}
use Rattle.std.proofs.lemmas.Bool.{and_from, lt-ltb}
use Rattle.std.proofs.lemmas.List.Folds.{list_all-append}
use Rattle.term_core.specs.Tree.{Tree, variable, integer, atom, compound, Trees, no_trees, tree, arity, depth, IsTerm, AreTerms}
use Rattle.term_core.specs.Flat.{flatten, flatten_all}
use Rattle.term_core.specs.Variables.{map_variables, map_all_variables}
use Rattle.term_core.proofs.Renaming.{depth-map_variables, IsTerm-map_variables}
use Rattle.prolog_grammar.specs.Read.{has_arguments, is_within}
use Rattle.prolog_read.specs.Reads.{has_range, in_range}
use Rattle.read_back.specs.Sound.{IsSized, HasValues, HaveValues}

at_most : (a b : ℕ) → a ≤ b → nat_le a b ≡ true
at_most a b h = grind (arith, h)

mutual
  arguments_fit : (t : Tree) → IsTerm t → list_all has_arguments (flatten t) ≡ true
  arguments_fit (variable n) h = refl
  arguments_fit (integer z) h = refl
  arguments_fit (atom f) h = refl
  arguments_fit (compound f ts) h =
      and_from _ _ (and_from _ _ (at_most 1 (arity ts) h.0) (at_most (arity ts) 1024 h.1)) (all_arguments_fit ts h.2)

  all_arguments_fit : (ts : Trees) → AreTerms ts → list_all has_arguments (flatten_all ts) ≡ true
  all_arguments_fit no_trees h = refl
  all_arguments_fit (tree t ts) h =
      list_all-append has_arguments (flatten t) (flatten_all ts) ∙ and_from _ _ (arguments_fit t h.0) (all_arguments_fit ts h.1)

sized : (z : ℤ) → IsSized z → in_range z ≡ true
sized (pos n) h = lt-ltb n (2 ^ 127) h
sized (negsuc n) h = lt-ltb n (2 ^ 127) h

-- the key of each variable
module _ (key : ℕ → ℕ) where
  mutual
    pub ranged : (t : Tree) → HasValues t → list_all has_range (flatten (map_variables key t)) ≡ true
    ranged (variable n) h = refl
    ranged (integer z) h = and_from _ _ (sized z h) refl
    ranged (atom f) h = refl
    ranged (compound f ts) h = all_ranged ts h.1

    all_ranged : (ts : Trees) → HaveValues ts → list_all has_range (flatten_all (map_all_variables key ts)) ≡ true
    all_ranged no_trees h = refl
    all_ranged (tree t ts) h =
        list_all-append has_range (flatten (map_variables key t)) (flatten_all (map_all_variables key ts)) ∙ and_from _ _ (ranged t h.0) (all_ranged ts h.1)

  pub within : (t : Tree) → IsTerm t → depth t ≤ 1000 → is_within (map_variables key t) ≡ true
  within t h d =
      and_from _ _ (arguments_fit (map_variables key t) (IsTerm-map_variables key t h)) (rw (depth-map_variables key t) (at_most (depth t) 1000 d))
