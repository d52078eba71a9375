-- New variables.
use Rattle.std.proofs.Common.{◌≡◌, ℕ, zero, suc, ◌+◌, ◌≤◌, Bool, true, false, List, [], ◌∷◌, ◌++◌, length, cond, ◌==◌, refl, ap, ◌∙◌, arith}
use Rattle.term_core.specs.Tree.{Tree, variable, integer, atom, compound, Trees, no_trees, tree, greatest}
use Rattle.term_core.specs.Variables.{occurrences, all_occurrences, variables, place_of, map_variables, map_all_variables, numbered}
use Rattle.builtin_table.specs.Primitives.{new_variables}

-- one more
pub new_variables-more : (next k : ℕ) (vs : List Tree) (t : Tree) → vs ≡ new_variables next k → t ≡ variable (next + k) → vs ++ t ∷ [] ≡ new_variables next (k + 1)
new_variables-more next k vs t e d =
    ap (λ us. us ++ t ∷ []) e ∙ ap (λ u. new_variables next k ++ u ∷ []) d ∙ by next k ∙ ap (new_variables next) (let g : suc k ≡ k + 1 = omega arith in g)
  where
    by : (next k : ℕ) → new_variables next k ++ variable (next + k) ∷ [] ≡ new_variables next (suc k)
    by next zero = ap (λ n. variable n ∷ []) (let g : next + 0 ≡ next = omega arith in g)
    by next (suc k) =
        ap (λ us. variable next ∷ us) (ap (λ n. new_variables (next + 1) k ++ variable n ∷ []) (let g : next + suc k ≡ next + 1 + k = omega arith in g) ∙ by (next + 1) k)

at_most : (b : Bool) (k n : ℕ) → k ≤ n → cond b 0 (suc k) ≤ suc n
at_most true k n h = omega arith
at_most false k n h = omega (arith, h)

place_of-le : (n : ℕ) (ms : List ℕ) → place_of n ms ≤ length ms
place_of-le n [] = omega arith
place_of-le n (m ∷ ms) = at_most (m == n) (place_of n ms) (length ms) (place_of-le n ms)

greatest-append : (ms ns : List ℕ) (k : ℕ) → greatest ms ≤ k → greatest ns ≤ k → greatest (ms ++ ns) ≤ k
greatest-append [] ns k h g = g
greatest-append (m ∷ ms) ns k h g = omega (arith, h, greatest-append ms ns k (omega (arith, h)) g)

module _ (f : ℕ → ℕ) (k : ℕ) (h : (n : ℕ) → f n ≤ k) where
  mutual
    within : (t : Tree) → greatest (occurrences (map_variables f t)) ≤ k
    within (variable n) = omega (arith, h n)
    within (integer z) = omega arith
    within (atom g) = omega arith
    within (compound g ts) = all_within ts

    all_within : (ts : Trees) → greatest (all_occurrences (map_all_variables f ts)) ≤ k
    all_within no_trees = omega arith
    all_within (tree t ts) = greatest-append (occurrences (map_variables f t)) (all_occurrences (map_all_variables f ts)) k (within t) (all_within ts)

-- a term's variables, numbered, are no more than there are
pub greatest-numbered : (t : Tree) → greatest (occurrences (numbered t)) ≤ length (variables t)
greatest-numbered t = within (λ n. place_of n (variables t)) (length (variables t)) (λ n. place_of-le n (variables t)) t

pub length-new_variables : (next k : ℕ) → length (new_variables next k) ≡ k
length-new_variables next zero = refl
length-new_variables next (suc k) = omega (arith, length-new_variables (next + 1) k)
