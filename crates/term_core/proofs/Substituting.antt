-- Substitutions one after another.
use Rattle.std.proofs.Common.{◌≡◌, ℕ, List, [], ◌∷◌, ◌++◌, map, Bool, true, false, cond, ◌==◌, refl, ap, ◌∙◌, sym, arith, subst, Option}
use Rattle.std.specs.List.{zip, list_any}
use Rattle.std.specs.Option.{option_map}
use Rattle.std.proofs.lemmas.Bool.Decides.{nat_tests}
use Rattle.std.proofs.lemmas.List.Folds.{list_any-append}
use Rattle.term_core.specs.Tree.{Tree, variable, integer, atom, compound, Trees, no_trees, tree}
use Rattle.term_core.specs.Substitution.{substituted, all_substituted, value_of, apply, only, extended, pairs_substituted, followed_by}
use Rattle.term_core.specs.Variables.{occurrences, all_occurrences}
use Rattle.term_core.specs.Unification.{contains_variable, Solves, at_end, at_clash, after_reduce, after_bind}
use Rattle.term_core.specs.Unifier.{Pairs, Pointwise, first_false, second_false, solution, turns, by_derivation, Solves-solution}

-- a variable for itself changes nothing
mutual
  pub substituted-variable : (t : Tree) → substituted variable t ≡ t
  substituted-variable (variable n) = refl
  substituted-variable (integer z) = refl
  substituted-variable (atom a) = refl
  substituted-variable (compound f ts) = ap (compound f) (all_substituted-variable ts)

  all_substituted-variable : (ts : Trees) → all_substituted variable ts ≡ ts
  all_substituted-variable no_trees = refl
  all_substituted-variable (tree t ts) = rw (substituted-variable t, all_substituted-variable ts)

-- one substitution and then another is one
module _ (g h : ℕ → Tree) where
  mutual
    pub substituted-substituted : (t : Tree) → substituted h (substituted g t) ≡ substituted (λ n. substituted h (g n)) t
    substituted-substituted (variable n) = refl
    substituted-substituted (integer z) = refl
    substituted-substituted (atom a) = refl
    substituted-substituted (compound f ts) = ap (compound f) (all_substituted-substituted ts)

    all_substituted-substituted : (ts : Trees) → all_substituted h (all_substituted g ts) ≡ all_substituted (λ n. substituted h (g n)) ts
    all_substituted-substituted no_trees = refl
    all_substituted-substituted (tree t ts) = rw (substituted-substituted t, all_substituted-substituted ts)

either_way : (m n : ℕ) → (n == m) ≡ (m == n)
either_way m n = grind (arith, nat_tests)

value_of-only : (m : ℕ) (u : Tree) (n : ℕ) → value_of ((m, u) ∷ []) n ≡ only m u n
value_of-only m u n = ap (λ b. cond b u (variable n)) (sym (either_way m n))

-- a binding by itself
pub only_is : (m : ℕ) (u : Tree) → only m u ≡ value_of ((m, u) ∷ [])
only_is m u = λ i n. sym (value_of-only m u n) i

by_case : (b : Bool) (g : Tree → Tree) (t u : Tree) → g (cond b t u) ≡ cond b (g t) (g u)
by_case true g t u = refl
by_case false g t u = refl

module _ (m : ℕ) (u : Tree) where
  pub value_of-extended : (c : Pointwise) (n : ℕ) → value_of (extended c m u) n ≡ substituted (only m u) (value_of c n)
  value_of-extended [] n = value_of-only m u n
  value_of-extended (p ∷ ps) n =
      ap (cond (p.0 == n) (substituted (only m u) p.1)) (value_of-extended ps n)
      ∙ sym (by_case (p.0 == n) (substituted (only m u)) p.1 (value_of ps n))

  -- a term under a substitution, and then under one more binding
  pub apply-extended : (c : Pointwise) (t : Tree) → substituted (only m u) (apply c t) ≡ apply (extended c m u) t
  apply-extended c t =
      substituted-substituted (value_of c) (only m u) t ∙ ap (λ g. substituted g t) (λ i n. sym (value_of-extended c n) i)

  pub contains-more : (xs ys : List ℕ) → list_any (λ n. n == m) (xs ++ ys) ≡ false → (list_any (λ n. n == m) xs ≡ false) × (list_any (λ n. n == m) ys ≡ false)
  contains-more xs ys h =
      let both = sym (list_any-append (λ n. n == m) xs ys) ∙ h in
      (first_false (list_any (λ n. n == m) xs) (list_any (λ n. n == m) ys) both, second_false (list_any (λ n. n == m) xs) (list_any (λ n. n == m) ys) both)

  -- a term without the variable stays
  mutual
    pub substituted-outside : (t : Tree) → contains_variable m t ≡ false → substituted (only m u) t ≡ t
    substituted-outside (variable n) h = ap (λ b. cond b u (variable n)) (first_false (n == m) false h)
    substituted-outside (integer z) h = refl
    substituted-outside (atom a) h = refl
    substituted-outside (compound f ts) h = ap (compound f) (all_substituted-outside ts h)

    all_substituted-outside : (ts : Trees) → list_any (λ n. n == m) (all_occurrences ts) ≡ false → all_substituted (only m u) ts ≡ ts
    all_substituted-outside no_trees h = refl
    all_substituted-outside (tree t ts) h =
        let both = contains-more (occurrences t) (all_occurrences ts) h in
        (λ i. tree (substituted-outside t both.0 i) (all_substituted-outside ts both.1 i))

  pub extended-followed_by : (s c : Pointwise) → extended (followed_by s c) m u ≡ followed_by s (extended c m u)
  extended-followed_by [] c = refl
  extended-followed_by (p ∷ s) c =
      ap (λ t. (p.0, t) ∷ extended (followed_by s c) m u) (apply-extended c p.1)
      ∙ ap (λ ps. (p.0, apply (extended c m u) p.1) ∷ ps) (extended-followed_by s c)

  -- one more binding is a substitution that follows
  pub extended_is : (s : Pointwise) → extended s m u ≡ followed_by s ((m, u) ∷ [])
  extended_is s = ap (λ g. map (λ p. (p.0, substituted g p.1)) s ++ (m, u) ∷ []) (only_is m u)

pub followed_by-nil : (s : Pointwise) → followed_by s [] ≡ s
followed_by-nil [] = refl
followed_by-nil (p ∷ s) =
    ap (λ t. (p.0, t) ∷ followed_by s []) (substituted-variable p.1) ∙ ap (λ ps. p ∷ ps) (followed_by-nil s)

-- what solves pairs after a substitution is that substitution, followed by what solves them after none
module _ (s : Pointwise) where
  Solves-followed_by : {ps : Pairs} {c : Pointwise} {n : ℕ} {r : Option Pointwise} → Solves ps c n r → Solves ps (followed_by s c) n (option_map (followed_by s) r)
  Solves-followed_by (at_end e) = at_end e
  Solves-followed_by (at_clash e) = at_clash e
  Solves-followed_by (after_reduce e d) = after_reduce e (Solves-followed_by d)
  Solves-followed_by (after_bind {qs = qs} {s = c} {n = n} {r = r} {m = m} {u = u} e d) =
      after_bind e (subst (λ x. Solves (pairs_substituted (only m u) qs) x n (option_map (followed_by s) r)) (sym (extended-followed_by m u s c)) (Solves-followed_by d))

  pub solution-followed_by : (ps : Pairs) → solution ps s ≡ option_map (followed_by s) (solution ps [])
  solution-followed_by ps =
      (by_derivation (subst (λ x. Solves ps x (turns ps []) (option_map (followed_by s) (solution ps []))) (followed_by-nil s) (Solves-followed_by (Solves-solution ps [])))).1

pub pairs_substituted-zip : (g : ℕ → Tree) (ts us : List Tree) → pairs_substituted g (zip ts us) ≡ zip (map (substituted g) ts) (map (substituted g) us)
pairs_substituted-zip g [] us = refl
pairs_substituted-zip g (t ∷ ts) [] = refl
pairs_substituted-zip g (t ∷ ts) (u ∷ us) =
    ap (λ ps. (substituted g t, substituted g u) ∷ ps) (pairs_substituted-zip g ts us)
