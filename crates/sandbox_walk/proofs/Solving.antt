-- What a unifier does: it refines the substitution, and makes the terms of each pair the same.
use Rattle.std.proofs.Common.{◌≡◌, ℕ, Bool, true, false, cond, ◌&&◌, ◌||◌, ◌==◌, nat_lt, ℤ, List, [], ◌∷◌, ◌++◌, bytes_eq, Option, Some, None, refl, ap, sym, subst, ◌∙◌, arith}
use Rattle.std.specs.List.{list_any}
use Rattle.std.specs.declared.cmp.Ordering.{Ordering}
use Rattle.std.specs.declared.cmp.Ordering.TheVariants.{Less, Equal, Greater}
use Rattle.std.specs.Ordering.{is_eq, int_cmp}
use Rattle.std.proofs.lemmas.Map.Lookups.{exact_signed}
use Rattle.std.specs.Cmp.Lexicographic.{bytes_decides}
use Rattle.std.proofs.lemmas.Bool.{and_parts, eqb-true}
use Rattle.std.proofs.lemmas.Bool.Decides.{nat_tests}
use Rattle.term_core.specs.Tree.{Tree, variable, integer, atom, compound, Trees, no_trees, tree, arity}
use Rattle.term_core.specs.Variables.{occurrences, all_occurrences}
use Rattle.term_core.specs.Substitution.{substituted, all_substituted, value_of, apply, only, extended, pairs_substituted}
use Rattle.term_core.specs.Unification.{Step, solved, clash, reduce, bind, beside, contains_variable, variables_step, occurs_check, same_step, pair_step, first_step, Solves, at_end, at_clash, after_reduce, after_bind}
use Rattle.term_core.specs.Unifier.{Pairs, Pointwise, Solves-solution, mgu}
use Rattle.term_core.proofs.Substituting.{substituted-substituted}

module _ (g : ℕ → Tree) where
  -- g makes the terms of each pair the same
  abbrev pub Agree : Pairs → Type 0
  Agree [] = Unit {0}
  Agree (p ∷ ps) = (substituted g p.0 ≡ substituted g p.1) × Agree ps

  agree_beside : (ts us : Trees) (ps : Pairs) → arity ts ≡ arity us → Agree (beside ts us ps) → (all_substituted g ts ≡ all_substituted g us) × Agree ps
  agree_beside no_trees no_trees ps e h = (refl, h)
  agree_beside no_trees (tree u us) ps e h = absurd (omega (arith, e))
  agree_beside (tree t ts) no_trees ps e h = absurd (omega (arith, e))
  agree_beside (tree t ts) (tree u us) ps e h =
      let rest = agree_beside ts us ps (omega (arith, e)) h.1 in
      (ap (λ (x : Tree). tree x (all_substituted g ts)) h.0 ∙ ap (tree (substituted g u)) rest.0, rest.1)

  -- a pair by its first step, which is no binding
  abbrev Then : Tree → Tree → Pairs → Step → Type 0
  Then a b ps solved = ⊥
  Then a b ps clash = Unit {0}
  Then a b ps (reduce qs) = Agree qs → (substituted g a ≡ substituted g b) × Agree ps
  Then a b ps (bind m u qs) = (g m ≡ substituted g u) → Agree qs → (substituted g a ≡ substituted g b) × Agree ps

  then_check : (a b : Tree) (m : ℕ) (u : Tree) (ps : Pairs) → ((g m ≡ substituted g u) → substituted g a ≡ substituted g b) → Then a b ps (occurs_check m u ps)
  then_check a b m u ps h = by (contains_variable m u)
    where
      by : (c : Bool) → Then a b ps (cond c clash (bind m u ps))
      by true = tt
      by false = λ e k. (h e, k)

  then_variables : (m n : ℕ) (ps : Pairs) → Then (variable m) (variable n) ps (variables_step m n ps)
  then_variables m n ps = by (m == n) (nat_lt m n) refl
    where
      by : (b c : Bool) → (m == n) ≡ b → Then (variable m) (variable n) ps (cond b (reduce ps) (cond c (bind n (variable m) ps) (bind m (variable n) ps)))
      by true c e = λ k. (ap g (eqb-true m n e), k)
      by false true e = λ h k. (sym h, k)
      by false false e = λ h k. (h, k)

  then_same : (a b : Tree) (c : Bool) (ps qs : Pairs) → ((c ≡ true) → Agree qs → (substituted g a ≡ substituted g b) × Agree ps) → Then a b ps (same_step c qs)
  then_same a b true ps qs h = h refl
  then_same a b false ps qs h = tt

  int_same : (y z : ℤ) → is_eq (int_cmp y z) ≡ true → y ≡ z
  int_same y z h = exact_signed y z (equal (int_cmp y z) h)
    where
      equal : (o : Ordering) → is_eq o ≡ true → o ≡ Equal
      equal Less e = cc
      equal Equal e = refl
      equal Greater e = cc

  then_pair : (a b : Tree) (ps : Pairs) → Then a b ps (pair_step a b ps)
  then_pair (variable m) (variable n) ps = then_variables m n ps
  then_pair (variable m) (integer z) ps = then_check (variable m) (integer z) m (integer z) ps (λ h. h)
  then_pair (variable m) (atom b) ps = then_check (variable m) (atom b) m (atom b) ps (λ h. h)
  then_pair (variable m) (compound f us) ps = then_check (variable m) (compound f us) m (compound f us) ps (λ h. h)
  then_pair (integer y) (variable n) ps = then_check (integer y) (variable n) n (integer y) ps (λ h. sym h)
  then_pair (integer y) (integer z) ps = then_same (integer y) (integer z) (is_eq (int_cmp y z)) ps ps (λ e k. (ap integer (int_same y z e), k))
  then_pair (integer y) (atom b) ps = tt
  then_pair (integer y) (compound f us) ps = tt
  then_pair (atom a) (variable n) ps = then_check (atom a) (variable n) n (atom a) ps (λ h. sym h)
  then_pair (atom a) (integer z) ps = tt
  then_pair (atom a) (atom b) ps = then_same (atom a) (atom b) (bytes_eq a b) ps ps (λ e k. (ap atom ((bytes_decides a b).0 e), k))
  then_pair (atom a) (compound f us) ps = tt
  then_pair (compound f ts) (variable n) ps = then_check (compound f ts) (variable n) n (compound f ts) ps (λ h. sym h)
  then_pair (compound f ts) (integer z) ps = tt
  then_pair (compound f ts) (atom b) ps = tt
  then_pair (compound f ts) (compound h us) ps =
      then_same (compound f ts) (compound h us) (bytes_eq f h && arity ts == arity us) ps (beside ts us ps)
      (λ e k.
      let parts = and_parts (bytes_eq f h) (arity ts == arity us) e in
      let rest = agree_beside ts us ps (eqb-true (arity ts) (arity us) parts.1) k in
      (ap (λ (x : List ℕ). compound x (all_substituted g ts)) ((bytes_decides f h).0 parts.0) ∙ ap (compound h) rest.0, rest.1))

-- ---- a binding leaves its own term

or_parts : (a b : Bool) → (a || b) ≡ false → (a ≡ false) × (b ≡ false)
or_parts true b e = cc
or_parts false b e = (refl, e)

any_parts : (m : ℕ) (xs ys : List ℕ) → list_any (λ n. n == m) (xs ++ ys) ≡ false → (list_any (λ n. n == m) xs ≡ false) × (list_any (λ n. n == m) ys ≡ false)
any_parts m [] ys e = (refl, e)
any_parts m (x ∷ xs) ys e =
    let p = or_parts (x == m) (list_any (λ n. n == m) (xs ++ ys)) e in
    let q = any_parts m xs ys p.1 in
    (ap (λ (b : Bool). b || list_any (λ n. n == m) xs) p.0 ∙ q.0, q.1)

module _ (m : ℕ) (u : Tree) where
  mutual
    unaffected : (t : Tree) → contains_variable m t ≡ false → substituted (only m u) t ≡ t
    unaffected (variable n) e = ap (λ (b : Bool). cond b u (variable n)) (or_parts (n == m) false e).0
    unaffected (integer z) e = refl
    unaffected (atom a) e = refl
    unaffected (compound f ts) e = ap (compound f) (unaffected_all ts e)

    unaffected_all : (ts : Trees) → list_any (λ n. n == m) (all_occurrences ts) ≡ false → all_substituted (only m u) ts ≡ ts
    unaffected_all no_trees e = refl
    unaffected_all (tree t ts) e =
        let p = any_parts m (occurrences t) (all_occurrences ts) e in
        ap (λ (x : Tree). tree x (all_substituted (only m u) ts)) (unaffected t p.0) ∙ ap (tree t) (unaffected_all ts p.1)

abbrev Fresh : Step → Type 0
Fresh solved = Unit {0}
Fresh clash = Unit {0}
Fresh (reduce qs) = Unit {0}
Fresh (bind m u qs) = substituted (only m u) u ≡ u

fresh_check : (m : ℕ) (u : Tree) (ps : Pairs) → Fresh (occurs_check m u ps)
fresh_check m u ps = by (contains_variable m u) refl
  where
    by : (b : Bool) → contains_variable m u ≡ b → Fresh (cond b clash (bind m u ps))
    by true e = tt
    by false e = unaffected m u u e

fresh_variables : (m n : ℕ) (ps : Pairs) → Fresh (variables_step m n ps)
fresh_variables m n ps = by (m == n) (nat_lt m n)
  where
    either : (b : Bool) (t : Tree) → cond b t t ≡ t
    either true t = refl
    either false t = refl

    by : (b c : Bool) → Fresh (cond b (reduce ps) (cond c (bind n (variable m) ps) (bind m (variable n) ps)))
    by true c = tt
    by false true = either (m == n) (variable m)
    by false false = either (n == m) (variable n)

fresh_same : (c : Bool) (qs : Pairs) → Fresh (same_step c qs)
fresh_same true qs = tt
fresh_same false qs = tt

fresh_pair : (a b : Tree) (ps : Pairs) → Fresh (pair_step a b ps)
fresh_pair (variable m) (variable n) ps = fresh_variables m n ps
fresh_pair (variable m) (integer z) ps = fresh_check m (integer z) ps
fresh_pair (variable m) (atom b) ps = fresh_check m (atom b) ps
fresh_pair (variable m) (compound f us) ps = fresh_check m (compound f us) ps
fresh_pair (integer y) (variable n) ps = fresh_check n (integer y) ps
fresh_pair (integer y) (integer z) ps = fresh_same (is_eq (int_cmp y z)) ps
fresh_pair (integer y) (atom b) ps = tt
fresh_pair (integer y) (compound f us) ps = tt
fresh_pair (atom a) (variable n) ps = fresh_check n (atom a) ps
fresh_pair (atom a) (integer z) ps = tt
fresh_pair (atom a) (atom b) ps = fresh_same (bytes_eq a b) ps
fresh_pair (atom a) (compound f us) ps = tt
fresh_pair (compound f ts) (variable n) ps = fresh_check n (compound f ts) ps
fresh_pair (compound f ts) (integer z) ps = tt
fresh_pair (compound f ts) (atom b) ps = tt
fresh_pair (compound f ts) (compound h us) ps = fresh_same (bytes_eq f h && arity ts == arity us) (beside ts us ps)

fresh_first : (ps : Pairs) → Fresh (first_step ps)
fresh_first [] = tt
fresh_first (p ∷ ps) = fresh_pair p.0 p.1 ps

-- ---- what a solution is

-- x is s, and then `after`, which makes the terms of each pair the same
pub record Refines (s x : Pointwise) (ps : Pairs) : Type 0 where
  pub by : ℕ → Tree
  pub refines : (t : Tree) → apply x t ≡ substituted by (apply s t)
  pub agrees : Agree by ps

mutual
  itself : (t : Tree) → substituted variable t ≡ t
  itself (variable n) = refl
  itself (integer z) = refl
  itself (atom a) = refl
  itself (compound f ts) = ap (compound f) (all_itself ts)

  all_itself : (ts : Trees) → all_substituted variable ts ≡ ts
  all_itself no_trees = refl
  all_itself (tree t ts) = ap (λ (x : Tree). tree x (all_substituted variable ts)) (itself t) ∙ ap (tree t) (all_itself ts)

abbrev Steps : (g : ℕ → Tree) → Pairs → Step → Type 0
Steps g ps solved = Agree g ps
Steps g ps clash = Unit {0}
Steps g ps (reduce qs) = Agree g qs → Agree g ps
Steps g ps (bind m u qs) = (g m ≡ substituted g u) → Agree g qs → Agree g ps

steps_then : (g : ℕ → Tree) (a b : Tree) (ps : Pairs) (x : Step) → Then g a b ps x → Steps g ((a, b) ∷ ps) x
steps_then g a b ps solved h = absurd h
steps_then g a b ps clash h = tt
steps_then g a b ps (reduce qs) h = h
steps_then g a b ps (bind m u qs) h = h

steps_first : (g : ℕ → Tree) (ps : Pairs) → Steps g ps (first_step ps)
steps_first g [] = tt
steps_first g (p ∷ ps) = steps_then g p.0 p.1 ps (pair_step p.0 p.1 ps) (then_pair g p.0 p.1 ps)

value_extended : (m : ℕ) (u : Tree) (s : Pointwise) (n : ℕ) → value_of (extended s m u) n ≡ substituted (only m u) (value_of s n)
value_extended m u [] n = ap (λ (b : Bool). cond b u (variable n)) (back m n)
  where
    back : (i j : ℕ) → (i == j) ≡ (j == i)
    back i j = grind (arith, nat_tests)
value_extended m u (p ∷ ps) n = ap (cond (p.0 == n) (substituted (only m u) p.1)) (value_extended m u ps n) ∙ by (p.0 == n)
  where
    by : (b : Bool) → cond b (substituted (only m u) p.1) (substituted (only m u) (value_of ps n)) ≡ substituted (only m u) (cond b p.1 (value_of ps n))
    by true = refl
    by false = refl

apply_extended : (m : ℕ) (u : Tree) (s : Pointwise) (t : Tree) → apply (extended s m u) t ≡ substituted (only m u) (apply s t)
apply_extended m u s t =
    ap (λ (g : ℕ → Tree). substituted g t) (λ i n. value_extended m u s n i) ∙ sym (substituted-substituted (value_of s) (only m u) t)

agree_substituted : (g h : ℕ → Tree) (ps : Pairs) → Agree g (pairs_substituted h ps) → Agree (λ n. substituted g (h n)) ps
agree_substituted g h [] k = tt
agree_substituted g h (p ∷ ps) k =
    (sym (substituted-substituted h g p.0) ∙ k.0 ∙ substituted-substituted h g p.1, agree_substituted g h ps k.1)

same_some : (s x : Pointwise) → Some s ≡ Some x → s ≡ x
same_some s x e = cc

none_some : (x : Pointwise) → None ≡ Some x → ⊥
none_some x e = cc

solves_refines : {ps : Pairs} {s : Pointwise} {n : ℕ} {r : Option Pointwise} → Solves ps s n r → (x : Pointwise) → r ≡ Some x → Refines s x ps
solves_refines (at_end {ps = ps} {s = s} e) x q = record {
  by = variable;
  refines = λ t. ap (λ (y : Pointwise). apply y t) (sym (same_some s x q)) ∙ sym (itself (apply s t));
  agrees = subst (Steps variable ps) e (steps_first variable ps);
}
solves_refines (at_clash e) x q = absurd (none_some x q)
solves_refines (after_reduce {ps = ps} {qs = qs} e d) x q =
    let rest = solves_refines d x q in
    record { by = rest.by; refines = rest.refines; agrees = (subst (Steps rest.by ps) e (steps_first rest.by ps)) rest.agrees }
solves_refines (after_bind {ps = ps} {qs = qs} {s = s} {m = m} {u = u} e d) x q =
    let rest = solves_refines d x q in
    let g : ℕ → Tree = λ n. substituted rest.by (only m u n) in
    let fresh : substituted (only m u) u ≡ u = subst Fresh e (fresh_first ps) in
    let here : g m ≡ substituted g u =
    ap (λ (b : Bool). substituted rest.by (cond b u (variable m))) (number_same m) ∙ sym (ap (substituted rest.by) fresh) ∙ substituted-substituted (only m u) rest.by u in
    record {
      by = g;
      refines = λ t. rest.refines t ∙ ap (substituted rest.by) (apply_extended m u s t) ∙ substituted-substituted (only m u) rest.by (apply s t);
      agrees = (subst (Steps g ps) e (steps_first g ps)) here (agree_substituted rest.by (only m u) qs rest.agrees);
    }
  where
    number_same : (n : ℕ) → (n == n) ≡ true
    number_same n = grind arith

-- the unifier of pairs under a substitution refines it
pub mgu_refines : (ps : Pairs) (s x : Pointwise) → mgu ps s ≡ Some x → Refines s x (pairs_substituted (value_of s) ps)
mgu_refines ps s x e = solves_refines (Solves-solution (pairs_substituted (value_of s) ps) s) x e

-- and makes the terms of a pair the same
pub mgu_solves : (a b : Tree) (s x : Pointwise) → mgu ((a, b) ∷ []) s ≡ Some x → apply x a ≡ apply x b
mgu_solves a b s x e =
    let r = mgu_refines ((a, b) ∷ []) s x e in
    r.refines a ∙ r.agrees.0 ∙ sym (r.refines b)
