-- Clauses that hand goals on are safe wherever their heads are.
use Rattle.std.proofs.Common.{◌≡◌, ℕ, zero, suc, Bool, true, false, ◌&&◌, ◌||◌, ◌==◌, List, [], ◌∷◌, if◌then◌else◌, IsTrue, Some, refl, sym, subst, ◌⊎◌, inl, inr}
use Rattle.std.proofs.lemmas.Bool.{and_parts, eqb-true}
use Rattle.term_core.specs.declared.pi.Pi.{Pi}
use Rattle.term_core.specs.Tree.{Tree, variable, integer, atom, compound, Trees, no_trees, tree, arity, tree_list}
use Rattle.term_core.specs.Parts.{arguments_of}
use Rattle.term_core.specs.Substitution.{substituted, all_substituted}
use Rattle.builtin_table.specs.Table.{Rows}
use Rattle.program.specs.Bodies.{is_connective}
use Rattle.program.specs.Clauses.{Clause, indicator_of}
use Rattle.sandbox_walk.specs.declared.found.Kind.{Kind}
use Rattle.sandbox_walk.specs.declared.found.Kind.TheVariants.{Plain, Part, Adds, Behind}
use Rattle.sandbox_walk.specs.Shown.{indicator}
use Rattle.sandbox_walk.specs.Keeping.{run_kinds, is_known, is_goal, has_goal, hands_arguments, hands_on, all_hand_on}
use Rattle.sandbox_walk.proofs.Walking.{or_either}
use Rattle.sandbox_walk.proofs.Instances.{May, SafeFresh, Safe, SafeIn, arity_instance}
use Rattle.sandbox_walk.proofs.Guarded.{PassesOn}

abbrev parts : ℕ → List Kind
parts zero = []
parts (suc n) = Part ∷ parts n

-- the parts of a connective
connective_kinds : (rows : Rows) (i : Pi) → (is_connective i.name && i.arity == 2) ≡ true → run_kinds rows i ≡ parts 2
unfolding run_kinds
connective_kinds rows i e = rw e refl

module _ (rows : Rows) (m : May) (may : (i : Pi) → IsTrue (is_known i) → m i) (g : ℕ → Tree) where
  -- ---- what a head is given

  given_at : (t : Tree) (j : ℕ) → Safe m (run_kinds rows) (substituted g t) (Adds j) → (n k : ℕ) → IsTrue (is_goal t (Adds j) n k) → Safe m (run_kinds rows) (g n) (Adds k)
  given_at (variable v) j s n k h =
      let q = and_parts (v == n) (j == k) h in
      subst (λ (x : ℕ). Safe m (run_kinds rows) (g x) (Adds k)) (eqb-true v n q.0) (subst (λ (x : ℕ). Safe m (run_kinds rows) (g v) (Adds x)) (eqb-true j k q.1) s)
  given_at (integer z) j s n k h = cc
  given_at (atom f) j s n k h = cc
  given_at (compound f ts) j s n k h = cc

  no_goal : (t : Tree) (x : Kind) (n k : ℕ) → ((j : ℕ) → x ≡ Adds j → ⊥) → is_goal t x n k ≡ false
  no_goal (variable v) Plain n k e = refl
  no_goal (variable v) Part n k e = refl
  no_goal (variable v) (Adds j) n k e = absurd (e j refl)
  no_goal (variable v) Behind n k e = refl
  no_goal (integer z) x n k e = refl
  no_goal (atom f) x n k e = refl
  no_goal (compound f ts) x n k e = refl

  given_in : (ts : Trees) (xs : List Kind) → SafeIn m (run_kinds rows) (all_substituted g ts) xs 0 → (n k : ℕ) → IsTrue (has_goal (tree_list ts) xs n k) → Safe m (run_kinds rows) (g n) (Adds k)
  unfolding Safe
  given_in no_trees xs s n k h = cc
  given_in (tree t ts) [] s n k h = cc
  given_in (tree t ts) (Plain ∷ xs) s n k h =
      given_in ts xs s n k (subst (λ (b : Bool). IsTrue (b || has_goal (tree_list ts) xs n k)) (no_goal t Plain n k (λ j e. cc)) h)
  given_in (tree t ts) (Part ∷ xs) s n k h =
      given_in ts xs s.1 n k (subst (λ (b : Bool). IsTrue (b || has_goal (tree_list ts) xs n k)) (no_goal t Part n k (λ j e. cc)) h)
  given_in (tree t ts) (Behind ∷ xs) s n k h =
      given_in ts xs s.1 n k (subst (λ (b : Bool). IsTrue (b || has_goal (tree_list ts) xs n k)) (no_goal t Behind n k (λ j e. cc)) h)
  given_in (tree t ts) (Adds j ∷ xs) s n k h = by (or_either (is_goal t (Adds j) n k) (has_goal (tree_list ts) xs n k) h) (given_in ts xs s.1 n k)
    where
      by : IsTrue (is_goal t (Adds j) n k) ⊎ IsTrue (has_goal (tree_list ts) xs n k) → (IsTrue (has_goal (tree_list ts) xs n k) → Safe m (run_kinds rows) (g n) (Adds k)) → Safe m (run_kinds rows) (g n) (Adds k)
      by (inl a) rest = given_at t j s.0 n k a
      by (inr b) rest = rest b

  -- ---- what a body does with it

  module _ (given : ℕ → ℕ → Bool) (safe : (n k : ℕ) → IsTrue (given n k) → Safe m (run_kinds rows) (g n) (Adds k)) where
    arguments_safe : (ts : Trees) (xs : List Kind) → hands_arguments given (tree_list ts) xs ≡ true → SafeIn m (run_kinds rows) (all_substituted g ts) xs 0
    unfolding Safe SafeFresh
    arguments_safe no_trees xs h = tt
    arguments_safe (tree t ts) [] h = tt
    arguments_safe (tree t ts) (Plain ∷ xs) h = arguments_safe ts xs h
    arguments_safe (tree (variable n) ts) (Adds k ∷ xs) h =
        let q = and_parts (given n k) (hands_arguments given (tree_list ts) xs) h in
        (safe n k q.0, arguments_safe ts xs q.1)
    arguments_safe (tree (integer z) ts) (Adds k ∷ xs) h = cc
    arguments_safe (tree (atom f) ts) (Adds k ∷ xs) h = cc
    arguments_safe (tree (compound f us) ts) (Adds k ∷ xs) h = cc
    arguments_safe (tree (variable n) ts) (Part ∷ xs) h = cc
    arguments_safe (tree (integer z) ts) (Part ∷ xs) h = cc
    arguments_safe (tree (atom f) ts) (Part ∷ xs) h = cc
    arguments_safe (tree (compound f us) ts) (Part ∷ xs) h = cc
    arguments_safe (tree (variable n) ts) (Behind ∷ xs) h = cc
    arguments_safe (tree (integer z) ts) (Behind ∷ xs) h = cc
    arguments_safe (tree (atom f) ts) (Behind ∷ xs) h = cc
    arguments_safe (tree (compound f us) ts) (Behind ∷ xs) h = cc

    -- a literal with these arguments
    called_safe : (f : List ℕ) (ts : Trees) → IsTrue (is_known (indicator f (arity ts))) → SafeIn m (run_kinds rows) (all_substituted g ts) (run_kinds rows (indicator f (arity ts))) 0 → Safe m (run_kinds rows) (compound f (all_substituted g ts)) Part
    unfolding Safe
    called_safe f ts k s =
        subst (λ (n : ℕ). m (indicator f n) × SafeIn m (run_kinds rows) (all_substituted g ts) (run_kinds rows (indicator f n)) 0) (sym (arity_instance g ts)) (may (indicator f (arity ts)) k, s)

    by_case : (f : List ℕ) (ts : Trees) (b : Bool) → (is_connective f && arity ts == 2) ≡ b → (all_hand_on rows given ts ≡ true → SafeIn m (run_kinds rows) (all_substituted g ts) (parts 2) 0) →
        (if b then all_hand_on rows given ts else hands_arguments given (tree_list ts) (run_kinds rows (indicator f (arity ts)))) ≡ true → SafeIn m (run_kinds rows) (all_substituted g ts) (run_kinds rows (indicator f (arity ts))) 0
    by_case f ts true e go h = subst (λ (xs : List Kind). SafeIn m (run_kinds rows) (all_substituted g ts) xs 0) (sym (connective_kinds rows (indicator f (arity ts)) e)) (go h)
    by_case f ts false e go h = arguments_safe ts (run_kinds rows (indicator f (arity ts))) h

    mutual
      unfolding hands_on Safe SafeFresh

      body_safe : (t : Tree) → hands_on rows given t ≡ true → Safe m (run_kinds rows) (substituted g t) Part
      body_safe (variable n) h = cc
      body_safe (integer z) h = tt
      body_safe (atom f) h = may (indicator f 0) h
      body_safe (compound f ts) h =
          let q = and_parts (is_known (indicator f (arity ts))) (if is_connective f && arity ts == 2 then all_hand_on rows given ts else hands_arguments given (tree_list ts) (run_kinds rows (indicator f (arity ts)))) h in
          called_safe f ts q.0 (by_case f ts (is_connective f && arity ts == 2) refl (λ e. parts_safe ts 2 e) q.1)

      parts_safe : (ts : Trees) (n : ℕ) → all_hand_on rows given ts ≡ true → SafeIn m (run_kinds rows) (all_substituted g ts) (parts n) 0
      parts_safe no_trees n h = tt
      parts_safe (tree t ts) zero h = tt
      parts_safe (tree t ts) (suc n) h =
          let q = and_parts (hands_on rows given t) (all_hand_on rows given ts) h in
          (body_safe t q.0, parts_safe ts n q.1)

  -- ---- a clause

  head_safe : (h : Tree) (i : Pi) → indicator_of h ≡ Some i → Safe m (run_kinds rows) (substituted g h) Part → (n k : ℕ) → IsTrue (has_goal (arguments_of h) (run_kinds rows i) n k) → Safe m (run_kinds rows) (g n) (Adds k)
  unfolding Safe
  head_safe (variable v) i e s n k q = cc
  head_safe (integer z) i e s n k q = cc
  head_safe (atom f) i e s n k q = cc
  head_safe (compound f ts) i e s n k q =
      let same : indicator f (arity ts) ≡ i = cc in
      given_in ts (run_kinds rows i)
      (subst (λ (j : Pi). SafeIn m (run_kinds rows) (all_substituted g ts) (run_kinds rows j) 0) same
      (subst (λ (x : ℕ). SafeIn m (run_kinds rows) (all_substituted g ts) (run_kinds rows (indicator f x)) 0) (arity_instance g ts) s.1)) n k q

pub hands : (rows : Rows) (m : May) → ((i : Pi) → IsTrue (is_known i) → m i) → (c : Clause) (i : Pi) → indicator_of c.head ≡ Some i → hands_on rows (has_goal (arguments_of c.head) (run_kinds rows i)) c.body ≡ true → PassesOn m (run_kinds rows) c
hands rows m may c i e h g s = body_safe rows m may g (has_goal (arguments_of c.head) (run_kinds rows i)) (head_safe rows m may g c.head i e s) c.body h
