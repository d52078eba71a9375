-- Safe terms: whatever is run of them is a literal that may be run. No variable stands where a goal is run, so each instance of a safe term is safe.
use Rattle.std.proofs.Common.{◌≡◌, ℕ, zero, suc, ◌+◌, Bool, true, false, List, [], ◌∷◌, refl, ap, sym, subst}
use Rattle.term_core.specs.declared.pi.Pi.{Pi}
use Rattle.term_core.specs.Tree.{Tree, variable, integer, atom, compound, Trees, no_trees, tree, arity}
use Rattle.term_core.specs.Substitution.{substituted, all_substituted}
use Rattle.sandbox_walk.specs.declared.found.Kind.{Kind}
use Rattle.sandbox_walk.specs.declared.found.Kind.TheVariants.{Plain, Part, Adds, Behind}
use Rattle.sandbox_walk.specs.Shown.{Kinds, indicator, too_many, is_hat}

-- which literals may be run
abbrev pub May : Type 1
May = Pi → Type 0

abbrev pub when : Bool → Type 0 → Type 0 → Type 0
when true a b = a
when false a b = b

-- no fresh variable stands where a goal must
unfoldable pub SafeFresh : ℕ → List Kind → Type 0
SafeFresh zero xs = Unit {0}
SafeFresh (suc k) [] = Unit {0}
SafeFresh (suc k) (Plain ∷ xs) = SafeFresh k xs
SafeFresh (suc k) (Part ∷ xs) = ⊥
SafeFresh (suc k) (Adds j ∷ xs) = ⊥
SafeFresh (suc k) (Behind ∷ xs) = ⊥

-- an integer as a goal throws, and so does one with too many arguments
unfoldable mutual
  pub Safe : May → Kinds → Tree → Kind → Type 0
  Safe m ks (variable n) k = ⊥
  Safe m ks (integer z) k = Unit {0}
  Safe m ks (atom f) Plain = Unit {0}
  Safe m ks (atom f) Part = m (indicator f 0)
  Safe m ks (atom f) (Adds k) = m (indicator f k) × SafeFresh k (ks (indicator f k))
  Safe m ks (atom f) Behind = m (indicator f 0)
  Safe m ks (compound f ts) Plain = Unit {0}
  Safe m ks (compound f ts) Part = m (indicator f (arity ts)) × SafeIn m ks ts (ks (indicator f (arity ts))) 0
  Safe m ks (compound f ts) (Adds k) =
      when (too_many k (arity ts + k)) (Unit {0}) (m (indicator f (arity ts + k)) × SafeIn m ks ts (ks (indicator f (arity ts + k))) k)
  Safe m ks (compound f ts) Behind =
      when (is_hat f (arity ts)) (SafeIn m ks ts (Plain ∷ Behind ∷ []) 0) (m (indicator f (arity ts)) × SafeIn m ks ts (ks (indicator f (arity ts))) 0)

  pub SafeIn : May → Kinds → Trees → List Kind → ℕ → Type 0
  SafeIn m ks no_trees xs k = SafeFresh k xs
  SafeIn m ks (tree t ts) [] k = Unit {0}
  SafeIn m ks (tree t ts) (Plain ∷ xs) k = SafeIn m ks ts xs k
  SafeIn m ks (tree t ts) (Part ∷ xs) k = Safe m ks t Part × SafeIn m ks ts xs k
  SafeIn m ks (tree t ts) (Adds j ∷ xs) k = Safe m ks t (Adds j) × SafeIn m ks ts xs k
  SafeIn m ks (tree t ts) (Behind ∷ xs) k = Safe m ks t Behind × SafeIn m ks ts xs k

pub arity_instance : (g : ℕ → Tree) (ts : Trees) → arity (all_substituted g ts) ≡ arity ts
arity_instance g no_trees = refl
arity_instance g (tree t ts) = ap suc (arity_instance g ts)

module _ (m : May) (ks : Kinds) (g : ℕ → Tree) where
  add_case : (f : List ℕ) (ts us : Trees) (k n n2 : ℕ) → n ≡ n2 → ((xs : List Kind) → SafeIn m ks ts xs k → SafeIn m ks us xs k) →
      when (too_many k n) (Unit {0}) (m (indicator f n) × SafeIn m ks ts (ks (indicator f n)) k) → when (too_many k n2) (Unit {0}) (m (indicator f n2) × SafeIn m ks us (ks (indicator f n2)) k)
  add_case f ts us k n n2 e go h = subst (λ (x : ℕ). when (too_many k x) (Unit {0}) (m (indicator f x) × SafeIn m ks us (ks (indicator f x)) k)) e (at (too_many k n) h)
    where
      at : (b : Bool) → when b (Unit {0}) (m (indicator f n) × SafeIn m ks ts (ks (indicator f n)) k) → when b (Unit {0}) (m (indicator f n) × SafeIn m ks us (ks (indicator f n)) k)
      at true h = tt
      at false h = (h.0, go (ks (indicator f n)) h.1)

  part_case : (f : List ℕ) (ts us : Trees) (n n2 : ℕ) → n ≡ n2 → ((xs : List Kind) → SafeIn m ks ts xs 0 → SafeIn m ks us xs 0) →
      m (indicator f n) × SafeIn m ks ts (ks (indicator f n)) 0 → m (indicator f n2) × SafeIn m ks us (ks (indicator f n2)) 0
  part_case f ts us n n2 e go h = subst (λ (x : ℕ). m (indicator f x) × SafeIn m ks us (ks (indicator f x)) 0) e (h.0, go (ks (indicator f n)) h.1)

  hat_case : (f : List ℕ) (ts us : Trees) (n n2 : ℕ) → n ≡ n2 → ((xs : List Kind) → SafeIn m ks ts xs 0 → SafeIn m ks us xs 0) →
      when (is_hat f n) (SafeIn m ks ts (Plain ∷ Behind ∷ []) 0) (m (indicator f n) × SafeIn m ks ts (ks (indicator f n)) 0) →
      when (is_hat f n2) (SafeIn m ks us (Plain ∷ Behind ∷ []) 0) (m (indicator f n2) × SafeIn m ks us (ks (indicator f n2)) 0)
  hat_case f ts us n n2 e go h = subst (λ (x : ℕ). when (is_hat f x) (SafeIn m ks us (Plain ∷ Behind ∷ []) 0) (m (indicator f x) × SafeIn m ks us (ks (indicator f x)) 0)) e (at (is_hat f n) h)
    where
      at : (b : Bool) → when b (SafeIn m ks ts (Plain ∷ Behind ∷ []) 0) (m (indicator f n) × SafeIn m ks ts (ks (indicator f n)) 0) → when b (SafeIn m ks us (Plain ∷ Behind ∷ []) 0) (m (indicator f n) × SafeIn m ks us (ks (indicator f n)) 0)
      at true h = go (Plain ∷ Behind ∷ []) h
      at false h = (h.0, go (ks (indicator f n)) h.1)

  mutual
    unfolding Safe

    pub safe_instance : (t : Tree) (k : Kind) → Safe m ks t k → Safe m ks (substituted g t) k
    safe_instance (variable n) k h = absurd h
    safe_instance (integer z) k h = tt
    safe_instance (atom f) k h = h
    safe_instance (compound f ts) Plain h = tt
    safe_instance (compound f ts) Part h = part_case f ts (all_substituted g ts) (arity ts) (arity (all_substituted g ts)) (sym (arity_instance g ts)) (λ xs. safe_instance_in ts xs 0) h
    safe_instance (compound f ts) (Adds k) h = add_case f ts (all_substituted g ts) k (arity ts + k) (arity (all_substituted g ts) + k) (ap (λ (x : ℕ). x + k) (sym (arity_instance g ts))) (λ xs. safe_instance_in ts xs k) h
    safe_instance (compound f ts) Behind h = hat_case f ts (all_substituted g ts) (arity ts) (arity (all_substituted g ts)) (sym (arity_instance g ts)) (λ xs. safe_instance_in ts xs 0) h

    safe_instance_in : (ts : Trees) (xs : List Kind) (k : ℕ) → SafeIn m ks ts xs k → SafeIn m ks (all_substituted g ts) xs k
    safe_instance_in no_trees xs k h = h
    safe_instance_in (tree t ts) [] k h = tt
    safe_instance_in (tree t ts) (Plain ∷ xs) k h = safe_instance_in ts xs k h
    safe_instance_in (tree t ts) (Part ∷ xs) k h = (safe_instance t Part h.0, safe_instance_in ts xs k h.1)
    safe_instance_in (tree t ts) (Adds j ∷ xs) k h = (safe_instance t (Adds j) h.0, safe_instance_in ts xs k h.1)
    safe_instance_in (tree t ts) (Behind ∷ xs) k h = (safe_instance t Behind h.0, safe_instance_in ts xs k h.1)
