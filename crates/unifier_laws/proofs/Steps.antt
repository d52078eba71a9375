-- What a step of unification says of all unifiers of the pairs.
use Rattle.std.proofs.Common.{◌≡◌, ℕ, suc, ◌<◌, List, [], ◌∷◌, Bool, true, false, cond, ◌&&◌, ◌||◌, ◌==◌, nat_lt, bytes_eq, refl, ap, ◌∙◌, sym, arith, ℤ}
use Rattle.std.specs.Bool.{⊤}
use Rattle.std.specs.Ordering.{is_eq, int_cmp}
use Rattle.std.specs.Cmp.{ranked_equal}
use Rattle.std.proofs.lemmas.Cmp.{int_ranked}
use Rattle.std.proofs.lemmas.Bool.Decides.{nat_tests, not_from_Decides, Decides-eqb}
use Rattle.std.proofs.lemmas.Slice.Eq.{bytes_eq-Decides}
use Rattle.std.proofs.lemmas.List.Elements.{All-cons, All-head, All-tail}
use Rattle.term_core.specs.Tree.{Tree, variable, integer, atom, compound, Trees, no_trees, tree, arity}
use Rattle.term_core.specs.Substitution.{substituted, all_substituted}
use Rattle.term_core.specs.Unification.{Step, solved, clash, reduce, bind, beside, contains_variable, same_step, pair_step, first_step}
use Rattle.term_core.specs.Unifier.{Pairs}
use Rattle.unifier_laws.specs.Laws.{Unifies}
use Rattle.unifier_laws.proofs.Trees.{same_integer, same_atom, same_name, same_parts, same_head, same_tail, integer_atom, integer_compound, atom_compound, not_in_itself}

-- one pair's part of it
abbrev pub Joins : (ℕ → Tree) → Tree × Tree → Type 0
Joins h p = substituted h p.0 ≡ substituted h p.1

-- a variable's term is no greater variable, nor the variable itself
abbrev pub Below : ℕ → Tree → Type 0
Below m (variable n) = n < m
Below m (integer z) = ⊤
Below m (atom a) = ⊤
Below m (compound f ts) = ⊤

-- what is to be shown of each step
pub record Bound (ps : Pairs) (m : ℕ) (u : Tree) (qs : Pairs) : Type 0 where
  pub below : Below m u
  pub outside : contains_variable m u ≡ false
  pub into : (h : ℕ → Tree) → h m ≡ substituted h u → Unifies h qs → Unifies h ps
  pub back : (h : ℕ → Tree) → Unifies h ps → (h m ≡ substituted h u) × Unifies h qs

abbrev pub Means : Pairs → Step → Type 0
Means ps solved = ps ≡ []
Means ps clash = (h : ℕ → Tree) → Unifies h ps → ⊥
Means ps (reduce qs) = (h : ℕ → Tree) → (Unifies h qs → Unifies h ps) × (Unifies h ps → Unifies h qs)
Means ps (bind m u qs) = Bound ps m u qs

module _ (t u : Tree) (ps : Pairs) where
  first : (h : ℕ → Tree) → Unifies h ((t, u) ∷ ps) → substituted h t ≡ substituted h u
  first h g = All-head (Joins h) (t, u) ps g

  rest : (h : ℕ → Tree) → Unifies h ((t, u) ∷ ps) → Unifies h ps
  rest h g = All-tail (Joins h) (t, u) ps g

  both : (h : ℕ → Tree) → substituted h t ≡ substituted h u → Unifies h ps → Unifies h ((t, u) ∷ ps)
  both h e g = All-cons (Joins h) (t, u) ps e g

  -- the first pair is the same already
  dropped : ((h : ℕ → Tree) → substituted h t ≡ substituted h u) → Means ((t, u) ∷ ps) (reduce ps)
  dropped e = λ h. (both h (e h), rest h)

  -- or it can't be made the same
  apart : ((h : ℕ → Tree) → substituted h t ≡ substituted h u → ⊥) → Means ((t, u) ∷ ps) clash
  apart e = λ h g. e h (first h g)

bound_left : (m : ℕ) (u : Tree) (ps : Pairs) → Below m u → contains_variable m u ≡ false → Bound ((variable m, u) ∷ ps) m u ps
bound_left m u ps b o = record {
  below = b;
  outside = o;
  into = both (variable m) u ps;
  back = λ h g. (first (variable m) u ps h g, rest (variable m) u ps h g);
}

bound_right : (n : ℕ) (t : Tree) (ps : Pairs) → Below n t → contains_variable n t ≡ false → Bound ((t, variable n) ∷ ps) n t ps
bound_right n t ps b o = record {
  below = b;
  outside = o;
  into = λ h e. both t (variable n) ps h (sym e);
  back = λ h g. (sym (first t (variable n) ps h g), rest t (variable n) ps h g);
}

check_left : (b : Bool) (m : ℕ) (g : List ℕ) (us : Trees) (ps : Pairs) → contains_variable m (compound g us) ≡ b → Means ((variable m, compound g us) ∷ ps) (cond b clash (bind m (compound g us) ps))
check_left true m g us ps c = apart (variable m) (compound g us) ps (λ h e. not_in_itself h m g us c e)
check_left false m g us ps c = bound_left m (compound g us) ps tt c

check_right : (b : Bool) (n : ℕ) (f : List ℕ) (ts : Trees) (ps : Pairs) → contains_variable n (compound f ts) ≡ b → Means ((compound f ts, variable n) ∷ ps) (cond b clash (bind n (compound f ts) ps))
check_right true n f ts ps c = apart (compound f ts) (variable n) ps (λ h e. not_in_itself h n f ts c (sym e))
check_right false n f ts ps c = bound_right n (compound f ts) ps tt c

equal_numbers : (m n : ℕ) → (m == n) ≡ true → m ≡ n
equal_numbers m n e = grind (arith, nat_tests)

other_variable : (m n : ℕ) → (m == n) ≡ false → contains_variable m (variable n) ≡ false
other_variable m n e = other (n == m) (swapped m n e)
  where
    swapped : (m n : ℕ) → (m == n) ≡ false → (n == m) ≡ false
    swapped m n e = grind (arith, nat_tests)

    other : (b : Bool) → b ≡ false → (b || false) ≡ false
    other true e = e
    other false e = refl

lesser : (m n : ℕ) → nat_lt m n ≡ true → m < n
lesser m n e = grind (arith, nat_tests)

greater : (m n : ℕ) → (m == n) ≡ false → nat_lt m n ≡ false → n < m
greater m n e f = grind (arith, nat_tests)

same_from : (m n : ℕ) → (n == m) ≡ false → (m == n) ≡ false
same_from m n e = grind (arith, nat_tests)

variables_mean : (e l : Bool) (m n : ℕ) (ps : Pairs) → (m == n) ≡ e → nat_lt m n ≡ l → Means ((variable m, variable n) ∷ ps) (cond e (reduce ps) (cond l (bind n (variable m) ps) (bind m (variable n) ps)))
variables_mean true l m n ps e f = dropped (variable m) (variable n) ps (λ h. ap h (equal_numbers m n e))
variables_mean false true m n ps e f = bound_right n (variable m) ps (lesser m n f) (other_variable n m (same_from n m e))
variables_mean false false m n ps e f = bound_left m (variable n) ps (greater m n e f) (other_variable m n e)

integers_mean : (b : Bool) (y z : ℤ) (ps : Pairs) → is_eq (int_cmp y z) ≡ b → Means ((integer y, integer z) ∷ ps) (same_step b ps)
integers_mean true y z ps e =
    let d = ranked_equal y z (int_cmp y z) (int_ranked y z (int_cmp y z) refl) in
    dropped (integer y) (integer z) ps (λ h. ap integer (d.0 e))
integers_mean false y z ps e =
    let d = ranked_equal y z (int_cmp y z) (int_ranked y z (int_cmp y z) refl) in
    apart (integer y) (integer z) ps (λ h q. not_from_Decides (is_eq (int_cmp y z)) d e (same_integer y z q))

atoms_mean : (r : Bool) (a b : List ℕ) (ps : Pairs) → bytes_eq a b ≡ r → Means ((atom a, atom b) ∷ ps) (same_step r ps)
atoms_mean true a b ps e = dropped (atom a) (atom b) ps (λ h. ap atom ((bytes_eq-Decides a b).0 e))
atoms_mean false a b ps e = apart (atom a) (atom b) ps (λ h q. not_from_Decides (bytes_eq a b) (bytes_eq-Decides a b) e (same_atom a b q))

-- ---- arguments side by side

module _ (h : ℕ → Tree) (ps : Pairs) where
  beside_back : (ts us : Trees) → arity ts ≡ arity us → Unifies h (beside ts us ps) → (all_substituted h ts ≡ all_substituted h us) × Unifies h ps
  beside_back no_trees no_trees e g = (refl, g)
  beside_back no_trees (tree u us) e g = absurd (omega arith)
  beside_back (tree t ts) no_trees e g = absurd (omega arith)
  beside_back (tree t ts) (tree u us) e g =
      let more = beside_back ts us (omega arith) (rest t u (beside ts us ps) h g) in
      ((λ i. tree (first t u (beside ts us ps) h g i) (more.0 i)), more.1)

  beside_into : (ts us : Trees) → all_substituted h ts ≡ all_substituted h us → Unifies h ps → Unifies h (beside ts us ps)
  beside_into no_trees us e g = g
  beside_into (tree t ts) no_trees e g = g
  beside_into (tree t ts) (tree u us) e g =
      both t u (beside ts us ps) h (same_head (substituted h t) (substituted h u) (all_substituted h ts) (all_substituted h us) e) (beside_into ts us (same_tail (substituted h t) (substituted h u) (all_substituted h ts) (all_substituted h us) e) g)

arity-substituted : (h : ℕ → Tree) (ts : Trees) → arity (all_substituted h ts) ≡ arity ts
arity-substituted h no_trees = refl
arity-substituted h (tree t ts) = ap suc (arity-substituted h ts)

and_first : (a b : Bool) → (a && b) ≡ true → a ≡ true
and_first true b e = refl
and_first false b e = e

and_second : (a b : Bool) → (a && b) ≡ true → b ≡ true
and_second true b e = e
and_second false b e = cc

and_both : (a b : Bool) → a ≡ true → b ≡ true → (a && b) ≡ false → ⊥
and_both true true e f g = absurd (grind arith)
and_both true false e f g = absurd (grind arith)
and_both false b e f g = absurd (grind arith)

compounds_mean : (r : Bool) (f g : List ℕ) (ts us : Trees) (ps : Pairs) → (bytes_eq f g && arity ts == arity us) ≡ r → Means ((compound f ts, compound g us) ∷ ps) (same_step r (beside ts us ps))
compounds_mean true f g ts us ps e =
    let names = (bytes_eq-Decides f g).0 (and_first (bytes_eq f g) (arity ts == arity us) e) in
    let counts = equal_numbers (arity ts) (arity us) (and_second (bytes_eq f g) (arity ts == arity us) e) in
    λ h. (
      λ q. let back = beside_back h ps ts us counts q in both (compound f ts) (compound g us) ps h (λ i. compound (names i) (back.0 i)) back.1,
      λ q. beside_into h ps ts us (same_parts f g (all_substituted h ts) (all_substituted h us) (first (compound f ts) (compound g us) ps h q)) (rest (compound f ts) (compound g us) ps h q),
    )
compounds_mean false f g ts us ps e =
    apart (compound f ts) (compound g us) ps (λ h q.
    let names = (bytes_eq-Decides f g).1 (same_name f g (all_substituted h ts) (all_substituted h us) q) in
    let counts : arity ts ≡ arity us = sym (arity-substituted h ts) ∙ ap arity (same_parts f g (all_substituted h ts) (all_substituted h us) q) ∙ arity-substituted h us in
    and_both (bytes_eq f g) (arity ts == arity us) names ((Decides-eqb (arity ts) (arity us)).1 counts) e)

-- ---- each step

pair_means : (t u : Tree) (ps : Pairs) → Means ((t, u) ∷ ps) (pair_step t u ps)
pair_means (variable m) (variable n) ps = variables_mean (m == n) (nat_lt m n) m n ps refl refl
pair_means (variable m) (integer z) ps = bound_left m (integer z) ps tt refl
pair_means (variable m) (atom b) ps = bound_left m (atom b) ps tt refl
pair_means (variable m) (compound g us) ps = check_left (contains_variable m (compound g us)) m g us ps refl
pair_means (integer y) (variable n) ps = bound_right n (integer y) ps tt refl
pair_means (integer y) (integer z) ps = integers_mean (is_eq (int_cmp y z)) y z ps refl
pair_means (integer y) (atom b) ps = apart (integer y) (atom b) ps (λ h e. integer_atom y b e)
pair_means (integer y) (compound g us) ps = apart (integer y) (compound g us) ps (λ h e. integer_compound y g (all_substituted h us) e)
pair_means (atom a) (variable n) ps = bound_right n (atom a) ps tt refl
pair_means (atom a) (integer z) ps = apart (atom a) (integer z) ps (λ h e. integer_atom z a (sym e))
pair_means (atom a) (atom b) ps = atoms_mean (bytes_eq a b) a b ps refl
pair_means (atom a) (compound g us) ps = apart (atom a) (compound g us) ps (λ h e. atom_compound a g (all_substituted h us) e)
pair_means (compound f ts) (variable n) ps = check_right (contains_variable n (compound f ts)) n f ts ps refl
pair_means (compound f ts) (integer z) ps = apart (compound f ts) (integer z) ps (λ h e. integer_compound z f (all_substituted h ts) (sym e))
pair_means (compound f ts) (atom b) ps = apart (compound f ts) (atom b) ps (λ h e. atom_compound b f (all_substituted h ts) (sym e))
pair_means (compound f ts) (compound g us) ps = compounds_mean (bytes_eq f g && arity ts == arity us) f g ts us ps refl

pub means : (ps : Pairs) → Means ps (first_step ps)
means [] = refl
means (p ∷ ps) = pair_means p.0 p.1 ps
