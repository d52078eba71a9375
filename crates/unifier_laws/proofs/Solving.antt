-- What solves the pairs.
use Rattle.std.proofs.Common.{◌≡◌, ℕ, ◌≤◌, [], ◌∷◌, Bool, true, false, cond, ◌==◌, Option, Some, None, refl, ap, ◌∙◌, sym, arith, subst}
use Rattle.std.proofs.lemmas.Bool.Decides.{nat_tests}
use Rattle.std.proofs.lemmas.List.Elements.{All-nil, All-cons, All-head, All-tail}
use Rattle.term_core.specs.Tree.{Tree, variable, integer, atom, compound}
use Rattle.term_core.specs.Substitution.{substituted, all_substituted, only, extended, value_of, pairs_substituted}
use Rattle.term_core.specs.Unification.{contains_variable, Step, solved, clash, reduce, bind, first_step, Solves, at_end, at_clash, after_reduce, after_bind}
use Rattle.term_core.specs.Unifier.{Pairs, Pointwise}
use Rattle.term_core.proofs.Substituting.{substituted-variable, substituted-substituted, substituted-outside, value_of-extended}
use Rattle.unifier_laws.specs.Laws.{Unifies, GoesThrough}
use Rattle.unifier_laws.proofs.Trees.{same_variable, integer_variable, atom_variable, compound_variable}
use Rattle.unifier_laws.proofs.Steps.{Joins, Below, Bound, Means, means}

-- a variable that becomes a variable becomes no greater one
abbrev pub Descends : (ℕ → Tree) → Type 0
Descends g = (n k : ℕ) → g n ≡ variable k → k ≤ n

-- g is what d adds to c, and solves the pairs as any most general unifier does
pub record Added (ps : Pairs) (c d : Pointwise) (g : ℕ → Tree) : Type 0 where
  pub adds : (n : ℕ) → value_of d n ≡ substituted g (value_of c n)
  pub unifies : Unifies g ps
  pub general : (h : ℕ → Tree) → Unifies h ps → GoesThrough h g
  pub descends : Descends g

abbrev pub Answers : Pairs → Pointwise → Option Pointwise → Type 0
Answers ps c None = (h : ℕ → Tree) → Unifies h ps → ⊥
Answers ps c (Some d) = (g : ℕ → Tree) × Added ps c d g

step : (ps : Pairs) (o : Step) → first_step ps ≡ o → Means ps o
step ps o e = subst (Means ps) e (means ps)

-- ---- nothing is left

nothing : (ps : Pairs) (c : Pointwise) → ps ≡ [] → Added ps c c variable
nothing ps c e = record {
  adds = λ n. sym (substituted-variable (value_of c n));
  unifies = subst (Unifies variable) (sym e) (All-nil (Joins variable));
  general = λ h q n. refl;
  descends = λ n k d. let same = same_variable n k d in omega arith;
}

-- ---- the same unifiers

module _ (ps qs : Pairs) (c : Pointwise) (q : Means ps (reduce qs)) where
  reduced : (d : Pointwise) (g : ℕ → Tree) → Added qs c d g → Added ps c d g
  reduced d g a = record {
    adds = a.adds;
    unifies = (q g).0 a.unifies;
    general = λ h u. a.general h ((q h).1 u);
    descends = a.descends;
  }

  after_reduced : (r : Option Pointwise) → Answers qs c r → Answers ps c r
  after_reduced None a = λ h u. a h ((q h).1 u)
  after_reduced (Some d) a = (a.0, reduced d a.0 a.1)

-- ---- one binding, and what solves the rest under it

unifies_under : (h g : ℕ → Tree) (qs : Pairs) → ((t : Tree) → substituted h (substituted g t) ≡ substituted h t) → Unifies h qs → Unifies h (pairs_substituted g qs)
unifies_under h g [] e u = All-nil (Joins h)
unifies_under h g (p ∷ ps) e u =
    All-cons (Joins h) (substituted g p.0, substituted g p.1) (pairs_substituted g ps) (e p.0 ∙ All-head (Joins h) p ps u ∙ sym (e p.1)) (unifies_under h g ps e (All-tail (Joins h) p ps u))

unifies_over : (g f k : ℕ → Tree) (qs : Pairs) → ((t : Tree) → substituted k t ≡ substituted g (substituted f t)) → Unifies g (pairs_substituted f qs) → Unifies k qs
unifies_over g f k [] e u = All-nil (Joins k)
unifies_over g f k (p ∷ ps) e u =
    All-cons (Joins k) p ps (e p.0 ∙ All-head (Joins g) (substituted f p.0, substituted f p.1) (pairs_substituted f ps) u ∙ sym (e p.1)) (unifies_over g f k ps e (All-tail (Joins g) (substituted f p.0, substituted f p.1) (pairs_substituted f ps) u))

equal_numbers : (m n : ℕ) → (n == m) ≡ true → n ≡ m
equal_numbers m n e = grind (arith, nat_tests)

same_number : (m : ℕ) → (m == m) ≡ true
same_number m = grind (arith, nat_tests)

descends_below : (g : ℕ → Tree) (m : ℕ) (u : Tree) (k : ℕ) → Descends g → Below m u → substituted g u ≡ variable k → k ≤ m
descends_below g m (variable n) k d b e = let h = d n k e in omega arith
descends_below g m (integer z) k d b e = absurd (integer_variable z k e)
descends_below g m (atom a) k d b e = absurd (atom_variable a k e)
descends_below g m (compound f ts) k d b e = absurd (compound_variable f (all_substituted g ts) k e)

module _ (m : ℕ) (u : Tree) where
  -- a map for which the binding holds already
  module _ (h : ℕ → Tree) (e : h m ≡ substituted h u) where
    only_under : (b : Bool) (n : ℕ) → (n == m) ≡ b → substituted h (cond b u (variable n)) ≡ h n
    only_under true n t = sym e ∙ ap h (sym (equal_numbers m n t))
    only_under false n t = refl

    under : (t : Tree) → substituted h (substituted (only m u) t) ≡ substituted h t
    under t =
        substituted-substituted (only m u) h t ∙ ap (λ f. substituted f t) (λ i n. only_under (n == m) n refl i)

  module _ (g : ℕ → Tree) where
    -- the binding, and then g
    bound : ℕ → Tree
    bound n = substituted g (only m u n)

    over : (t : Tree) → substituted bound t ≡ substituted g (substituted (only m u) t)
    unfolding bound
    over t = sym (substituted-substituted (only m u) g t)

    bound_descends : Descends g → Below m u → Descends bound
    unfolding bound
    bound_descends d b n k e = by (n == m) refl e
      where
        by : (c : Bool) → (n == m) ≡ c → substituted g (cond c u (variable n)) ≡ variable k → k ≤ n
        by true t e = let h = descends_below g m u k d b e in let same = equal_numbers m n t in omega arith
        by false t e = d n k e

    bound_value : contains_variable m u ≡ false → bound m ≡ substituted bound u
    unfolding bound
    bound_value o =
        ap (λ b. substituted g (cond b u (variable m))) (same_number m)
        ∙ ap (substituted g) (sym (substituted-outside m u u o))
        ∙ sym (over u)

    module _ (ps qs : Pairs) (c d : Pointwise) (q : Bound ps m u qs) (a : Added (pairs_substituted (only m u) qs) (extended c m u) d g) where
      bound_adds : (n : ℕ) → value_of d n ≡ substituted bound (value_of c n)
      bound_adds n =
          a.adds n ∙ ap (substituted g) (value_of-extended m u c n) ∙ sym (over (value_of c n))

      bound_unifies : Unifies bound ps
      bound_unifies =
          q.into bound (bound_value q.outside) (unifies_over g (only m u) bound qs over a.unifies)

      bound_general : (h : ℕ → Tree) → Unifies h ps → GoesThrough h bound
      unfolding bound
      bound_general h w n =
          let back = q.back h w in
          let through = a.general h (unifies_under h (only m u) qs (under h back.0) back.1) in
          substituted-substituted g h (only m u n)
          ∙ ap (λ f. substituted f (only m u n)) (λ i k. through k i)
          ∙ under h back.0 (variable n)

      bound_added : Added ps c d bound
      bound_added = record {
        adds = bound_adds;
        unifies = bound_unifies;
        general = bound_general;
        descends = bound_descends a.descends q.below;
      }

  module _ (ps qs : Pairs) (c : Pointwise) (q : Bound ps m u qs) where
    after_bound : (r : Option Pointwise) → Answers (pairs_substituted (only m u) qs) (extended c m u) r → Answers ps c r
    after_bound None a =
        λ h w. let back = q.back h w in a h (unifies_under h (only m u) qs (under h back.0) back.1)
    after_bound (Some d) a = (bound a.0, bound_added a.0 ps qs c d q a.1)

-- ---- all steps

pub answers : {ps : Pairs} {c : Pointwise} {n : ℕ} {r : Option Pointwise} → Solves ps c n r → Answers ps c r
answers (at_end {ps = ps} {s = c} e) = (variable, nothing ps c (step ps solved e))
answers (at_clash {ps = ps} e) = step ps clash e
answers (after_reduce {ps = ps} {qs = qs} {s = c} {r = r} e d) = after_reduced ps qs c (step ps (reduce qs) e) r (answers d)
answers (after_bind {ps = ps} {qs = qs} {s = c} {r = r} {m = m} {u = u} e d) = after_bound m u ps qs c (step ps (bind m u qs) e) r (answers d)
