-- The laws.
use Rattle.std.proofs.Common.{◌≡◌, ℕ, [], ◌∷◌, Option, Some, None, refl, ap, ◌∙◌, sym, arith, subst, option_map}
use Rattle.std.proofs.lemmas.List.Sorted.{All-permutation, IsPermutation-sym}
use Rattle.term_core.specs.Tree.{Tree, variable, integer, atom, compound, Trees, no_trees, tree}
use Rattle.term_core.specs.Substitution.{substituted, all_substituted, value_of, pairs_substituted, followed_by}
use Rattle.term_core.specs.Unifier.{Pairs, Pointwise, mgu, solution, Solves-solution}
use Rattle.term_core.proofs.Substituting.{substituted-variable, solution-followed_by}
use Rattle.unifier_laws.specs.Laws.{Unifies, GoesThrough, SolvesItsPairs, IsMostGeneral, IsIdempotent, AreTheSameMap, OrderDoesntMatter, FollowsWhatIsGiven}
use Rattle.unifier_laws.proofs.Trees.{integer_variable, atom_variable, compound_variable, same_parts, same_head, same_tail}
use Rattle.unifier_laws.proofs.Steps.{Joins}
use Rattle.unifier_laws.proofs.Solving.{Descends, Answers, answers}

same_pairs : (ps : Pairs) → pairs_substituted (value_of []) ps ≡ ps
same_pairs [] = refl
same_pairs (p ∷ ps) = λ i. (substituted-variable p.0 i, substituted-variable p.1 i) ∷ same_pairs ps i

-- what a substitution does where it solves pairs from nothing
pub record Solved (ps : Pairs) (g : ℕ → Tree) : Type 0 where
  pub unifies : Unifies g ps
  pub general : (h : ℕ → Tree) → Unifies h ps → GoesThrough h g
  pub descends : Descends g

abbrev pub Judged : Pairs → Option Pointwise → Type 0
Judged ps None = (h : ℕ → Tree) → Unifies h ps → ⊥
Judged ps (Some d) = Solved ps (value_of d)

judged_by : (ps : Pairs) (r : Option Pointwise) → Answers ps [] r → Judged ps r
judged_by ps None a = a
judged_by ps (Some d) a =
    let same : a.0 ≡ value_of d = λ i n. sym (a.1.adds n) i in
    subst (Solved ps) same (record {
      unifies = a.1.unifies;
      general = a.1.general;
      descends = a.1.descends;
    })

pub judged : (ps : Pairs) → Judged ps (mgu ps [])
judged ps =
    subst (λ qs. Judged ps (solution qs [])) (sym (same_pairs ps)) (judged_by ps (solution ps []) (answers (Solves-solution ps [])))

found : (ps : Pairs) (c : Pointwise) → mgu ps [] ≡ Some c → Solved ps (value_of c)
found ps c e = subst (Judged ps) e (judged ps)

pub solves_its_pairs : SolvesItsPairs
solves_its_pairs ps c e = (found ps c e).unifies

pub is_most_general : IsMostGeneral
is_most_general ps h u = by (mgu ps []) refl
  where
    by : (r : Option Pointwise) → mgu ps [] ≡ r → (c : Pointwise) × (mgu ps [] ≡ Some c) × GoesThrough h (value_of c)
    by None e = absurd (subst (Judged ps) e (judged ps) h u)
    by (Some c) e = (c, e, (found ps c e).general h u)

pub is_idempotent : IsIdempotent
is_idempotent ps c e =
    let s = found ps c e in
    s.general (value_of c) s.unifies

-- ---- two that go through each other, and only descend, are the same

module _ (g h : ℕ → Tree) (down : Descends g) (falls : Descends h) where
  back_variable : (m : ℕ) (t : Tree) → h m ≡ t → substituted g t ≡ variable m → t ≡ variable m
  back_variable m (variable k) e f =
      let up = down k m f in
      let less = falls m k e in
      let same : k ≡ m = omega arith in
      ap variable same
  back_variable m (integer z) e f = absurd (integer_variable z m f)
  back_variable m (atom a) e f = absurd (atom_variable a m f)
  back_variable m (compound k ts) e f = absurd (compound_variable k (all_substituted g ts) m f)

  mutual
    stays : (t : Tree) → substituted g (substituted h t) ≡ t → substituted h t ≡ t
    stays (variable m) e = back_variable m (h m) refl e
    stays (integer z) e = refl
    stays (atom a) e = refl
    stays (compound f ts) e = ap (compound f) (all_stay ts (same_parts f f (all_substituted g (all_substituted h ts)) ts e))

    all_stay : (ts : Trees) → all_substituted g (all_substituted h ts) ≡ ts → all_substituted h ts ≡ ts
    all_stay no_trees e = refl
    all_stay (tree t ts) e =
        let first = stays t (same_head (substituted g (substituted h t)) t (all_substituted g (all_substituted h ts)) ts e) in
        let others = all_stay ts (same_tail (substituted g (substituted h t)) t (all_substituted g (all_substituted h ts)) ts e) in
        λ i. tree (first i) (others i)

  same_map : GoesThrough g h → GoesThrough h g → (n : ℕ) → g n ≡ h n
  same_map a b n =
      let back : substituted g (substituted h (g n)) ≡ g n = ap (substituted g) (b n) ∙ a n in
      sym (stays (g n) back) ∙ b n

pub order_doesnt_matter : OrderDoesntMatter
order_doesnt_matter ps qs p = by (mgu ps []) (mgu qs []) (judged ps) (judged qs)
  where
    there : (h : ℕ → Tree) → Unifies h ps → Unifies h qs
    there h u = All-permutation (Joins h) ps qs p u

    back : (h : ℕ → Tree) → Unifies h qs → Unifies h ps
    back h u = All-permutation (Joins h) qs ps (IsPermutation-sym ps qs p) u

    by : (r s : Option Pointwise) → Judged ps r → Judged qs s → AreTheSameMap r s
    by None None a b = tt
    by None (Some d) a b = a (value_of d) (back (value_of d) b.unifies)
    by (Some c) None a b = b (value_of c) (there (value_of c) a.unifies)
    by (Some c) (Some d) a b =
        same_map (value_of c) (value_of d) a.descends b.descends (b.general (value_of c) (there (value_of c) a.unifies)) (a.general (value_of d) (back (value_of d) b.unifies))

pub follows_what_is_given : FollowsWhatIsGiven
follows_what_is_given ps s =
    let under = pairs_substituted (value_of s) ps in
    solution-followed_by s under
    ∙ ap (λ qs. option_map (followed_by s) (solution qs [])) (sym (same_pairs under))
