-- From what is shown to safe terms: a passed goal is safe, and so is what the clauses that it reaches make of it.
use Rattle.std.proofs.Common.{◌≡◌, ℕ, zero, suc, ◌+◌, Bool, true, false, ◌||◌, List, [], ◌∷◌, ◌++◌, length, if◌then◌else◌, IsTrue, Option, Some, None, refl, ap, sym, subst, ◌∙◌, ◌⊎◌, inl, inr}
use Rattle.std.specs.List.{list_all, flat_map}
use Rattle.term_core.specs.declared.pi.Pi.{Pi}
use Rattle.term_core.specs.Tree.{Tree, variable, integer, atom, compound, Trees, no_trees, tree, arity}
use Rattle.builtin_table.specs.Outside.{is_outside_in}
use Rattle.builtin_table.specs.Table.{Rows}
use Rattle.program.specs.Clauses.{Clause, same_indicator, clauses_of}
use Rattle.solve_model.specs.Run.{World, query}
use Rattle.sandbox_walk.specs.declared.found.Kind.{Kind}
use Rattle.sandbox_walk.specs.declared.found.Kind.TheVariants.{Plain, Part, Adds, Behind}
use Rattle.sandbox_walk.specs.declared.found.Stands.{Stands}
use Rattle.sandbox_walk.specs.declared.found.Stands.TheVariants.{Opens, Unbound, Shut}
use Rattle.sandbox_walk.specs.declared.found.Found.{Found}
use Rattle.sandbox_walk.specs.declared.found.Found.TheVariants.{Literal, Place}
use Rattle.sandbox_walk.specs.Shown.{Kinds, kinds_in, indicator, shown, shown_in, fresh, placed, stands, too_many, is_hat}
use Rattle.sandbox_walk.specs.Verdict.{Reach, by_goal, by_clause, enters, in_goal, in_clause, in_predicate, is_literal, has_literal}
use Rattle.sandbox_walk.specs.Passes.{opens, Passes}
use Rattle.sandbox_walk.proofs.Joining.{all_parts, any_left, any_right}
use Rattle.sandbox_walk.proofs.Walking.{itself}
use Rattle.sandbox_walk.proofs.Instances.{May, when, SafeFresh, Safe, SafeIn, safe_instance}
use Rattle.sandbox_walk.proofs.Guarded.{AllPassOn, KnowsRows, Same, query_same}

-- a kind that is a goal
abbrev pub IsGoal : Kind → Type 0
IsGoal Plain = ⊥
IsGoal Part = Unit {0}
IsGoal (Adds k) = Unit {0}
IsGoal Behind = Unit {0}

-- `ks` is how a text is read, and `run_ks` how arguments are read at run time
module _ (m : May) (ks run_ks : Kinds) where
  -- a literal that may be run and is read alike, or a position that opens
  abbrev pub IsGood : Found → Type 0
  IsGood (Literal i) = m i × (ks i ≡ run_ks i)
  IsGood (Place h Opens) = Unit {0}
  IsGood (Place h Unbound) = ⊥
  IsGood (Place h (Shut t)) = ⊥

  abbrev pub AreGood : List Found → Type 0
  AreGood [] = Unit {0}
  AreGood (x ∷ xs) = IsGood x × AreGood xs

  good_left : (xs ys : List Found) → AreGood (xs ++ ys) → AreGood xs
  good_left [] ys h = tt
  good_left (x ∷ xs) ys h = (h.0, good_left xs ys h.1)

  good_right : (xs ys : List Found) → AreGood (xs ++ ys) → AreGood ys
  good_right [] ys h = h
  good_right (x ∷ xs) ys h = good_right xs ys h.1

  good_placed : (h : Option Pi) (x : Stands) (fs : List Found) → AreGood (placed h x fs) → AreGood fs
  good_placed h Opens fs g = g.1
  good_placed h Unbound fs g = absurd g.0
  good_placed h (Shut t) fs g = absurd g.0

  good_fresh : (h : Option Pi) (k : ℕ) (xs : List Kind) → AreGood (fresh h k xs) → SafeFresh k xs
  unfolding fresh SafeFresh
  good_fresh h zero xs g = tt
  good_fresh h (suc k) [] g = tt
  good_fresh h (suc k) (Plain ∷ xs) g = good_fresh h k xs g
  good_fresh h (suc k) (Part ∷ xs) g = absurd g.1.0
  good_fresh h (suc k) (Adds j ∷ xs) g = absurd g.0
  good_fresh h (suc k) (Behind ∷ xs) g = absurd g.0

  abbrev Inner : List ℕ → Trees → ℕ → ℕ → List Found
  Inner f ts n k = Literal (indicator f n) ∷ shown_in ks (Some (indicator f n)) ts (ks (indicator f n)) k

  adds_case : (h : Option Pi) (f : List ℕ) (ts : Trees) (k : ℕ) (b : Bool) → (AreGood (shown_in ks (Some (indicator f (arity ts + k))) ts (ks (indicator f (arity ts + k))) k) → SafeIn m run_ks ts (ks (indicator f (arity ts + k))) k) →
      AreGood (if b then Place h Opens ∷ [] else placed h (stands k f ts) (Inner f ts (arity ts + k) k)) →
      when b (Unit {0}) (m (indicator f (arity ts + k)) × SafeIn m run_ks ts (run_ks (indicator f (arity ts + k))) k)
  adds_case h f ts k true go g = tt
  adds_case h f ts k false go g =
      let x : AreGood (Inner f ts (arity ts + k) k) = good_placed h (stands k f ts) (Inner f ts (arity ts + k) k) g in
      (x.0.0, subst (λ (xs : List Kind). SafeIn m run_ks ts xs k) x.0.1 (go x.1))

  hat_case : (h : Option Pi) (f : List ℕ) (ts : Trees) (b : Bool) → (AreGood (shown_in ks h ts (Plain ∷ Behind ∷ []) 0) → SafeIn m run_ks ts (Plain ∷ Behind ∷ []) 0) → (AreGood (shown_in ks (Some (indicator f (arity ts))) ts (ks (indicator f (arity ts))) 0) → SafeIn m run_ks ts (ks (indicator f (arity ts))) 0) →
      AreGood (if b then shown_in ks h ts (Plain ∷ Behind ∷ []) 0 else placed h (stands 0 f ts) (Inner f ts (arity ts) 0)) →
      when b (SafeIn m run_ks ts (Plain ∷ Behind ∷ []) 0) (m (indicator f (arity ts)) × SafeIn m run_ks ts (run_ks (indicator f (arity ts))) 0)
  hat_case h f ts true go go2 g = go g
  hat_case h f ts false go go2 g =
      let x : AreGood (Inner f ts (arity ts) 0) = good_placed h (stands 0 f ts) (Inner f ts (arity ts) 0) g in
      (x.0.0, subst (λ (xs : List Kind). SafeIn m run_ks ts xs 0) x.0.1 (go2 x.1))

  mutual
    unfolding shown Safe fresh SafeFresh

    pub good_safe : (h : Option Pi) (t : Tree) (k : Kind) → IsGoal k → AreGood (shown ks h t k) → Safe m run_ks t k
    good_safe h t Plain e g = absurd e
    good_safe h (variable n) Part e g = absurd g.1.0
    good_safe h (variable n) (Adds k) e g = absurd g.0
    good_safe h (variable n) Behind e g = absurd g.0
    good_safe h (integer z) Part e g = tt
    good_safe h (integer z) (Adds k) e g = tt
    good_safe h (integer z) Behind e g = tt
    good_safe h (atom f) Part e g = g.0.0
    good_safe h (atom f) (Adds k) e g = (g.1.0.0, subst (SafeFresh k) g.1.0.1 (good_fresh (Some (indicator f k)) k (ks (indicator f k)) g.1.1))
    good_safe h (atom f) Behind e g = g.1.0.0
    good_safe h (compound f ts) Part e g = (g.0.0, subst (λ (xs : List Kind). SafeIn m run_ks ts xs 0) g.0.1 (good_in (Some (indicator f (arity ts))) ts (ks (indicator f (arity ts))) 0 g.1))
    good_safe h (compound f ts) (Adds k) e g = adds_case h f ts k (too_many k (arity ts + k)) (good_in (Some (indicator f (arity ts + k))) ts (ks (indicator f (arity ts + k))) k) g
    good_safe h (compound f ts) Behind e g = hat_case h f ts (is_hat f (arity ts)) (good_in h ts (Plain ∷ Behind ∷ []) 0) (good_in (Some (indicator f (arity ts))) ts (ks (indicator f (arity ts))) 0) g

    good_in : (h : Option Pi) (ts : Trees) (xs : List Kind) (k : ℕ) → AreGood (shown_in ks h ts xs k) → SafeIn m run_ks ts xs k
    good_in h no_trees xs k g = good_fresh h k xs g
    good_in h (tree t ts) [] k g = tt
    good_in h (tree t ts) (Plain ∷ xs) k g = good_in h ts xs k (good_right (shown ks h t Plain) (shown_in ks h ts xs k) g)
    good_in h (tree t ts) (Part ∷ xs) k g = (good_safe h t Part tt (good_left (shown ks h t Part) (shown_in ks h ts xs k) g), good_in h ts xs k (good_right (shown ks h t Part) (shown_in ks h ts xs k) g))
    good_in h (tree t ts) (Adds j ∷ xs) k g = (good_safe h t (Adds j) tt (good_left (shown ks h t (Adds j)) (shown_in ks h ts xs k) g), good_in h ts xs k (good_right (shown ks h t (Adds j)) (shown_in ks h ts xs k) g))
    good_in h (tree t ts) (Behind ∷ xs) k g = (good_safe h t Behind tt (good_left (shown ks h t Behind) (shown_in ks h ts xs k) g), good_in h ts xs k (good_right (shown ks h t Behind) (shown_in ks h ts xs k) g))

  -- literals that are among these may be run, and every place opens
  pub all_good : (fs : List Found) → ((i : Pi) → IsTrue (has_literal i fs) → m i × (ks i ≡ run_ks i)) → list_all opens fs ≡ true → AreGood fs
  all_good [] may o = tt
  all_good (Literal i ∷ fs) may o =
      (may i (ap (λ (b : Bool). b || has_literal i fs) (itself i)), all_good fs (λ j h. may j (or_right (same_indicator j i) (has_literal j fs) h)) o)
    where
      or_right : (a b : Bool) → IsTrue b → IsTrue (a || b)
      or_right true b h = refl
      or_right false b h = h
  all_good (Place h Opens ∷ fs) may o = (tt, all_good fs may o)
  all_good (Place h Unbound ∷ fs) may o = cc
  all_good (Place h (Shut t) ∷ fs) may o = cc

-- What is used of an accepted program. `known` are the literals that clauses of the library run which aren't read, and `run_ks` how arguments are read at run time.
pub record IsAccepted (rows : Rows) (p : List Clause) (known : Pi → Bool) (run_ks : Kinds) : Type 1 where
  -- a predicate that is read otherwise at run time is one that no passed goal reaches
  pub alike : (i : Pi) → (kinds_in rows i ≡ run_ks i) ⊎ (IsTrue (enters rows p i) × (list_all opens (in_predicate rows p i) ≡ false))
  pub inside : (i : Pi) → IsTrue (known i) → is_outside_in rows i ≡ false
  pub quiet : (m : May) → ((i : Pi) → IsTrue (known i) → m i) → (i : Pi) → (enters rows p i ≡ false) ⊎ IsTrue (known i) → AllPassOn m run_ks (clauses_of i p)
  pub knows : (m : May) → ((i : Pi) → IsTrue (known i) → m i) → KnowsRows m run_ks

module _ (rows : Rows) (p : List Clause) (known : Pi → Bool) (run_ks : Kinds) (acc : IsAccepted rows p known run_ks) (g : Tree) (ok : Passes rows p g) where
  abbrev pub MayRun : May
  MayRun i = Reach rows p g i ⊎ IsTrue (known i)

  read_alike : (i : Pi) → Reach rows p g i → kinds_in rows i ≡ run_ks i
  read_alike i r = elim (acc.alike i) [
    | inl e ↦ e
    | inr u ↦ absurd (differ (sym (ok.clauses i r u.0) ∙ u.1))
  ]
    where
      differ : true ≡ false → ⊥
      differ e = cc

  goal_safe : Safe MayRun run_ks g (Adds 0)
  goal_safe =
      good_safe MayRun (kinds_in rows) run_ks None g (Adds 0) tt
      (all_good MayRun (kinds_in rows) run_ks (in_goal rows g) (λ i h. (inl (by_goal i h), read_alike i (by_goal i h))) ok.goal)

  module _ (i : Pi) (r : Reach rows p g i) (e : IsTrue (enters rows p i)) where
    each_passes : (cs : List Clause) → ((j : Pi) → IsTrue (has_literal j (flat_map (in_clause rows) cs)) → Reach rows p g j) → list_all opens (flat_map (in_clause rows) cs) ≡ true → AllPassOn MayRun run_ks cs
    each_passes [] reach o = tt
    each_passes (c ∷ cs) reach o =
        let q = all_parts opens (in_clause rows c) (flat_map (in_clause rows) cs) o in
        let safe : Safe MayRun run_ks c.body Part =
        good_safe MayRun (kinds_in rows) run_ks None c.body Part tt
        (all_good MayRun (kinds_in rows) run_ks (in_clause rows c)
        (λ j h. let x : Reach rows p g j = reach j (any_left (is_literal j) (in_clause rows c) (flat_map (in_clause rows) cs) h) in (inl x, read_alike j x)) q.0) in (
          (λ s h. safe_instance MayRun run_ks s c.body Part safe),
          each_passes cs (λ j h. reach j (any_right (is_literal j) (in_clause rows c) (flat_map (in_clause rows) cs) h)) q.1,
        )

    entered_passes : AllPassOn MayRun run_ks (clauses_of i p)
    entered_passes = each_passes (clauses_of i p) (λ j h. by_clause i j r e h) (ok.clauses i r e)

  clauses_pass : (i : Pi) → MayRun i → AllPassOn MayRun run_ks (clauses_of i p)
  clauses_pass i (inl r) = by (enters rows p i) refl
    where
      by : (b : Bool) → enters rows p i ≡ b → AllPassOn MayRun run_ks (clauses_of i p)
      by true e = entered_passes i r e
      by false e = acc.quiet MayRun (λ j h. inr h) i (inl e)
  clauses_pass i (inr k) = acc.quiet MayRun (λ j h. inr h) i (inr k)

  may_inside : (i : Pi) → MayRun i → is_outside_in rows i ≡ false
  may_inside i (inl r) = ok.inside i r
  may_inside i (inr k) = acc.inside i k

  -- A passed goal runs the same whatever the primitives outside would do, and doesn't end outside.
  pub sound : (w w' : World) → w.clauses ≡ p → w'.clauses ≡ w.clauses → w'.outside ≡ w.outside → w'.replies ≡ w.replies → w'.limit ≡ w.limit →
      ((i : Pi) → is_outside_in rows i ≡ false → w.outside i ≡ false) →
      ((i : Pi) (ts : List Tree) (v : ℕ) → is_outside_in rows i ≡ false → clauses_of i p ≡ [] → length ts ≡ i.arity → w'.primitive i ts v ≡ w.primitive i ts v) →
      (t : Tree) → Same (query w g t) (query w' g t)
  sound w w' e clauses outside replies limit inside prims t =
      query_same MayRun run_ks (acc.knows MayRun (λ i h. inr h)) w w'
      (record {
        same_clauses = clauses;
        same_outside = outside;
        same_replies = replies;
        same_limit = limit;
        inside = λ i h. inside i (may_inside i h);
        pass_on = λ i h. subst (λ (cs : List Clause). AllPassOn MayRun run_ks (clauses_of i cs)) (sym e) (clauses_pass i h);
        same_primitives = λ i ts v h none n. prims i ts v (may_inside i h) (ap (clauses_of i) (sym e) ∙ none) n;
      }) g t goal_safe
