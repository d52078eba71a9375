-- Runs of safe items. One induction over the table of steps: two runners that are related on safe items give related steps. A new row is one more case of `row_safe` and of `goal_guarded`.
use Rattle.std.proofs.Common.{◌≡◌, ℕ, zero, suc, ◌+◌, Bool, true, false, ◌&&◌, ◌||◌, ◌==◌, nat_lt, slice_get, List, [], ◌∷◌, ◌++◌, map, length, if◌then◌else◌, bytes_eq, codes, Option, Some, None, refl, ap, sym, subst, ◌∙◌, arith}
use Rattle.std.specs.Cmp.Lexicographic.{bytes_decides}
use Rattle.std.proofs.lemmas.Bool.{and_parts}
use Rattle.std.proofs.lemmas.Bool.Decides.{nat_tests}
use Rattle.std.proofs.lemmas.List.{length-append}
use Rattle.term_core.specs.declared.pi.Pi.{Pi}
use Rattle.term_core.specs.Tree.{Tree, variable, integer, atom, compound, Trees, no_trees, tree, tree_list, trees_of, arity}
use Rattle.term_core.specs.Parts.{arguments_of}
use Rattle.term_core.specs.Variables.{renamed, map_all_variables, numbered}
use Rattle.term_core.specs.Substitution.{substituted, all_substituted, value_of, apply}
use Rattle.term_core.specs.Unifier.{mgu}
use Rattle.builtin_table.specs.Errors.{one_argument, two_arguments, representation_error}
use Rattle.builtin_table.specs.Primitives.{Offer, Outcome, Offers, Ball, Unknown}
use Rattle.builtin_table.specs.Solutions.{behind_carets, behind_caret, may_be_list, findall_offers, bagof_offers, setof_offers, witness, witnessed, copies, after_copies}
use Rattle.program.specs.Bodies.{is_body}
use Rattle.program.specs.Clauses.{Clause, clauses_of}
use Rattle.solve_model.specs.Goals.{Row, Succeeds, Fails, Cuts, Both, Either, IfElse, Test, Differ, Call, Catch, Throw, Output, Input, FindAll, BagOf, SetOf, Predicate, row_named, atom_rows, one_rows, two_rows, three_rows, row_of, row_of_atom, row_of_one, row_of_two, row_of_three, row_of_arguments, row_of_compound, is_call, arrow, disjunction, counterexample, true_goal, fail_goal, Ready, Runs, Throws, ready, ready_compound, with_arguments, not_callable, control_error, indicator as pi_of, indicator_of as goal_pi, settled, talks}
use Rattle.solve_model.specs.Run.{World, Bindings, Item, Goal, Commit, ExitCatch, End, Failed, Cut, Thrown, Waits, Spent, Outside, Place, Used, Ran, Runner, Branch, ends, marked, after, at_failed, at_cut, at_condition, at_catch, cut_to, in_order, Mark, Asked, undefined, one_reply, if_replied, reply_offer, prompted, without_answers, solutions, at_gathered, gathered, alone, collected, found_all, all_grouped, if_ready, body_branch, entered, offer_branch, offered, performed, called, locally, branched, differs, recovered_by, caught, goal_step, item_step, some_left, one_more, taken, run, query, start, unused}
use Rattle.solve_model.proofs.Settling.{settled_silent, settled_inside}
use Rattle.sandbox_walk.specs.declared.found.Kind.{Kind}
use Rattle.sandbox_walk.specs.declared.found.Kind.TheVariants.{Plain, Part, Adds, Behind}
use Rattle.sandbox_walk.specs.Shown.{Kinds, indicator, too_many, is_hat}
use Rattle.sandbox_walk.proofs.Instances.{May, when, SafeFresh, Safe, SafeIn, arity_instance, safe_instance}
use Rattle.sandbox_walk.proofs.Solving.{Refines, mgu_refines, mgu_solves}

-- ---- what is asked of a relation and of the worlds

-- an end that isn't outside
abbrev pub IsInside : End → Type 0
IsInside (Outside i) = ⊥
IsInside Failed = Unit {0}
IsInside (Cut l) = Unit {0}
IsInside (Thrown b l) = Unit {0}
IsInside Waits = Unit {0}
IsInside Spent = Unit {0}

-- the first argument is a goal, to which nothing is added
abbrev pub SafeFirst : List Kind → Type 0
SafeFirst xs = (more : List Kind) × (xs ≡ Adds 0 ∷ more)

-- the goal positions of the rows that a run knows by their names
pub record KnowsRows (m : May) (ks : Kinds) : Type 0 where
  pub both : ks (indicator (codes ",") 2) ≡ Part ∷ Part ∷ []
  pub either : ks (indicator (codes ";") 2) ≡ Part ∷ Part ∷ []
  pub branch : ks (indicator (codes "->") 2) ≡ Part ∷ Part ∷ []
  pub neg : SafeFirst (ks (indicator (codes "\\+") 1))
  pub once : SafeFirst (ks (indicator (codes "once") 1))
  pub ignore : SafeFirst (ks (indicator (codes "ignore") 1))
  pub forall_of : (more : List Kind) × (ks (indicator (codes "forall") 2) ≡ Adds 0 ∷ Adds 0 ∷ more)
  pub catch_of : (more : List Kind) × (ks (indicator (codes "catch") 3) ≡ Adds 0 ∷ Plain ∷ Adds 0 ∷ more)
  pub findall_of : (more : List Kind) × (ks (indicator (codes "findall") 3) ≡ Plain ∷ Adds 0 ∷ more)
  pub bagof_of : (more : List Kind) × (ks (indicator (codes "bagof") 3) ≡ Plain ∷ Behind ∷ more)
  pub setof_of : (more : List Kind) × (ks (indicator (codes "setof") 3) ≡ Plain ∷ Behind ∷ more)
  pub call_of : (k : ℕ) → nat_lt k 8 ≡ true → (more : List Kind) × (ks (indicator (codes "call") (suc k)) ≡ Adds k ∷ more)
  pub may_true : m (indicator (codes "true") 0)
  pub may_fail : m (indicator (codes "fail") 0)
  pub may_both : m (indicator (codes ",") 2)
  pub may_neg : m (indicator (codes "\\+") 1)

-- a clause whose body is safe wherever its head is
abbrev pub PassesOn : May → Kinds → Clause → Type 0
PassesOn m ks c = (g : ℕ → Tree) → Safe m ks (substituted g c.head) Part → Safe m ks (substituted g c.body) Part

abbrev pub AllPassOn : May → Kinds → List Clause → Type 0
AllPassOn m ks [] = Unit {0}
AllPassOn m ks (c ∷ cs) = PassesOn m ks c × AllPassOn m ks cs

-- Two worlds that are alike for what may be run: their primitives may differ on what may not.
pub record AreAlike (m : May) (ks : Kinds) (w w' : World) : Type 0 where
  pub same_clauses : w'.clauses ≡ w.clauses
  pub same_outside : w'.outside ≡ w.outside
  pub same_replies : w'.replies ≡ w.replies
  pub same_limit : w'.limit ≡ w.limit
  pub inside : (i : Pi) → m i → w.outside i ≡ false
  pub pass_on : (i : Pi) → m i → AllPassOn m ks (clauses_of i w.clauses)
  pub same_primitives : (i : Pi) (ts : List Tree) (v : ℕ) → m i → clauses_of i w.clauses ≡ [] → length ts ≡ i.arity → w'.primitive i ts v ≡ w.primitive i ts v

-- two runs are the same, and don't end outside
abbrev pub Same : Ran → Ran → Type 0
Same a a' = (a ≡ a') × IsInside a.end

same_ends : (e : End) (u : Used) → IsInside e → Same (ends e u) (ends e u)
same_ends e u h = (refl, h)

same_after : (a a' : Ran) (k k' : End → Used → Ran) → Same a a' → ((e : End) (v : Used) → IsInside e → Same (k e v) (k' e v)) → Same (after a k) (after a' k')
same_after a a' k k' h g =
    let q : Same (k a.end a.used) (k' a.end a.used) = g a.end a.used h.1 in
    (ap (λ (b : Ran). let x : Ran = record b { marks = a.marks ++ b.marks } in x) q.0 ∙ ap (λ (x : Ran). after x k') h.0, q.1)

same_marked : (x : Mark) (u : Used) (a a' : Ran) → Same a a' → Same (marked x u a) (marked x u a')
same_marked x u a a' h = (ap (marked x u) h.0, h.1)

same_failed : (f f' : Used → Ran) → ((v : Used) → Same (f v) (f' v)) → (e : End) (v : Used) → IsInside e → Same (at_failed f e v) (at_failed f' e v)
same_failed f f' g Failed v h = g v
same_failed f f' g (Cut l) v h = (refl, tt)
same_failed f f' g (Thrown b l) v h = (refl, tt)
same_failed f f' g Waits v h = (refl, tt)
same_failed f f' g Spent v h = (refl, tt)
same_failed f f' g (Outside i) v h = absurd h

same_cut : (d : ℕ) (e : End) (v : Used) → IsInside e → Same (at_cut d e v) (at_cut d e v)
same_cut d Failed v h = (refl, tt)
same_cut d (Cut l) v h = (refl, at (l == d))
  where
    at : (b : Bool) → IsInside (if b then Failed else Cut l)
    at true = tt
    at false = tt
same_cut d (Thrown b l) v h = (refl, tt)
same_cut d Waits v h = (refl, tt)
same_cut d Spent v h = (refl, tt)
same_cut d (Outside i) v h = absurd h

same_cut_to : (d : ℕ) (e : End) (v : Used) → IsInside e → Same (cut_to d e v) (cut_to d e v)
same_cut_to d Failed v h = (refl, tt)
same_cut_to d (Cut l) v h = (refl, tt)
same_cut_to d (Thrown b l) v h = (refl, tt)
same_cut_to d Waits v h = (refl, tt)
same_cut_to d Spent v h = (refl, tt)
same_cut_to d (Outside i) v h = absurd h

same_condition : (d : ℕ) (f f' : Used → Ran) → ((v : Used) → Same (f v) (f' v)) → (e : End) (v : Used) → IsInside e → Same (at_condition d f e v) (at_condition d f' e v)
same_condition d f f' g Failed v h = g v
same_condition d f f' g (Cut l) v h = at (l == suc d)
  where
    at : (b : Bool) → Same (elim b [ true ↦ f v | false ↦ ends (if l == d then Failed else Cut l) v ]) (elim b [ true ↦ f' v | false ↦ ends (if l == d then Failed else Cut l) v ])
    at true = g v
    at false = same_cut d (Cut l) v tt
same_condition d f f' g (Thrown b l) v h = (refl, tt)
same_condition d f f' g Waits v h = (refl, tt)
same_condition d f f' g Spent v h = (refl, tt)
same_condition d f f' g (Outside i) v h = absurd h

same_catch : (d : ℕ) (f f' : Tree → Used → Ran) → ((b : Tree) (v : Used) → Same (f b v) (f' b v)) → (e : End) (v : Used) → IsInside e → Same (at_catch d f e v) (at_catch d f' e v)
same_catch d f f' g Failed v h = (refl, tt)
same_catch d f f' g (Cut l) v h = same_cut d (Cut l) v tt
same_catch d f f' g (Thrown b l) v h = at (l == d)
  where
    at : (c : Bool) → Same (elim c [ true ↦ f b v | false ↦ ends (Thrown b l) v ]) (elim c [ true ↦ f' b v | false ↦ ends (Thrown b l) v ])
    at true = g b v
    at false = (refl, tt)
same_catch d f f' g Waits v h = (refl, tt)
same_catch d f f' g Spent v h = (refl, tt)
same_catch d f f' g (Outside i) v h = absurd h

-- ---- goals made ready

and_many : (b : Bool) (n : ℕ) → (b && (suc (suc (suc n)) == 2)) ≡ false
and_many true n = grind (arith, nat_tests)
and_many false n = refl

plus_zero : (n : ℕ) → n + 0 ≡ n
plus_zero n = omega arith

length_map : (g : Tree → Tree) (ts : List Tree) → length (map g ts) ≡ length ts
length_map g [] = refl
length_map g (t ∷ ts) = ap suc (length_map g ts)

length_list : (ts : Trees) → length (tree_list ts) ≡ arity ts
length_list no_trees = refl
length_list (tree t ts) = ap suc (length_list ts)

arity_of : (ts : List Tree) → arity (trees_of ts) ≡ length ts
arity_of [] = refl
arity_of (t ∷ ts) = ap suc (arity_of ts)

module _ (m : May) (ks : Kinds) where
  abbrev ReadySafe : Ready → Type 0
  ReadySafe (Runs t) = Safe m ks t Part
  ReadySafe (Throws b) = Unit {0}

  -- a goal to which nothing is added is read as a part of a body, and the other way round
  adds_part : (t : Tree) → Safe m ks t (Adds 0) → Safe m ks t Part
  unfolding Safe
  adds_part (variable n) h = h
  adds_part (integer z) h = tt
  adds_part (atom f) h = h.0
  adds_part (compound f ts) h = subst (λ (n : ℕ). m (indicator f n) × SafeIn m ks ts (ks (indicator f n)) 0) (plus_zero (arity ts)) h

  part_adds : (t : Tree) → Safe m ks t Part → Safe m ks t (Adds 0)
  unfolding Safe SafeFresh
  part_adds (variable n) h = h
  part_adds (integer z) h = tt
  part_adds (atom f) h = (h, tt)
  part_adds (compound f ts) h = subst (λ (n : ℕ). m (indicator f n) × SafeIn m ks ts (ks (indicator f n)) 0) (sym (plus_zero (arity ts))) h

  -- a goal behind `V^` without these
  not_hat : (f : List ℕ) (ts : Trees) → is_hat f (arity ts) ≡ false → Safe m ks (compound f ts) Behind → Safe m ks (compound f ts) (Adds 0)
  unfolding Safe
  not_hat f ts e h =
      part_adds (compound f ts) (subst (λ (b : Bool). when b (SafeIn m ks ts (Plain ∷ Behind ∷ []) 0) (m (indicator f (arity ts)) × SafeIn m ks ts (ks (indicator f (arity ts))) 0)) e h)

  mutual
    unfolding behind_carets Safe SafeFresh

    carets_safe : (t : Tree) → Safe m ks t Behind → Safe m ks (behind_carets t) (Adds 0)
    carets_safe (variable n) h = h
    carets_safe (integer z) h = tt
    carets_safe (atom f) h = (h, tt)
    carets_safe (compound f ts) h = by (bytes_eq f (codes "^")) refl h (caret_safe f ts)
      where
        by : (b : Bool) → bytes_eq f (codes "^") ≡ b → Safe m ks (compound f ts) Behind → (bytes_eq f (codes "^") ≡ true → Safe m ks (compound f ts) Behind → Safe m ks (behind_caret f ts) (Adds 0)) →
            Safe m ks (if b then behind_caret f ts else compound f ts) (Adds 0)
        by true e k go = go e k
        by false e k go = not_hat f ts (ap (λ (b : Bool). b && (arity ts == 2)) e) k

    caret_safe : (f : List ℕ) (ts : Trees) → bytes_eq f (codes "^") ≡ true → Safe m ks (compound f ts) Behind → Safe m ks (behind_caret f ts) (Adds 0)
    caret_safe f no_trees e h = not_hat f no_trees (ap (λ (b : Bool). b && (0 == 2)) e) h
    caret_safe f (tree v no_trees) e h = not_hat f (tree v no_trees) (ap (λ (b : Bool). b && (1 == 2)) e) h
    caret_safe f (tree v (tree g no_trees)) e h =
        carets_safe g (subst (λ (b : Bool). when b (SafeIn m ks (tree v (tree g no_trees)) (Plain ∷ Behind ∷ []) 0) (m (indicator f 2) × SafeIn m ks (tree v (tree g no_trees)) (ks (indicator f 2)) 0)) (ap (λ (b : Bool). b && (2 == 2)) e) h).0
    caret_safe f (tree v (tree g (tree x us))) e h = not_hat f (tree v (tree g (tree x us))) (and_many (bytes_eq f (codes "^")) (arity us)) h

  ready_by : (t : Tree) (b : Bool) → Safe m ks t Part → ReadySafe (if b then Runs t else Throws (not_callable t))
  ready_by t true h = h
  ready_by t false h = tt

  part_ready : (t : Tree) → Safe m ks t Part → ReadySafe (ready t)
  unfolding ready Safe
  part_ready (variable n) h = absurd h
  part_ready (integer z) h = ready_by (integer z) (is_body (integer z)) h
  part_ready (atom f) h = ready_by (atom f) (is_body (atom f)) h
  part_ready (compound f ts) h = ready_by (compound f ts) (is_body (compound f ts)) h

  ready_safe : (t : Tree) → Safe m ks t (Adds 0) → ReadySafe (ready t)
  ready_safe t h = part_ready t (adds_part t h)

  fresh_in : (ts : List Tree) (xs : List Kind) → SafeFresh (length ts) xs → SafeIn m ks (trees_of ts) xs 0
  unfolding Safe SafeFresh
  fresh_in [] xs h = tt
  fresh_in (t ∷ ts) [] h = tt
  fresh_in (t ∷ ts) (Plain ∷ xs) h = fresh_in ts xs h
  fresh_in (t ∷ ts) (Part ∷ xs) h = absurd h
  fresh_in (t ∷ ts) (Adds j ∷ xs) h = absurd h
  fresh_in (t ∷ ts) (Behind ∷ xs) h = absurd h

  added_in : (us : Trees) (ts : List Tree) (xs : List Kind) → SafeIn m ks us xs (length ts) → SafeIn m ks (trees_of (tree_list us ++ ts)) xs 0
  unfolding Safe
  added_in no_trees ts xs h = fresh_in ts xs h
  added_in (tree u us) ts [] h = tt
  added_in (tree u us) ts (Plain ∷ xs) h = added_in us ts xs h
  added_in (tree u us) ts (Part ∷ xs) h = (h.0, added_in us ts xs h.1)
  added_in (tree u us) ts (Adds j ∷ xs) h = (h.0, added_in us ts xs h.1)
  added_in (tree u us) ts (Behind ∷ xs) h = (h.0, added_in us ts xs h.1)

  compound_ready : (f : List ℕ) (ts : List Tree) → (nat_lt 1024 (length ts) ≡ false → m (indicator f (length ts)) × SafeIn m ks (trees_of ts) (ks (indicator f (length ts))) 0) → ReadySafe (ready_compound f ts)
  unfolding Safe
  compound_ready f ts h = by (nat_lt 1024 (length ts)) refl
    where
      by : (b : Bool) → nat_lt 1024 (length ts) ≡ b → ReadySafe (if b then Throws (control_error (representation_error (codes "max_arity"))) else ready (compound f (trees_of ts)))
      by true e = tt
      by false e = part_ready (compound f (trees_of ts)) (subst (λ (n : ℕ). m (indicator f n) × SafeIn m ks (trees_of ts) (ks (indicator f n)) 0) (sym (arity_of ts)) (h e))

  length_added : (us : Trees) (ts : List Tree) → arity us + length ts ≡ length (tree_list us ++ ts)
  length_added us ts = omega (arith, length-append (tree_list us) ts, length_list us)

  and_no : (a b : Bool) → b ≡ false → (a && b) ≡ false
  and_no true b e = e
  and_no false b e = refl

  with_safe : (t : Tree) (ts : List Tree) → Safe m ks t (Adds (length ts)) → ReadySafe (with_arguments t ts)
  unfolding with_arguments Safe
  with_safe t [] h = ready_safe t h
  with_safe (variable n) (u ∷ us) h = tt
  with_safe (integer z) (u ∷ us) h = tt
  with_safe (atom f) (u ∷ us) h = compound_ready f (u ∷ us) (λ e. (h.0, fresh_in (u ∷ us) (ks (indicator f (length (u ∷ us)))) h.1))
  with_safe (compound f ts) (u ∷ us) h =
      compound_ready f (tree_list ts ++ u ∷ us)
      (λ e. subst (λ (n : ℕ). m (indicator f n) × SafeIn m ks (trees_of (tree_list ts ++ u ∷ us)) (ks (indicator f n)) 0) (length_added ts (u ∷ us))
      (let g : m (indicator f (arity ts + length (u ∷ us))) × SafeIn m ks ts (ks (indicator f (arity ts + length (u ∷ us)))) (length (u ∷ us)) =
      not_many (too_many (length (u ∷ us)) (arity ts + length (u ∷ us))) (and_no (nat_lt 0 (length (u ∷ us))) (nat_lt 1024 (arity ts + length (u ∷ us))) (ap (nat_lt 1024) (length_added ts (u ∷ us)) ∙ e)) h in
      (g.0, added_in ts (u ∷ us) (ks (indicator f (arity ts + length (u ∷ us)))) g.1)))
    where
      not_many : (b : Bool) → b ≡ false → when b (Unit {0}) (m (indicator f (arity ts + length (u ∷ us))) × SafeIn m ks ts (ks (indicator f (arity ts + length (u ∷ us)))) (length (u ∷ us))) →
          m (indicator f (arity ts + length (u ∷ us))) × SafeIn m ks ts (ks (indicator f (arity ts + length (u ∷ us)))) (length (u ∷ us))
      not_many true e k = cc
      not_many false e k = k

-- ---- rows

abbrev Each : (Row → Type 0) → List ℕ → List (List ℕ × Row) → Type 0
Each P f [] = Unit {0}
Each P f (p ∷ ps) = (f ≡ p.0 → P p.1) × Each P f ps

named : (P : Row → Type 0) (f : List ℕ) (ps : List (List ℕ × Row)) (r : Row) → Each P f ps → P r → P (row_named f ps r)
named P f [] r e h = h
named P f (p ∷ ps) r e h = by (bytes_eq f p.0) refl (named P f ps r e.1 h)
  where
    by : (b : Bool) → bytes_eq f p.0 ≡ b → P (row_named f ps r) → P (if b then p.1 else row_named f ps r)
    by true q ih = e.0 ((bytes_decides f p.0).0 q)
    by false q ih = ih

module _ (m : May) (ks : Kinds) (rows : KnowsRows m ks) where
  abbrev At : Bindings → Tree → Kind → Type 0
  At s t k = Safe m ks (apply s t) k

  -- a goal of a predicate that may be run
  abbrev MayCall : Bindings → Pi → Tree → Type 0
  MayCall s i t = m i × At s t Part × (length (arguments_of (apply s t)) ≡ i.arity)

  abbrev RowSafe : Bindings → Row → Type 0
  RowSafe s Succeeds = Unit {0}
  RowSafe s Fails = Unit {0}
  RowSafe s Cuts = Unit {0}
  RowSafe s (Both a b) = At s a Part × At s b Part
  RowSafe s (Either a b) = At s a Part × At s b Part
  RowSafe s (IfElse c t e) = At s c Part × At s t Part × At s e Part
  RowSafe s (Test c t e) = At s c (Adds 0) × At s t Part × At s e Part
  RowSafe s (Differ a b) = Unit {0}
  RowSafe s (Call g ts) = At s g (Adds (length ts))
  RowSafe s (Catch g c r) = At s g (Adds 0) × At s r (Adds 0)
  RowSafe s (Throw b) = Unit {0}
  RowSafe s (Output a) = Unit {0}
  RowSafe s (Input a b) = Unit {0}
  RowSafe s (FindAll t g l) = At s g (Adds 0)
  RowSafe s (BagOf t g l) = At s g Behind
  RowSafe s (SetOf t g l) = At s g Behind
  RowSafe s (Predicate i t) = MayCall s i t

  safe_true : (s : Bindings) → At s true_goal Part
  unfolding Safe
  safe_true s = rows.may_true

  safe_fail : (s : Bindings) → At s fail_goal Part
  unfolding Safe
  safe_fail s = rows.may_fail

  -- the arguments by the goal positions of the row of this name
  in_row : (f g : List ℕ) (n : ℕ) (ts : Trees) (xs : List Kind) → f ≡ g → ks (indicator g n) ≡ xs → SafeIn m ks ts (ks (indicator f n)) 0 → SafeIn m ks ts xs 0
  in_row f g n ts xs e k h = subst (λ (ys : List Kind). SafeIn m ks ts ys 0) (ap (λ (x : List ℕ). ks (indicator x n)) e ∙ k) h

  may_call : (s : Bindings) (f : List ℕ) (ts : Trees) → At s (compound f ts) Part → MayCall s (indicator f (arity ts)) (compound f ts)
  unfolding Safe
  may_call s f ts h = (
    subst (λ (n : ℕ). m (indicator f n)) (arity_instance (value_of s) ts) h.0,
    h,
    length_list (all_substituted (value_of s) ts) ∙ arity_instance (value_of s) ts,
  )

  atom_safe : (s : Bindings) (f : List ℕ) → At s (atom f) Part → RowSafe s (row_of_atom f)
  unfolding row_of_atom Safe
  atom_safe s f h =
      named (RowSafe s) f atom_rows (Predicate (pi_of f 0) (atom f)) ((λ e. tt), ((λ e. tt), ((λ e. tt), ((λ e. tt), tt)))) (h, h, refl)

  -- the first argument of a row whose first is a goal
  first_goal : (s : Bindings) (f g : List ℕ) (a : Tree) → f ≡ g → SafeFirst (ks (indicator g 1)) → At s (compound f (tree a no_trees)) Part → At s a (Adds 0)
  unfolding Safe
  first_goal s f g a e x h = (in_row f g 1 (tree (apply s a) no_trees) (Adds 0 ∷ x.0) e x.1 h.1).0

  one_safe : (s : Bindings) (f : List ℕ) (a : Tree) → At s (compound f (tree a no_trees)) Part → RowSafe s (row_of_one f a)
  unfolding row_of_one
  one_safe s f a h =
      named (RowSafe s) f (one_rows a) (Predicate (pi_of f 1) (one_argument f a)) (
        (λ e. (first_goal s f (codes "\\+") a e rows.neg h, safe_fail s, safe_true s)),
        (
          (λ e. (first_goal s f (codes "once") a e rows.once h, safe_true s, safe_fail s)),
          (
            (λ e. (first_goal s f (codes "ignore") a e rows.ignore h, safe_true s, safe_true s)),
            ((λ e. tt), ((λ e. tt), tt)),
          ),
        ),
      )
      (may_call s f (tree a no_trees) h)

  abbrev Two : Bindings → Tree → Tree → List Kind → Type 0
  Two s a b xs = SafeIn m ks (tree (apply s a) (tree (apply s b) no_trees)) xs 0

  -- the arguments of a row of two arguments
  two_in : (s : Bindings) (f g : List ℕ) (a b : Tree) (xs : List Kind) → f ≡ g → ks (indicator g 2) ≡ xs → At s (compound f (tree a (tree b no_trees))) Part → Two s a b xs
  unfolding Safe
  two_in s f g a b xs e k h = in_row f g 2 (tree (apply s a) (tree (apply s b) no_trees)) xs e k h.1

  parts_of : (s : Bindings) (a b : Tree) → Two s a b (Part ∷ Part ∷ []) → At s a Part × At s b Part
  unfolding Safe
  parts_of s a b h = (h.0, h.1.0)

  disjunction_safe : (s : Bindings) (a b : Tree) → At s a Part → At s b Part → RowSafe s (disjunction (arrow a) a b)
  disjunction_safe s (variable n) b ha hb = (ha, hb)
  disjunction_safe s (integer z) b ha hb = (ha, hb)
  disjunction_safe s (atom f) b ha hb = (ha, hb)
  disjunction_safe s (compound f no_trees) b ha hb = (ha, hb)
  disjunction_safe s (compound f (tree c no_trees)) b ha hb = (ha, hb)
  disjunction_safe s (compound f (tree c (tree t no_trees))) b ha hb = by (bytes_eq f (codes "->")) refl
    where
      by : (x : Bool) → bytes_eq f (codes "->") ≡ x → RowSafe s (disjunction (if x then Some (c, t) else None) (compound f (tree c (tree t no_trees))) b)
      by true e =
          let p = parts_of s c t (two_in s f (codes "->") c t (Part ∷ Part ∷ []) ((bytes_decides f (codes "->")).0 e) rows.branch ha) in
          (p.0, p.1, hb)
      by false e = (ha, hb)
  disjunction_safe s (compound f (tree c (tree t (tree d ts)))) b ha hb = (ha, hb)

  -- forall(C, A) as a condition
  counterexample_safe : (s : Bindings) (c a : Tree) → At s c (Adds 0) → At s a (Adds 0) → At s (counterexample c a) (Adds 0)
  unfolding Safe SafeFresh
  counterexample_safe s c a hc ha = (
    rows.may_both,
    subst (λ (xs : List Kind). SafeIn m ks (tree (apply s c) (tree (apply s (one_argument (codes "\\+") a)) no_trees)) xs 0) (sym rows.both) (
      adds_part m ks (apply s c) hc,
      ((rows.may_neg, subst (λ (xs : List Kind). SafeIn m ks (tree (apply s a) no_trees) xs 0) (sym rows.neg.1) (ha, tt)), tt),
    ),
  )

  two_safe : (s : Bindings) (f : List ℕ) (a b : Tree) → At s (compound f (tree a (tree b no_trees))) Part → RowSafe s (row_of_two f a b)
  unfolding row_of_two Safe
  two_safe s f a b h =
      named (RowSafe s) f (two_rows a b) (Predicate (pi_of f 2) (two_arguments f a b)) (
        (λ e. parts_of s a b (two_in s f (codes ",") a b (Part ∷ Part ∷ []) e rows.both h)),
        (
          (λ e. let p = parts_of s a b (two_in s f (codes ";") a b (Part ∷ Part ∷ []) e rows.either h) in disjunction_safe s a b p.0 p.1),
          (
            (λ e. let p = parts_of s a b (two_in s f (codes "->") a b (Part ∷ Part ∷ []) e rows.branch h) in (p.0, p.1, safe_fail s)),
            (
              (λ e. tt),
              (
                (λ e. let p = two_in s f (codes "forall") a b (Adds 0 ∷ Adds 0 ∷ rows.forall_of.0) e rows.forall_of.1 h in (counterexample_safe s a b p.0 p.1.0, safe_fail s, safe_true s)),
                ((λ e. tt), tt),
              ),
            ),
          ),
        ),
      )
      (may_call s f (tree a (tree b no_trees)) h)

  -- the second argument of a row whose second is a goal
  second_goal : (s : Bindings) (f g : List ℕ) (a b c : Tree) (k : Kind) → ((ts : Trees) (xs : List Kind) → SafeIn m ks (tree (apply s b) ts) (k ∷ xs) 0 → At s b k) → f ≡ g →
      (more : List Kind) × (ks (indicator g 3) ≡ Plain ∷ k ∷ more) → At s (compound f (tree a (tree b (tree c no_trees)))) Part → At s b k
  unfolding Safe
  second_goal s f g a b c k first e x h =
      first (tree (apply s c) no_trees) x.0 (in_row f g 3 (tree (apply s a) (tree (apply s b) (tree (apply s c) no_trees))) (Plain ∷ k ∷ x.0) e x.1 h.1)

  three_safe : (s : Bindings) (f : List ℕ) (a b c : Tree) → At s (compound f (tree a (tree b (tree c no_trees)))) Part → RowSafe s (row_of_three f a b c)
  unfolding row_of_three Safe
  three_safe s f a b c h =
      named (RowSafe s) f (three_rows a b c) (Predicate (pi_of f 3) (compound f (trees_of (a ∷ b ∷ c ∷ [])))) (
        (λ e.
            let p = in_row f (codes "catch") 3 (tree (apply s a) (tree (apply s b) (tree (apply s c) no_trees))) (Adds 0 ∷ Plain ∷ Adds 0 ∷ rows.catch_of.0) e rows.catch_of.1 h.1 in
            (p.0, p.1.0)),
        (
          (λ e. second_goal s f (codes "findall") a b c (Adds 0) (λ ts xs h. h.0) e rows.findall_of h),
          (
            (λ e. second_goal s f (codes "bagof") a b c Behind (λ ts xs h. h.0) e rows.bagof_of h),
            (
              (λ e. second_goal s f (codes "setof") a b c Behind (λ ts xs h. h.0) e rows.setof_of h),
              tt,
            ),
          ),
        ),
      )
      (may_call s f (tree a (tree b (tree c no_trees))) h)

  arguments_safe : (s : Bindings) (f : List ℕ) (a : Tree) (ts : Trees) → At s (compound f (tree a ts)) Part → RowSafe s (row_of_arguments f a ts)
  unfolding row_of_arguments
  arguments_safe s f a no_trees h = one_safe s f a h
  arguments_safe s f a (tree b no_trees) h = two_safe s f a b h
  arguments_safe s f a (tree b (tree c no_trees)) h = three_safe s f a b c h
  arguments_safe s f a (tree b (tree c (tree d ts))) h = may_call s f (tree a (tree b (tree c (tree d ts)))) h

  call_safe : (s : Bindings) (f : List ℕ) (a : Tree) (ts : Trees) → is_call f (arity ts) ≡ true → At s (compound f (tree a ts)) Part → At s a (Adds (length (tree_list ts)))
  unfolding Safe
  call_safe s f a ts e h =
      let parts = and_parts (bytes_eq f (codes "call")) (nat_lt (arity ts) 8) e in
      let x = rows.call_of (arity ts) parts.1 in
      let here : SafeIn m ks (tree (apply s a) (all_substituted (value_of s) ts)) (Adds (arity ts) ∷ x.0) 0 =
      in_row f (codes "call") (suc (arity ts)) (tree (apply s a) (all_substituted (value_of s) ts)) (Adds (arity ts) ∷ x.0) ((bytes_decides f (codes "call")).0 parts.0) x.1
      (subst (λ (n : ℕ). SafeIn m ks (tree (apply s a) (all_substituted (value_of s) ts)) (ks (indicator f (suc n))) 0) (arity_instance (value_of s) ts) h.1) in
      subst (λ (n : ℕ). At s a (Adds n)) (sym (length_list ts)) here.0

  compound_safe : (s : Bindings) (f : List ℕ) (ts : Trees) → At s (compound f ts) Part → RowSafe s (row_of_compound f ts)
  unfolding row_of_compound
  compound_safe s f no_trees h = may_call s f no_trees h
  compound_safe s f (tree a ts) h = by (is_call f (arity ts)) refl
    where
      by : (b : Bool) → is_call f (arity ts) ≡ b → RowSafe s (if b then Call a (tree_list ts) else row_of_arguments f a ts)
      by true e = call_safe s f a ts e h
      by false e = arguments_safe s f a ts h

  row_safe : (s : Bindings) (t : Tree) → At s t Part → RowSafe s (row_of t)
  unfolding row_of Safe
  row_safe s (variable n) h = part_adds m ks (value_of s n) h
  row_safe s (integer z) h = tt
  row_safe s (atom f) h = atom_safe s f h
  row_safe s (compound f ts) h = compound_safe s f ts h

  -- ---- items

  abbrev ItemsSafe : Bindings → List Item → Type 0
  ItemsSafe s [] = Unit {0}
  ItemsSafe s (Goal t l o ∷ is) = At s t Part × ItemsSafe s is
  ItemsSafe s (Commit l o ∷ is) = ItemsSafe s is
  ItemsSafe s (ExitCatch l ∷ is) = ItemsSafe s is

  -- a term that is safe already is safe under any substitution
  at_any : (s : Bindings) (t : Tree) → Safe m ks t Part → At s t Part
  at_any s t h = safe_instance m ks (value_of s) t Part h

  at_refined : (s x : Bindings) (ps : List (Tree × Tree)) → Refines s x ps → (t : Tree) (k : Kind) → At s t k → At x t k
  at_refined s x ps r t k h = subst (λ (u : Tree). Safe m ks u k) (sym (r.refines t)) (safe_instance m ks r.by (apply s t) k h)

  items_refined : (s x : Bindings) (ps : List (Tree × Tree)) → Refines s x ps → (is : List Item) → ItemsSafe s is → ItemsSafe x is
  items_refined s x ps r [] h = tt
  items_refined s x ps r (Goal t l o ∷ is) h = (at_refined s x ps r t Part h.0, items_refined s x ps r is h.1)
  items_refined s x ps r (Commit l o ∷ is) h = items_refined s x ps r is h
  items_refined s x ps r (ExitCatch l ∷ is) h = items_refined s x ps r is h

  abbrev BranchesSafe : List Branch → Type 0
  BranchesSafe [] = Unit {0}
  BranchesSafe (b ∷ bs) = ItemsSafe b.place.subst b.items × BranchesSafe bs

  -- a renamed term is an instance
  mutual
    renamed_is : (x : Bindings) (v : ℕ) (t : Tree) → apply x (renamed v t) ≡ substituted (λ n. value_of x (n + v)) t
    renamed_is x v (variable n) = refl
    renamed_is x v (integer z) = refl
    renamed_is x v (atom f) = refl
    renamed_is x v (compound f ts) = ap (compound f) (all_renamed_is x v ts)

    all_renamed_is : (x : Bindings) (v : ℕ) (ts : Trees) → all_substituted (value_of x) (map_all_variables (λ n. n + v) ts) ≡ all_substituted (λ n. value_of x (n + v)) ts
    all_renamed_is x v no_trees = refl
    all_renamed_is x v (tree t ts) =
        ap (λ (u : Tree). tree u (all_substituted (value_of x) (map_all_variables (λ n. n + v) ts))) (renamed_is x v t) ∙ ap (tree (substituted (λ n. value_of x (n + v)) t)) (all_renamed_is x v ts)

  body_safe : (c : Clause) → PassesOn m ks c → (t : Tree) (p : Place) (x : Bindings) → mgu ((t, renamed p.next c.head) ∷ []) p.subst ≡ Some x → At p.subst t Part → At x (renamed p.next c.body) Part
  body_safe c pass t p x e h =
      let r = mgu_refines ((t, renamed p.next c.head) ∷ []) p.subst x e in
      let g : ℕ → Tree = λ n. value_of x (n + p.next) in
      let head : Safe m ks (substituted g c.head) Part =
      subst (λ (u : Tree). Safe m ks u Part) (mgu_solves t (renamed p.next c.head) p.subst x e ∙ renamed_is x p.next c.head) (at_refined p.subst x _ r t Part h) in
      subst (λ (u : Tree). Safe m ks u Part) (sym (renamed_is x p.next c.body)) (pass g head)

  entered_safe : (cs : List Clause) → AllPassOn m ks cs → (t : Tree) (is : List Item) (p : Place) (o : Bool) → At p.subst t Part → ItemsSafe p.subst is → BranchesSafe (entered cs t is p o)
  unfolding entered
  entered_safe [] pass t is p o h g = tt
  entered_safe (c ∷ cs) pass t is p o h g = by (mgu ((t, renamed p.next c.head) ∷ []) p.subst) refl (entered_safe cs pass.1 t is p o h g)
    where
      by : (x : Option Bindings) → mgu ((t, renamed p.next c.head) ∷ []) p.subst ≡ x → BranchesSafe (entered cs t is p o) → BranchesSafe (elim x as (λ y. List Branch) [ None ↦ entered cs t is p o | Some s ↦ body_branch c is p o s ∷ entered cs t is p o ])
      by None e rest = rest
      by (Some s) e rest = ((body_safe c pass.0 t p s e h, items_refined p.subst s _ (mgu_refines ((t, renamed p.next c.head) ∷ []) p.subst s e) is g), rest)

  offered_safe : (rs : List Offer) (is : List Item) (p : Place) → ItemsSafe p.subst is → BranchesSafe (offered rs is p)
  unfolding offered
  offered_safe [] is p g = tt
  offered_safe (r ∷ rs) is p g = by (mgu r.pairs p.subst) refl (offered_safe rs is p g)
    where
      by : (x : Option Bindings) → mgu r.pairs p.subst ≡ x → BranchesSafe (offered rs is p) → BranchesSafe (elim x as (λ y. List Branch) [ None ↦ offered rs is p | Some s ↦ offer_branch r is p s ∷ offered rs is p ])
      by None e rest = rest
      by (Some s) e rest = (items_refined p.subst s _ (mgu_refines r.pairs p.subst s e) is g, rest)

  -- ---- the steps over two runners that are alike on safe items

  module _ (w w' : World) (alike : AreAlike m ks w w') (r r' : Runner) (rr : (is : List Item) (p : Place) (o : Bool) (u : Used) → ItemsSafe p.subst is → Same (r is p o u) (r' is p o u)) where
    in_order_same : (bs : List Branch) (o : Bool) (u : Used) → BranchesSafe bs → Same (in_order r bs o u) (in_order r' bs o u)
    unfolding in_order
    in_order_same [] o u h = same_ends Failed u tt
    in_order_same (b ∷ bs) o u h =
        same_after _ _ _ _ (rr b.items b.place (o || some_left bs) u h.0) (same_failed _ _ (λ v. in_order_same bs o v h.1))

    if_ready_same : (x : Ready) (is : List Item) (u : Used) (f f' : Tree → Ran) → ReadySafe m ks x → ((t : Tree) → Safe m ks t Part → Same (f t) (f' t)) → Same (if_ready x is u f) (if_ready x is u f')
    if_ready_same (Runs t) is u f f' h g = g t h
    if_ready_same (Throws b) is u f f' h g = same_ends _ u tt

    locally_same : (t : Tree) (is : List Item) (p : Place) (o : Bool) (u : Used) → Safe m ks t Part → ItemsSafe p.subst is → Same (locally r t is p o u) (locally r' t is p o u)
    locally_same t is p o u h g = same_after _ _ _ _ (rr _ _ o u (at_any p.subst t h, g)) (same_cut p.level)

    undefined_same : (b : Bool) (i : Pi) (is : List Item) (u : Used) → b ≡ false → Same (undefined b i is u) (undefined b i is u)
    undefined_same b i is u e = subst (λ (x : Bool). Same (undefined x i is u) (undefined x i is u)) (sym e) (same_ends _ u tt)

    performed_same : (q : Outcome) (b : Bool) (i : Pi) (is : List Item) (p : Place) (o : Bool) (u : Used) → b ≡ false → ItemsSafe p.subst is → Same (performed r q b i is p o u) (performed r' q b i is p o u)
    performed_same (Offers rs) b i is p o u inside g = in_order_same (offered rs is p) o u (offered_safe rs is p g)
    performed_same (Ball t) b i is p o u inside g = same_ends _ u tt
    performed_same Unknown b i is p o u inside g = undefined_same b i is u inside

    called_same : (cs : List Clause) (i : Pi) (t : Tree) (is : List Item) (p : Place) (o : Bool) (u : Used) → w.outside i ≡ false → AllPassOn m ks cs → (cs ≡ [] → w'.primitive i (arguments_of (apply p.subst t)) p.next ≡ w.primitive i (arguments_of (apply p.subst t)) p.next) → At p.subst t Part → ItemsSafe p.subst is →
        Same (called w r cs i t is p o u) (called w' r' cs i t is p o u)
    called_same [] i t is p o u inside pass prim h g =
        subst (λ (f : Pi → Bool). Same (performed r (w.primitive i (arguments_of (apply p.subst t)) p.next) (w.outside i) i is p o u) (performed r' (w'.primitive i (arguments_of (apply p.subst t)) p.next) (f i) i is p o u)) (sym alike.same_outside)
        (subst (λ (q : Outcome). Same (performed r (w.primitive i (arguments_of (apply p.subst t)) p.next) (w.outside i) i is p o u) (performed r' q (w.outside i) i is p o u)) (sym (prim refl))
        (performed_same (w.primitive i (arguments_of (apply p.subst t)) p.next) (w.outside i) i is p o u inside g))
    called_same (c ∷ cs) i t is p o u inside pass prim h g =
        same_after _ _ _ _ (in_order_same (entered (c ∷ cs) t is p o) o u (entered_safe (c ∷ cs) pass t is p o h g)) (same_cut p.level)

    predicate_same : (i : Pi) (t : Tree) (is : List Item) (p : Place) (o : Bool) (u : Used) → MayCall p.subst i t → ItemsSafe p.subst is → Same (called w r (clauses_of i w.clauses) i t is p o u) (called w' r' (clauses_of i w'.clauses) i t is p o u)
    predicate_same i t is p o u h g =
        subst (λ (cs : List Clause). Same (called w r (clauses_of i w.clauses) i t is p o u) (called w' r' (clauses_of i cs) i t is p o u)) (sym alike.same_clauses)
        (called_same (clauses_of i w.clauses) i t is p o u (alike.inside i h.0) (alike.pass_on i h.0) (λ e. alike.same_primitives i (arguments_of (apply p.subst t)) p.next h.0 e h.2) h.1 g)

    branched_same : (c t e : Tree) (l : ℕ) (cut : Bool) (is : List Item) (p : Place) (o : Bool) (u : Used) → At p.subst c Part → At p.subst t Part → At p.subst e Part → ItemsSafe p.subst is → Same (branched r c t e l cut is p o u) (branched r' c t e l cut is p o u)
    branched_same c t e l cut is p o u hc ht he g =
        same_after _ _ _ _ (rr _ _ true u (hc, (ht, g))) (same_condition p.level _ _ (λ v. rr _ p o v (he, g)))

    differs_same : (a b : Tree) (x : Option Bindings) (l : ℕ) (cut : Bool) (is : List Item) (p : Place) (o : Bool) (u : Used) → mgu ((a, b) ∷ []) p.subst ≡ x → ItemsSafe p.subst is → Same (differs r x l cut is p o u) (differs r' x l cut is p o u)
    differs_same a b None l cut is p o u e g = rr _ p o u (safe_true p.subst, g)
    differs_same a b (Some s) l cut is p o u e g =
        same_after _ _ _ _ (rr _ _ true u (safe_fail s, items_refined p.subst s _ (mgu_refines ((a, b) ∷ []) p.subst s e) is g))
        (same_condition p.level _ _ (λ v. rr _ p o v (safe_true p.subst, g)))

    recovered_same : (catching t ball : Tree) (x : Option Bindings) (is : List Item) (p : Place) (o : Bool) (u : Used) → mgu ((renamed p.next ball, catching) ∷ []) p.subst ≡ x → At p.subst t (Adds 0) → ItemsSafe p.subst is → Same (recovered_by r x ball t is p o u) (recovered_by r' x ball t is p o u)
    recovered_same catching t ball None is p o u e h g = same_ends _ u tt
    recovered_same catching t ball (Some s) is p o u e h g =
        let q = mgu_refines ((renamed p.next ball, catching) ∷ []) p.subst s e in
        if_ready_same (ready (apply s t)) is u _ _ (ready_safe m ks (apply s t) (at_refined p.subst s _ q t (Adds 0) h))
        (λ y k. locally_same y is _ o u k (items_refined p.subst s _ q is g))

    caught_same : (a c t : Tree) (is : List Item) (p : Place) (o : Bool) (u : Used) → Safe m ks a Part → At p.subst t (Adds 0) → ItemsSafe p.subst is → Same (caught r a c t is p o u) (caught r' a c t is p o u)
    caught_same a c t is p o u ha h g =
        same_after _ _ _ _ (rr _ _ o u (at_any p.subst a ha, g))
        (same_catch p.level _ _ (λ b v. recovered_same c t b (mgu ((renamed p.next b, c) ∷ []) p.subst) is p o v refl h g))

    replied_same : (x : Option Tree) (t : Tree) (is : List Item) (p : Place) (o : Bool) (u : Used) → ItemsSafe p.subst is →
        Same (if_replied x u (λ y. in_order r (offered (reply_offer y t p.next ∷ []) is p) o (one_reply u))) (if_replied x u (λ y. in_order r' (offered (reply_offer y t p.next ∷ []) is p) o (one_reply u)))
    replied_same None t is p o u g = same_ends Waits u tt
    replied_same (Some y) t is p o u g = in_order_same (offered (reply_offer y t p.next ∷ []) is p) o (one_reply u) (offered_safe (reply_offer y t p.next ∷ []) is p g)

    prompted_same : (q t : Tree) (is : List Item) (p : Place) (o : Bool) (u : Used) → ItemsSafe p.subst is → Same (prompted w.replies r q t is p o u) (prompted w'.replies r' q t is p o u)
    prompted_same q t is p o u g =
        subst (λ (rs : List Tree). Same (prompted w.replies r q t is p o u) (prompted rs r' q t is p o u)) (sym alike.same_replies)
        (same_marked (Asked q) u _ _ (replied_same (slice_get w.replies u.replies) t is p o u g))

    alone_same : (t : Tree) (p : Place) (u : Used) → Safe m ks t Part → Same (alone r t p u) (alone r' t p u)
    alone_same t p u h = same_after _ _ _ _ (rr _ _ false u (at_any p.subst t h, tt)) (same_cut 1)

    tried_same : (os : List Offer) (is : List Item) (p : Place) (o : Bool) → ItemsSafe p.subst is → (e : End) (v : Used) → IsInside e → Same (at_gathered r os is p o e v) (at_gathered r' os is p o e v)
    tried_same os is p o g Failed v h = in_order_same (offered os is p) o v (offered_safe os is p g)
    tried_same os is p o g (Cut l) v h = (refl, tt)
    tried_same os is p o g (Thrown b l) v h = (refl, tt)
    tried_same os is p o g Waits v h = (refl, tt)
    tried_same os is p o g Spent v h = (refl, tt)
    tried_same os is p o g (Outside i) v h = absurd h

    gathered_same : (t : Tree) (f : List Tree → List Offer) (cs : List Tree) (n : ℕ) (is : List Item) (p : Place) (o : Bool) (a a' : Ran) → ItemsSafe p.subst is → Same a a' → Same (gathered r t f cs n is p o a) (gathered r' t f cs n is p o a')
    gathered_same t f cs n is p o a a' g h =
        subst (λ (b : Ran). Same (gathered r t f cs n is p o a) (gathered r' t f cs n is p o b)) h.0
        (same_after (without_answers a) (without_answers a) _ _ (refl, h.1)
        (tried_same (f (cs ++ copies n (solutions t a.marks))) is (record p { next = after_copies n (solutions t a.marks) }) o g))

    collected_same : (a t : Tree) (f : List Tree → List Offer) (is : List Item) (p : Place) (o : Bool) (u : Used) → Safe m ks a (Adds 0) → ItemsSafe p.subst is → Same (collected r a t f is p o u) (collected r' a t f is p o u)
    collected_same a t f is p o u h g =
        if_ready_same (ready a) is u _ _ (ready_safe m ks a h) (λ y k. gathered_same t f [] p.next is p o _ _ g (alone_same y p u k))

    found_same : (fits : Bool) (t a l : Tree) (is : List Item) (p : Place) (o : Bool) (u : Used) → At p.subst a (Adds 0) → ItemsSafe p.subst is → Same (found_all r fits t a l is p o u) (found_all r' fits t a l is p o u)
    found_same true t a l is p o u h g = collected_same (apply p.subst a) t (findall_offers l) is p o u h g
    found_same false t a l is p o u h g = same_ends _ u tt

    grouped_same : (f : Tree → Tree → List Tree → List Offer) (t a x l : Tree) (is : List Item) (p : Place) (o : Bool) (u : Used) → Safe m ks a Behind → ItemsSafe p.subst is → Same (all_grouped r f t a x l is p o u) (all_grouped r' f t a x l is p o u)
    grouped_same f t a x l is p o u h g = collected_same (behind_carets a) (witnessed x t) (f x l) is p o u (carets_safe m ks a h) g

    goal_same : (x : Row) (l : ℕ) (cut : Bool) (is : List Item) (p : Place) (o : Bool) (u : Used) → RowSafe p.subst x → ItemsSafe p.subst is → Same (goal_step w r x l cut is p o u) (goal_step w' r' x l cut is p o u)
    unfolding goal_step
    goal_same Succeeds l cut is p o u h g = rr is p o u g
    goal_same Fails l cut is p o u h g = same_ends Failed u tt
    goal_same Cuts l cut is p o u h g = same_after _ _ _ _ (rr is p cut u g) (same_cut_to l)
    goal_same (Both a b) l cut is p o u h g = rr _ p o u (h.0, (h.1, g))
    goal_same (Either a b) l cut is p o u h g = in_order_same _ o u ((h.0, g), ((h.1, g), tt))
    goal_same (IfElse c t e) l cut is p o u h g = branched_same c t e l cut is p o u h.0 h.1 h.2 g
    goal_same (Test c t e) l cut is p o u h g =
        if_ready_same (ready (apply p.subst c)) is u _ _ (ready_safe m ks (apply p.subst c) h.0) (λ y k. branched_same y t e l cut is p o u (at_any p.subst y k) h.1 h.2 g)
    goal_same (Differ a b) l cut is p o u h g = differs_same a b (mgu ((a, b) ∷ []) p.subst) l cut is p o u refl g
    goal_same (Call a ts) l cut is p o u h g =
        if_ready_same (with_arguments (apply p.subst a) (map (apply p.subst) ts)) is u _ _
        (with_safe m ks (apply p.subst a) (map (apply p.subst) ts) (subst (λ (n : ℕ). At p.subst a (Adds n)) (sym (length_map (apply p.subst) ts)) h))
        (λ y k. locally_same y is p o u k g)
    goal_same (Catch a c t) l cut is p o u h g =
        if_ready_same (ready (apply p.subst a)) is u _ _ (ready_safe m ks (apply p.subst a) h.0) (λ y k. caught_same y c t is p o u k h.1 g)
    goal_same (Throw b) l cut is p o u h g = same_ends _ u tt
    goal_same (Output a) l cut is p o u h g = same_marked _ u _ _ (rr is p o u g)
    goal_same (Input q t) l cut is p o u h g = prompted_same (apply p.subst q) t is p o u g
    goal_same (FindAll t a b) l cut is p o u h g = found_same (may_be_list (apply p.subst b)) t a b is p o u h g
    goal_same (BagOf t a b) l cut is p o u h g = grouped_same bagof_offers t (apply p.subst a) (witness (apply p.subst t) (apply p.subst a)) b is p o u h g
    goal_same (SetOf t a b) l cut is p o u h g = grouped_same setof_offers t (apply p.subst a) (witness (apply p.subst t) (apply p.subst a)) b is p o u h g
    goal_same (Predicate i t) l cut is p o u h g = predicate_same i t is p o u h g

    -- a goal that talks with its client is one that the world has inside
    talk_inside : (s : Bindings) (t : Tree) → At s t Part → talks (row_of t) ≡ true → w.outside (goal_pi t) ≡ false
    unfolding row_of Safe
    talk_inside s (variable n) h e = cc
    talk_inside s (integer z) h e = cc
    talk_inside s (atom f) h e = alike.inside (pi_of f 0) h
    talk_inside s (compound f ts) h e = alike.inside (pi_of f (arity ts)) (may_call s f ts h).0

    as_row : (s : Bindings) (t : Tree) → At s t Part → row_of t ≡ settled w.outside t (row_of t)
    as_row s t h = by (talks (row_of t)) refl
      where
        by : (b : Bool) → talks (row_of t) ≡ b → row_of t ≡ settled w.outside t (row_of t)
        by true e = settled_inside w.outside t (row_of t) (row_of t) refl (talk_inside s t h e)
        by false e = settled_silent w.outside t (row_of t) (row_of t) refl e

    settled_same : (t : Tree) (l : ℕ) (cut : Bool) (is : List Item) (p : Place) (o : Bool) (u : Used) → At p.subst t Part → ItemsSafe p.subst is →
        Same (goal_step w r (settled w.outside t (row_of t)) l cut is p o u) (goal_step w' r' (settled w'.outside t (row_of t)) l cut is p o u)
    settled_same t l cut is p o u h g =
        subst (λ (f : Pi → Bool). Same (goal_step w r (settled w.outside t (row_of t)) l cut is p o u) (goal_step w' r' (settled f t (row_of t)) l cut is p o u)) (sym alike.same_outside)
        (subst (λ (x : Row). Same (goal_step w r x l cut is p o u) (goal_step w' r' x l cut is p o u)) (as_row p.subst t h) (goal_same (row_of t) l cut is p o u (row_safe p.subst t h) g))

    item_same : (i : Item) (is : List Item) (p : Place) (o : Bool) (u : Used) → ItemsSafe p.subst (i ∷ is) → Same (item_step w r i is p o u) (item_step w' r' i is p o u)
    unfolding item_step
    item_same (Goal t l cut) is p o u h = settled_same t l cut is p o u h.0 h.1
    item_same (Commit l cut) is p o u h = same_after _ _ _ _ (rr is p cut u h) (same_cut_to l)
    item_same (ExitCatch l) is p o u h = rr is p o u h

    taken_same : (i : Item) (is : List Item) (p : Place) (o : Bool) (u : Used) → ItemsSafe p.subst (i ∷ is) → Same (taken w r i is p o u) (taken w' r' i is p o u)
    unfolding taken
    taken_same i is p o u h =
        subst (λ (n : ℕ). Same (elim (nat_lt u.steps w.limit) as (λ x. Ran) [ false ↦ ends Spent u | true ↦ item_step w r i is p o (one_more u) ]) (elim (nat_lt u.steps n) as (λ x. Ran) [ false ↦ ends Spent u | true ↦ item_step w' r' i is p o (one_more u) ])) (sym alike.same_limit)
        (by (nat_lt u.steps w.limit))
      where
        by : (b : Bool) → Same (elim b as (λ x. Ran) [ false ↦ ends Spent u | true ↦ item_step w r i is p o (one_more u) ]) (elim b as (λ x. Ran) [ false ↦ ends Spent u | true ↦ item_step w' r' i is p o (one_more u) ])
        by false = same_ends Spent u tt
        by true = item_same i is p o (one_more u) h

  module _ (w w' : World) (alike : AreAlike m ks w w') where
    -- safe items run alike, and don't end outside
    pub run_same : (depth : ℕ) (is : List Item) (p : Place) (o : Bool) (u : Used) → ItemsSafe p.subst is → Same (run w depth is p o u) (run w' depth is p o u)
    unfolding run
    run_same zero [] p o u h = (refl, tt)
    run_same (suc d) [] p o u h = (refl, tt)
    run_same zero (i ∷ is) p o u h = same_ends Spent u tt
    run_same (suc d) (i ∷ is) p o u h = taken_same w w' alike (run w d) (run w' d) (run_same d) i is p o u h

    -- and so does a safe goal
    pub query_same : (g t : Tree) → Safe m ks g (Adds 0) → Same (query w g t) (query w' g t)
    unfolding query
    query_same g t h =
        subst (λ (n : ℕ). Same (elim (ready g) as (λ x. Ran) [
          | Runs a ↦ after (run w w.limit (Goal a 1 false ∷ []) (start g t) false unused) (at_cut 1)
          | Throws b ↦ ends (Thrown (numbered b) 0) unused
        ]) (elim (ready g) as (λ x. Ran) [
          | Runs a ↦ after (run w' n (Goal a 1 false ∷ []) (start g t) false unused) (at_cut 1)
          | Throws b ↦ ends (Thrown (numbered b) 0) unused
        ])) (sym alike.same_limit) (by (ready g) (ready_safe m ks g h))
      where
        by : (x : Ready) → ReadySafe m ks x → Same (elim x as (λ y. Ran) [
          | Runs a ↦ after (run w w.limit (Goal a 1 false ∷ []) (start g t) false unused) (at_cut 1)
          | Throws b ↦ ends (Thrown (numbered b) 0) unused
        ]) (elim x as (λ y. Ran) [
          | Runs a ↦ after (run w' w.limit (Goal a 1 false ∷ []) (start g t) false unused) (at_cut 1)
          | Throws b ↦ ends (Thrown (numbered b) 0) unused
        ])
        by (Runs a) k = same_after _ _ _ _ (run_same w.limit (Goal a 1 false ∷ []) (start g t) false unused (at_any [] a k, tt)) (same_cut 1)
        by (Throws b) k = same_ends _ unused tt
