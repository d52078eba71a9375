-- If two runners are related, so are the steps over them. One induction over the table of steps serves every law about runs.
use Rattle.std.proofs.Common.{◌≡◌, ℕ, suc, Bool, true, false, ◌||◌, ◌==◌, List, [], ◌∷◌, map, if◌then◌else◌, Option, Some, None, slice_get, refl, subst, sym, ◌++◌}
use Rattle.term_core.specs.declared.pi.Pi.{Pi}
use Rattle.term_core.specs.Tree.{Tree}
use Rattle.term_core.specs.Parts.{arguments_of}
use Rattle.term_core.specs.Substitution.{apply}
use Rattle.term_core.specs.Unifier.{mgu}
use Rattle.program.specs.Clauses.{Clause, clauses_of}
use Rattle.solve_model.specs.Goals.{Row, Succeeds, Fails, Cuts, Both, Either, IfElse, Test, Differ, Call, Catch, Throw, Output, Input, Predicate, row_of, settled, Ready, Runs, Throws, ready, with_arguments, FindAll, BagOf, SetOf}
use Rattle.builtin_table.specs.Primitives.{Outcome, Offers, Ball, Unknown, Offer}
use Rattle.solve_model.specs.Run.{World, Bindings, Item, Goal, Commit, ExitCatch, End, Failed, Cut, Thrown, Waits, Spent, Outside, Place, Used, Ran, Runner, Branch, ends, after, at_failed, at_cut, at_condition, at_catch, cut_to, in_order, if_ready, Told, Asked, marked, one_reply, if_replied, offered, reply_offer, undefined, performed, called, locally, branched, differs, recovered_by, caught, goal_step, item_step, some_left, Mark, without_answers, at_gathered, solutions, gathered, collected, found_all, all_grouped}
use Rattle.builtin_table.specs.Solutions.{copies, after_copies, may_be_list, findall_offers, bagof_offers, setof_offers, behind_carets, witness, witnessed}

-- what is done at an end passes on a run that stopped for want of steps or of a reply
pub record PassesStops (k : End → Used → Ran) : Type 0 where
  pub waits : (u : Used) → k Waits u ≡ ends Waits u
  pub spent : (u : Used) → k Spent u ≡ ends Spent u

-- an end other than waiting for a reply, which comes only after a prompt
abbrev pub NotWaits : End → Type 0
NotWaits Waits = ⊥
NotWaits Failed = Unit {0}
NotWaits (Cut l) = Unit {0}
NotWaits (Thrown b l) = Unit {0}
NotWaits Spent = Unit {0}
NotWaits (Outside i) = Unit {0}

-- A relation of runs that begin at what was used so far, which the ways to build runs keep.
pub record IsKept (R : Used → Ran → Ran → Type 0) (w w' : World) : Type 0 where
  pub at_end : (e : End) → NotWaits e → (u : Used) → R u (ends e u) (ends e u)
  pub at_after : (u : Used) (a a' : Ran) (k k' : End → Used → Ran) → R u a a' → PassesStops k → PassesStops k' → ((e : End) → NotWaits e → (v : Used) → R v (k e v) (k' e v)) → R u (after a k) (after a' k')
  pub at_told : (t : Tree) (u : Used) (a a' : Ran) → R u a a' → R u (marked (Told t) u a) (marked (Told t) u a')
  -- a prompt, and what is done with a reply
  pub at_asked : (q : Tree) (u : Used) (go go' : Tree → Ran) → ((t : Tree) → R (one_reply u) (go t) (go' t)) → R u (marked (Asked q) u (if_replied (slice_get w.replies u.replies) u go)) (marked (Asked q) u (if_replied (slice_get w'.replies u.replies) u go'))
  pub at_answers : (u : Used) (a a' : Ran) (k k' : List (ℕ × Mark) → End → Used → Ran) → R u a a' → ((ms : List (ℕ × Mark)) → PassesStops (k ms)) → ((ms : List (ℕ × Mark)) → PassesStops (k' ms)) → ((ms : List (ℕ × Mark)) (e : End) → NotWaits e → (v : Used) → R v (k ms e v) (k' ms e v)) → R u (after (without_answers a) (k a.marks)) (after (without_answers a') (k' a'.marks))
  pub same_clauses : w'.clauses ≡ w.clauses
  pub same_primitive : w'.primitive ≡ w.primitive
  pub same_outside : w'.outside ≡ w.outside

failed_passes : (f : Used → Ran) → PassesStops (at_failed f)
failed_passes f = record { waits = λ u. refl; spent = λ u. refl }

pub cut_passes : (d : ℕ) → PassesStops (at_cut d)
cut_passes d = record { waits = λ u. refl; spent = λ u. refl }

cut_to_passes : (d : ℕ) → PassesStops (cut_to d)
cut_to_passes d = record { waits = λ u. refl; spent = λ u. refl }

condition_passes : (d : ℕ) (f : Used → Ran) → PassesStops (at_condition d f)
condition_passes d f = record { waits = λ u. refl; spent = λ u. refl }

catch_passes : (d : ℕ) (f : Tree → Used → Ran) → PassesStops (at_catch d f)
catch_passes d f = record { waits = λ u. refl; spent = λ u. refl }

gathered_passes : (r : Runner) (os : List Offer) (is : List Item) (p : Place) (o : Bool) → PassesStops (at_gathered r os is p o)
gathered_passes r os is p o = record { waits = λ u. refl; spent = λ u. refl }

module _ (R : Used → Ran → Ran → Type 0) (w w' : World) (kept : IsKept R w w') where
  failed_kept : (f f' : Used → Ran) → ((v : Used) → R v (f v) (f' v)) → (e : End) → NotWaits e → (v : Used) → R v (at_failed f e v) (at_failed f' e v)
  failed_kept f f' h Failed x v = h v
  failed_kept f f' h (Cut l) x v = kept.at_end (Cut l) tt v
  failed_kept f f' h (Thrown b l) x v = kept.at_end (Thrown b l) tt v
  failed_kept f f' h Waits x v = absurd x
  failed_kept f f' h Spent x v = kept.at_end Spent tt v
  failed_kept f f' h (Outside i) x v = kept.at_end (Outside i) tt v

  pub cut_kept : (d : ℕ) (e : End) → NotWaits e → (v : Used) → R v (at_cut d e v) (at_cut d e v)
  cut_kept d Failed x v = kept.at_end Failed tt v
  cut_kept d (Cut l) x v = at (l == d)
    where
      at : (b : Bool) → R v (ends (if b then Failed else Cut l) v) (ends (if b then Failed else Cut l) v)
      at true = kept.at_end Failed tt v
      at false = kept.at_end (Cut l) tt v
  cut_kept d (Thrown b l) x v = kept.at_end (Thrown b l) tt v
  cut_kept d Waits x v = absurd x
  cut_kept d Spent x v = kept.at_end Spent tt v
  cut_kept d (Outside i) x v = kept.at_end (Outside i) tt v

  cut_to_kept : (d : ℕ) (e : End) → NotWaits e → (v : Used) → R v (cut_to d e v) (cut_to d e v)
  cut_to_kept d Failed x v = kept.at_end (Cut d) tt v
  cut_to_kept d (Cut l) x v = kept.at_end _ tt v
  cut_to_kept d (Thrown b l) x v = kept.at_end (Thrown b l) tt v
  cut_to_kept d Waits x v = absurd x
  cut_to_kept d Spent x v = kept.at_end Spent tt v
  cut_to_kept d (Outside i) x v = kept.at_end (Outside i) tt v

  condition_kept : (d : ℕ) (f f' : Used → Ran) → ((v : Used) → R v (f v) (f' v)) → (e : End) → NotWaits e → (v : Used) → R v (at_condition d f e v) (at_condition d f' e v)
  condition_kept d f f' h Failed x v = h v
  condition_kept d f f' h (Cut l) x v = at (l == suc d)
    where
      at : (b : Bool) → R v (elim b [ true ↦ f v | false ↦ ends (if l == d then Failed else Cut l) v ]) (elim b [ true ↦ f' v | false ↦ ends (if l == d then Failed else Cut l) v ])
      at true = h v
      at false = cut_kept d (Cut l) tt v
  condition_kept d f f' h (Thrown b l) x v = kept.at_end (Thrown b l) tt v
  condition_kept d f f' h Waits x v = absurd x
  condition_kept d f f' h Spent x v = kept.at_end Spent tt v
  condition_kept d f f' h (Outside i) x v = kept.at_end (Outside i) tt v

  catch_kept : (d : ℕ) (f f' : Tree → Used → Ran) → ((b : Tree) (v : Used) → R v (f b v) (f' b v)) → (e : End) → NotWaits e → (v : Used) → R v (at_catch d f e v) (at_catch d f' e v)
  catch_kept d f f' h Failed x v = kept.at_end Failed tt v
  catch_kept d f f' h (Cut l) x v = cut_kept d (Cut l) tt v
  catch_kept d f f' h (Thrown b l) x v = at (l == d)
    where
      at : (c : Bool) → R v (elim c [ true ↦ f b v | false ↦ ends (Thrown b l) v ]) (elim c [ true ↦ f' b v | false ↦ ends (Thrown b l) v ])
      at true = h b v
      at false = kept.at_end (Thrown b l) tt v
  catch_kept d f f' h Waits x v = absurd x
  catch_kept d f f' h Spent x v = kept.at_end Spent tt v
  catch_kept d f f' h (Outside i) x v = kept.at_end (Outside i) tt v

  if_ready_kept : (s : Ready) (is : List Item) (u : Used) (f f' : Tree → Ran) → ((t : Tree) → R u (f t) (f' t)) → R u (if_ready s is u f) (if_ready s is u f')
  if_ready_kept (Runs t) is u f f' h = h t
  if_ready_kept (Throws b) is u f f' h = kept.at_end _ tt u

  module _ (r r' : Runner) (related : (is : List Item) (p : Place) (o : Bool) (u : Used) → R u (r is p o u) (r' is p o u)) where
    in_order_kept : (bs : List Branch) (o : Bool) (u : Used) → R u (in_order r bs o u) (in_order r' bs o u)
    unfolding in_order
    in_order_kept [] o u = kept.at_end Failed tt u
    in_order_kept (b ∷ bs) o u =
        kept.at_after u _ _ _ _ (related b.items b.place (o || some_left bs) u) (failed_passes _) (failed_passes _) (failed_kept _ _ (λ v. in_order_kept bs o v))

    locally_kept : (t : Tree) (is : List Item) (p : Place) (o : Bool) (u : Used) → R u (locally r t is p o u) (locally r' t is p o u)
    locally_kept t is p o u =
        kept.at_after u _ _ _ _ (related _ _ o u) (cut_passes p.level) (cut_passes p.level) (cut_kept p.level)

    undefined_kept : (out : Bool) (i : Pi) (is : List Item) (u : Used) → R u (undefined out i is u) (undefined out i is u)
    undefined_kept true i is u = kept.at_end (Outside i) tt u
    undefined_kept false i is u = kept.at_end _ tt u

    performed_kept : (q : Outcome) (out : Bool) (i : Pi) (is : List Item) (p : Place) (o : Bool) (u : Used) → R u (performed r q out i is p o u) (performed r' q out i is p o u)
    performed_kept (Offers rs) out i is p o u = in_order_kept _ o u
    performed_kept (Ball b) out i is p o u = kept.at_end _ tt u
    performed_kept Unknown out i is p o u = undefined_kept out i is u

    called_kept : (cs : List Clause) (i : Pi) (t : Tree) (is : List Item) (p : Place) (o : Bool) (u : Used) → R u (called w r cs i t is p o u) (called w' r' cs i t is p o u)
    called_kept [] i t is p o u =
        let q : Outcome = w.primitive i (arguments_of (apply p.subst t)) p.next in
        subst (λ (f : Pi → List Tree → ℕ → Outcome). R u (performed r q (w.outside i) i is p o u) (performed r' (f i (arguments_of (apply p.subst t)) p.next) (w'.outside i) i is p o u)) (sym kept.same_primitive)
        (subst (λ (f : Pi → Bool). R u (performed r q (w.outside i) i is p o u) (performed r' q (f i) i is p o u)) (sym kept.same_outside) (performed_kept q (w.outside i) i is p o u))
    called_kept (c ∷ cs) i t is p o u =
        kept.at_after u _ _ _ _ (in_order_kept _ o u) (cut_passes p.level) (cut_passes p.level) (cut_kept p.level)

    branched_kept : (c t e : Tree) (l : ℕ) (cut : Bool) (is : List Item) (p : Place) (o : Bool) (u : Used) → R u (branched r c t e l cut is p o u) (branched r' c t e l cut is p o u)
    branched_kept c t e l cut is p o u =
        kept.at_after u _ _ _ _ (related _ _ true u) (condition_passes _ _) (condition_passes _ _) (condition_kept _ _ _ (λ v. related _ p o v))

    differs_kept : (s : Option Bindings) (l : ℕ) (cut : Bool) (is : List Item) (p : Place) (o : Bool) (u : Used) → R u (differs r s l cut is p o u) (differs r' s l cut is p o u)
    differs_kept None l cut is p o u = related _ p o u
    differs_kept (Some s) l cut is p o u =
        kept.at_after u _ _ _ _ (related _ _ true u) (condition_passes _ _) (condition_passes _ _) (condition_kept _ _ _ (λ v. related _ p o v))

    recovered_kept : (s : Option Bindings) (ball t : Tree) (is : List Item) (p : Place) (o : Bool) (u : Used) → R u (recovered_by r s ball t is p o u) (recovered_by r' s ball t is p o u)
    recovered_kept None ball t is p o u = kept.at_end _ tt u
    recovered_kept (Some s) ball t is p o u = if_ready_kept (ready (apply s t)) is u _ _ (λ h. locally_kept h is _ o u)

    caught_kept : (g c t : Tree) (is : List Item) (p : Place) (o : Bool) (u : Used) → R u (caught r g c t is p o u) (caught r' g c t is p o u)
    caught_kept g c t is p o u =
        kept.at_after u _ _ _ _ (related _ _ o u) (catch_passes _ _) (catch_passes _ _) (catch_kept _ _ _ (λ b v. recovered_kept _ b t is p o v))

    at_gathered_kept : (os : List Offer) (is : List Item) (p : Place) (o : Bool) (e : End) → NotWaits e → (v : Used) → R v (at_gathered r os is p o e v) (at_gathered r' os is p o e v)
    at_gathered_kept os is p o Failed x v = in_order_kept _ o v
    at_gathered_kept os is p o (Cut l) x v = kept.at_end (Cut l) tt v
    at_gathered_kept os is p o (Thrown b l) x v = kept.at_end _ tt v
    at_gathered_kept os is p o Waits x v = absurd x
    at_gathered_kept os is p o Spent x v = kept.at_end Spent tt v
    at_gathered_kept os is p o (Outside i) x v = kept.at_end (Outside i) tt v

    gathered_kept : (t : Tree) (f : List Tree → List Offer) (cs : List Tree) (n : ℕ) (is : List Item) (p : Place) (o : Bool) (u : Used) (a a' : Ran) → R u a a' → R u (gathered r t f cs n is p o a) (gathered r' t f cs n is p o a')
    gathered_kept t f cs n is p o u a a' h =
        let os : List (ℕ × Mark) → List Offer = λ ms. f (cs ++ copies n (solutions t ms)) in
        let q : List (ℕ × Mark) → Place = λ ms. record p { next = after_copies n (solutions t ms) } in
        kept.at_answers u a a' (λ ms. at_gathered r (os ms) is (q ms) o) (λ ms. at_gathered r' (os ms) is (q ms) o) h
        (λ ms. gathered_passes r (os ms) is (q ms) o) (λ ms. gathered_passes r' (os ms) is (q ms) o) (λ ms. at_gathered_kept (os ms) is (q ms) o)

    collected_kept : (g t : Tree) (f : List Tree → List Offer) (is : List Item) (p : Place) (o : Bool) (u : Used) → R u (collected r g t f is p o u) (collected r' g t f is p o u)
    collected_kept g t f is p o u =
        if_ready_kept (ready g) is u _ _ (λ h. gathered_kept t f [] p.next is p o u _ _ (kept.at_after u _ _ _ _ (related (Goal h 1 false ∷ []) (record p { level = 2 }) false u) (cut_passes 1) (cut_passes 1) (cut_kept 1)))

    found_all_kept : (b : Bool) (t g l : Tree) (is : List Item) (p : Place) (o : Bool) (u : Used) → R u (found_all r b t g l is p o u) (found_all r' b t g l is p o u)
    found_all_kept true t g l is p o u = collected_kept (apply p.subst g) t (findall_offers l) is p o u
    found_all_kept false t g l is p o u = kept.at_end _ tt u

    all_grouped_kept : (f : Tree → Tree → List Tree → List Offer) (t g x l : Tree) (is : List Item) (p : Place) (o : Bool) (u : Used) → R u (all_grouped r f t g x l is p o u) (all_grouped r' f t g x l is p o u)
    all_grouped_kept f t g x l is p o u = collected_kept (behind_carets g) (witnessed x t) (f x l) is p o u

    goal_kept : (x : Row) (l : ℕ) (cut : Bool) (is : List Item) (p : Place) (o : Bool) (u : Used) → R u (goal_step w r x l cut is p o u) (goal_step w' r' x l cut is p o u)
    unfolding goal_step
    goal_kept Succeeds l cut is p o u = related is p o u
    goal_kept Fails l cut is p o u = kept.at_end Failed tt u
    goal_kept Cuts l cut is p o u =
        kept.at_after u _ _ _ _ (related is p cut u) (cut_to_passes l) (cut_to_passes l) (cut_to_kept l)
    goal_kept (Both a b) l cut is p o u = related _ p o u
    goal_kept (Either a b) l cut is p o u = in_order_kept _ o u
    goal_kept (IfElse c t e) l cut is p o u = branched_kept c t e l cut is p o u
    goal_kept (Test c t e) l cut is p o u =
        if_ready_kept (ready (apply p.subst c)) is u _ _ (λ h. branched_kept h t e l cut is p o u)
    goal_kept (Differ a b) l cut is p o u = differs_kept (mgu ((a, b) ∷ []) p.subst) l cut is p o u
    goal_kept (Call g ts) l cut is p o u =
        if_ready_kept (with_arguments (apply p.subst g) (map (apply p.subst) ts)) is u _ _ (λ h. locally_kept h is p o u)
    goal_kept (Catch g c t) l cut is p o u =
        if_ready_kept (ready (apply p.subst g)) is u _ _ (λ h. caught_kept h c t is p o u)
    goal_kept (Throw b) l cut is p o u = kept.at_end _ tt u
    goal_kept (Output t) l cut is p o u = kept.at_told (apply p.subst t) u _ _ (related is p o u)
    goal_kept (Input q t) l cut is p o u =
        kept.at_asked (apply p.subst q) u _ _ (λ b. in_order_kept (offered (reply_offer b t p.next ∷ []) is p) o (one_reply u))
    goal_kept (FindAll t g m) l cut is p o u = found_all_kept (may_be_list (apply p.subst m)) t g m is p o u
    goal_kept (BagOf t g m) l cut is p o u =
        all_grouped_kept bagof_offers t (apply p.subst g) (witness (apply p.subst t) (apply p.subst g)) m is p o u
    goal_kept (SetOf t g m) l cut is p o u =
        all_grouped_kept setof_offers t (apply p.subst g) (witness (apply p.subst t) (apply p.subst g)) m is p o u
    goal_kept (Predicate i t) l cut is p o u =
        subst (λ (cs : List Clause). R u (called w r (clauses_of i w.clauses) i t is p o u) (called w' r' (clauses_of i cs) i t is p o u)) (sym kept.same_clauses) (called_kept (clauses_of i w.clauses) i t is p o u)

    pub item_kept : (i : Item) (is : List Item) (p : Place) (o : Bool) (u : Used) → R u (item_step w r i is p o u) (item_step w' r' i is p o u)
    unfolding item_step
    item_kept (Goal t l cut) is p o u =
        subst (λ (f : Pi → Bool). R u (goal_step w r (settled w.outside t (row_of t)) l cut is p o u) (goal_step w' r' (settled f t (row_of t)) l cut is p o u)) (sym kept.same_outside) (goal_kept (settled w.outside t (row_of t)) l cut is p o u)
    item_kept (Commit l cut) is p o u =
        kept.at_after u _ _ _ _ (related is p cut u) (cut_to_passes l) (cut_to_passes l) (cut_to_kept l)
    item_kept (ExitCatch l) is p o u = related is p o u
