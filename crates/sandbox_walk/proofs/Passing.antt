-- The verdict that a goal may be asked says that it passes.
use Rattle.std.proofs.Common.{◌≡◌, Bool, true, false, ◌&&◌, ◌||◌, List, [], ◌∷◌, ◌++◌, filter, if◌then◌else◌, IsTrue, Option, Some, None, refl, ap, sym, subst, ◌∙◌}
use Rattle.std.specs.List.{list_any, list_all, flat_map}
use Rattle.std.specs.Option.{option_map}
use Rattle.std.proofs.lemmas.Bool.{and_parts}
use denote.Bor.{Bor}
use Rattle.term_core.specs.declared.pi.Pi.{Pi}
use Rattle.term_core.specs.Tree.{Tree}
use Rattle.builtin_table.specs.Outside.{is_outside_in}
use Rattle.builtin_table.specs.Table.{Rows}
use Rattle.program.specs.Clauses.{Clause, is_for, same_indicator, clauses_of}
use Rattle.program.proofs.SourceLemmas.{is_own}
use Rattle.sandbox_walk.specs.declared.found.Stands.TheVariants.{Opens, Unbound, Shut}
use Rattle.sandbox_walk.specs.declared.found.Found.{Found}
use Rattle.sandbox_walk.specs.declared.found.Found.TheVariants.{Literal, Place}
use Rattle.sandbox_walk.specs.declared.unsafe_goal.Unsafe.{Unsafe}
use Rattle.sandbox_walk.specs.declared.unsafe_goal.Unsafe.TheVariants.{Sandboxed, Uninstantiated, NotCallable}
use Rattle.sandbox_walk.specs.Verdict.{Reach, by_goal, by_clause, TellsReach, enters, in_goal, in_clause, is_literal, has_literal, reads, all_shown, least_outside, lesser, is_unbound, Closed, first_closed, refusal, Verdict}
use Rattle.sandbox_walk.specs.Passes.{opens, Passes}
use Rattle.sandbox_walk.proofs.Walking.{same}
use Rattle.sandbox_walk.proofs.Joining.{all_parts, any_left, any_right}

differ : true ≡ false → ⊥
differ e = cc

-- no refusal fits
record NoRefusal (rows : Rows) (fs : List Found) : Type 0 where
  pub outside : least_outside rows fs ≡ None
  pub unbound : list_any is_unbound fs ≡ false
  pub closed : first_closed fs ≡ None

no_refusal : (rows : Rows) (fs : List Found) → None ≡ refusal rows fs → NoRefusal rows fs
no_refusal rows fs h = by (least_outside rows fs) (list_any is_unbound fs) (first_closed fs) refl refl refl h
  where
    by : (o : Option Pi) (u : Bool) (c : Option Closed) → least_outside rows fs ≡ o → list_any is_unbound fs ≡ u → first_closed fs ≡ c →
        None ≡ elim o as (λ x. Option Unsafe) [ Some i ↦ Some (Sandboxed i) | None ↦ if u then Some Uninstantiated else option_map (λ d. NotCallable d.1) c ] → NoRefusal rows fs
    by (Some i) u c e f g k = cc
    by None true c e f g k = cc
    by None false (Some d) e f g k = cc
    by None false None e f g k = record { outside = e; unbound = f; closed = g }

none_outside : (rows : Rows) (fs : List Found) → least_outside rows fs ≡ None → (i : Pi) → IsTrue (has_literal i fs) → is_outside_in rows i ≡ false
none_outside rows [] e i h = absurd (differ (sym h))
none_outside rows (Place p x ∷ fs) e i h = none_outside rows fs e i h
none_outside rows (Literal j ∷ fs) e i h = by (is_outside_in rows j) refl e (λ k. none_outside rows fs k i)
  where
    by : (b : Bool) → is_outside_in rows j ≡ b → (if b then Some (lesser j (least_outside rows fs)) else least_outside rows fs) ≡ None → (least_outside rows fs ≡ None → IsTrue (has_literal i fs) → is_outside_in rows i ≡ false) → is_outside_in rows i ≡ false
    by true q k go = cc
    by false q k go = which (same_indicator i j) refl h
      where
        which : (c : Bool) → same_indicator i j ≡ c → IsTrue (c || has_literal i fs) → is_outside_in rows i ≡ false
        which true s l = ap (is_outside_in rows) (same i j s) ∙ q
        which false s l = go k l

all_open : (fs : List Found) → list_any is_unbound fs ≡ false → first_closed fs ≡ None → list_all opens fs ≡ true
all_open [] u c = refl
all_open (Literal i ∷ fs) u c = all_open fs u c
all_open (Place h Opens ∷ fs) u c = all_open fs u c
all_open (Place h Unbound ∷ fs) u c = cc
all_open (Place h (Shut t) ∷ fs) u c = cc

all_joined : (a b : List Found) → list_all opens a ≡ true → list_all opens b ≡ true → list_all opens (a ++ b) ≡ true
all_joined [] b x y = y
all_joined (z ∷ a) b x y =
    let q = and_parts (opens z) (list_all opens a) x in
    ap (λ (v : Bool). v && list_all opens (a ++ b)) q.0 ∙ all_joined a b q.1 y

-- a literal of a joined list, where those of the second part are in another
literal_after : (j : Pi) (xs ys zs : List Found) → IsTrue (has_literal j (xs ++ ys)) → (IsTrue (has_literal j ys) → IsTrue (has_literal j zs)) → IsTrue (has_literal j (xs ++ zs))
literal_after j [] ys zs h go = go h
literal_after j (x ∷ xs) ys zs h go = by (is_literal j x) h (λ k. literal_after j xs ys zs k go)
  where
    by : (b : Bool) → IsTrue (b || has_literal j (xs ++ ys)) → (IsTrue (has_literal j (xs ++ ys)) → IsTrue (has_literal j (xs ++ zs))) → IsTrue (b || has_literal j (xs ++ zs))
    by true k rest = refl
    by false k rest = rest k

module _ (rows : Rows) (p : List Clause) (g : Tree) (reached : Pi → Bool) (tells : TellsReach rows p g reached) where
  abbrev read : List Clause → List Found
  read cs = flat_map (in_clause rows) (filter (reads rows p reached) cs)

  -- the clauses of a reached predicate whose clauses are read are read
  module _ (i : Pi) (r : Reach rows p g i) (e : IsTrue (enters rows p i)) where
    is_read : (c : Clause) → is_for i c.head ≡ true → reads rows p reached c ≡ true
    is_read c h =
        ap (λ (x : Option Pi). elim x as (λ y. Bool) [ None ↦ false | Some j ↦ reached j && enters rows p j ]) (is_own c.head i h)
        ∙ ap (λ (b : Bool). b && enters rows p i) ((tells i).1 r) ∙ e

    keeps_open : (cs : List Clause) → list_all opens (read cs) ≡ true → list_all opens (flat_map (in_clause rows) (clauses_of i cs)) ≡ true
    unfolding clauses_of
    keeps_open [] h = refl
    keeps_open (c ∷ cs) h = by (is_for i c.head) (reads rows p reached c) refl refl h (keeps_open cs)
      where
        by : (f k : Bool) → is_for i c.head ≡ f → reads rows p reached c ≡ k → list_all opens (flat_map (in_clause rows) (if k then c ∷ filter (reads rows p reached) cs else filter (reads rows p reached) cs)) ≡ true →
            (list_all opens (read cs) ≡ true → list_all opens (flat_map (in_clause rows) (clauses_of i cs)) ≡ true) →
            list_all opens (flat_map (in_clause rows) (if f then c ∷ clauses_of i cs else clauses_of i cs)) ≡ true
        by true true a b x go = let q = all_parts opens (in_clause rows c) (read cs) x in all_joined (in_clause rows c) (flat_map (in_clause rows) (clauses_of i cs)) q.0 (go q.1)
        by true false a b x go = absurd (differ (sym (is_read c a) ∙ b))
        by false true a b x go = go (all_parts opens (in_clause rows c) (read cs) x).1
        by false false a b x go = go x

    keeps_literal : (j : Pi) (cs : List Clause) → IsTrue (has_literal j (flat_map (in_clause rows) (clauses_of i cs))) → IsTrue (has_literal j (read cs))
    unfolding clauses_of
    keeps_literal j [] h = h
    keeps_literal j (c ∷ cs) h = by (is_for i c.head) (reads rows p reached c) refl refl h (keeps_literal j cs)
      where
        by : (f k : Bool) → is_for i c.head ≡ f → reads rows p reached c ≡ k → IsTrue (has_literal j (flat_map (in_clause rows) (if f then c ∷ clauses_of i cs else clauses_of i cs))) →
            (IsTrue (has_literal j (flat_map (in_clause rows) (clauses_of i cs))) → IsTrue (has_literal j (read cs))) →
            IsTrue (has_literal j (flat_map (in_clause rows) (if k then c ∷ filter (reads rows p reached) cs else filter (reads rows p reached) cs)))
        by true true a b x go = literal_after j (in_clause rows c) (flat_map (in_clause rows) (clauses_of i cs)) (read cs) x go
        by true false a b x go = absurd (differ (sym (is_read c a) ∙ b))
        by false true a b x go = any_right (is_literal j) (in_clause rows c) (read cs) (go x)
        by false false a b x go = go x

  -- a reached predicate's literal is read
  literal_read : (i : Pi) → Reach rows p g i → IsTrue (has_literal i (all_shown rows p g reached))
  literal_read i (by_goal j l) = any_left (is_literal j) (in_goal rows g) (read p) l
  literal_read i (by_clause h j r e l) = any_right (is_literal j) (in_goal rows g) (read p) (keeps_literal h r e j p l)

  pub passes : None ≡ refusal rows (all_shown rows p g reached) → Passes rows p g
  passes v =
      let n = no_refusal rows (all_shown rows p g reached) v in
      let o = all_parts opens (in_goal rows g) (read p) (all_open (all_shown rows p g reached) n.unbound n.closed) in
      record {
        inside = λ i r. none_outside rows (all_shown rows p g reached) n.outside i (literal_read i r);
        goal = o.0;
        clauses = λ i r e. keeps_open i r e p o.1;
      }

-- a goal that may be asked passes
pub verdict_passes : (rows : Rows) (p : List Clause) (g : Tree) → Verdict rows p g None → Passes rows p g
verdict_passes rows p g v = passes rows p g v.0 v.1 v.2

-- ---- the refusals

abbrev refused_by : Option Pi → Bool → Option Closed → Option Unsafe
refused_by o u c =
    elim o as (λ x. Option Unsafe) [ Some i ↦ Some (Sandboxed i) | None ↦ if u then Some Uninstantiated else option_map (λ d. NotCallable d.1) c ]

module _ (rows : Rows) (p : List Clause) (g : Tree) (reached : Pi → Bool) (tells : TellsReach rows p g reached) (fs : List Found) (all : fs ≡ all_shown rows p g reached) where
  judged : (v : Option Unsafe) → v ≡ refusal rows fs → Verdict rows p g v
  judged v e = (reached, tells, e ∙ ap (refusal rows) all)

  pub tells_outside : (i : Pi) → least_outside rows fs ≡ Some i → Verdict rows p g (Some (Sandboxed i))
  tells_outside i e = judged (Some (Sandboxed i)) (ap (λ (o : Option Pi). refused_by o (list_any is_unbound fs) (first_closed fs)) (sym e))

  pub tells_unbound : least_outside rows fs ≡ None → list_any is_unbound fs ≡ true → Verdict rows p g (Some Uninstantiated)
  tells_unbound e u =
      judged (Some Uninstantiated)
      (ap (λ (b : Bool). refused_by None b (first_closed fs)) (sym u) ∙ ap (λ (o : Option Pi). refused_by o (list_any is_unbound fs) (first_closed fs)) (sym e))

  -- what is left where nothing is outside or unbound
  left : least_outside rows fs ≡ None → list_any is_unbound fs ≡ false → option_map (λ d. NotCallable d.1) (first_closed fs) ≡ refusal rows fs
  left e u =
      ap (λ (b : Bool). refused_by None b (first_closed fs)) (sym u) ∙ ap (λ (o : Option Pi). refused_by o (list_any is_unbound fs) (first_closed fs)) (sym e)

  pub tells_closed : (t : Tree) → least_outside rows fs ≡ None → list_any is_unbound fs ≡ false → Some t ≡ option_map (λ d. d.1) (first_closed fs) → Verdict rows p g (Some (NotCallable t))
  tells_closed t e u c = judged (Some (NotCallable t)) (by (first_closed fs) c ∙ left e u)
    where
      by : (o : Option Closed) → Some t ≡ option_map (λ d. d.1) o → Some (NotCallable t) ≡ option_map (λ d. NotCallable d.1) o
      by None k = cc
      by (Some d) k = let same_term : t ≡ d.1 = cc in ap (λ (x : Tree). Some (NotCallable x)) same_term

  pub tells_none : least_outside rows fs ≡ None → list_any is_unbound fs ≡ false → None ≡ option_map (λ d. d.1) (first_closed fs) → Verdict rows p g None
  tells_none e u c = judged None (by (first_closed fs) c ∙ left e u)
    where
      by : (o : Option Closed) → None ≡ option_map (λ d. d.1) o → None ≡ option_map (λ d. NotCallable d.1) o
      by None k = refl
      by (Some d) k = cc

-- ---- what the code is told, of the standard table and the program itself

pub moved_reach : (rows rows2 : Rows) (p q : List Clause) (g : Tree) (reached : Pi → Bool) → rows ≡ rows2 → p ≡ q → TellsReach rows p g reached → TellsReach rows2 q g reached
moved_reach rows rows2 p q g reached e h t =
    subst (λ (r : Rows). TellsReach r q g reached) e (subst (λ (cs : List Clause). TellsReach rows cs g reached) h t)

pub moved_shown : (rows rows2 : Rows) (p q : List Clause) (g : Tree) (reached : Pi → Bool) (fs : List Found) → rows ≡ rows2 → p ≡ q → fs ≡ all_shown rows p g reached → fs ≡ all_shown rows2 q g reached
moved_shown rows rows2 p q g reached fs e h t =
    t ∙ ap (λ (cs : List Clause). all_shown rows cs g reached) h ∙ ap (λ (r : Rows). all_shown r q g reached) e

pub least_is : (rows rows2 : Rows) (fs ds : List Found) (o x : Option (Bor Pi)) (v : Option Pi) → rows ≡ rows2 → ds ≡ fs → option_map (λ pi. pi.now) o ≡ least_outside rows ds → o ≡ x → option_map (λ pi. pi.now) x ≡ v → least_outside rows2 fs ≡ v
least_is rows rows2 fs ds o x v e d h i k =
    ap (λ (r : Rows). least_outside r fs) (sym e) ∙ ap (least_outside rows) (sym d) ∙ sym h ∙ ap (λ (y : Option (Bor Pi)). option_map (λ pi. pi.now) y) i ∙ k

pub closed_is : (fs ds : List Found) (o x : Option (Bor Tree)) (v : Option Tree) → ds ≡ fs → option_map (λ t. t.now) o ≡ option_map (λ d. d.1) (first_closed ds) → o ≡ x → option_map (λ t. t.now) x ≡ v → v ≡ option_map (λ d. d.1) (first_closed fs)
closed_is fs ds o x v d h i k =
    sym k ∙ ap (λ (y : Option (Bor Tree)). option_map (λ t. t.now) y) (sym i) ∙ h ∙ ap (λ (xs : List Found). option_map (λ d. d.1) (first_closed xs)) d
