-- Soundness over the table of each application, for programs that keep to the sandbox.
use Rattle.std.proofs.Common.{◌≡◌, ℕ, zero, suc, Bool, true, false, not, ◌&&◌, ◌||◌, ◌==◌, nat_lt, List, [], ◌∷◌, map, codes, IsTrue, Option, Some, None, is_none, is_some, if◌then◌else◌, refl, ap, sym, subst, ◌∙◌, ◌⊎◌, inl, inr, arith}
use Rattle.std.specs.List.{list_any, list_all}
use Rattle.std.proofs.lemmas.Bool.{and_parts, ltb-true}
use Rattle.term_core.specs.declared.app.App.{App}
use Rattle.term_core.specs.declared.app.App.TheVariants.{Sandbox, School, Numbers}
use Rattle.term_core.specs.declared.pi.Pi.{Pi}
use Rattle.term_core.specs.Tree.{Tree}
use Rattle.builtin_table.specs.declared.row.Row.{Row}
use Rattle.builtin_table.specs.declared.row.Class.{Class}
use Rattle.builtin_table.specs.declared.row.Class.TheVariants.{Control, Safe, Meta, Library, Outside as OutsideClass}
use Rattle.builtin_table.specs.Outside.{is_outside_in, is_outside, is_outside_row, outside_in}
use Rattle.builtin_table.specs.Table.{Rows, standard, rows_of_app, row_of, indicators, is_library}
use Rattle.builtin_table.specs.Taken.{may_be_taken}
use Rattle.program.specs.Bodies.{is_connective}
use Rattle.program.specs.Clauses.{Clause, same_indicator, clauses_of}
use Rattle.program.specs.Loaded.{Loaded}
use Rattle.program.specs.Source.{begins_with_dollar}
use Rattle.solve_model.specs.Run.{World, query}
use Rattle.sandbox_walk.specs.declared.found.Kind.{Kind}
use Rattle.sandbox_walk.specs.declared.found.Kind.TheVariants.{Plain, Part, Adds, Behind}
use Rattle.sandbox_walk.specs.Shown.{kinds_in, declared_kind, indicator}
use Rattle.sandbox_walk.specs.Verdict.{is_own, enters, in_predicate, Verdict, VerdictOver}
use Rattle.sandbox_walk.specs.Keeping.{helpers, known, is_known, run_kinds, runs_goals, is_library_row, is_reserved, clause_keeps, is_closed, is_there, library_rows, keeps_sandbox, ClausesKeep, KeepsSandbox}
use Rattle.sandbox_walk.specs.Passes.{Passes, opens}
use Rattle.sandbox_walk.specs.Sound.{may_be_row, DifferElsewhere, StaysInside, PassedGoalsStayInside, SafeGoalsStayInside}
use Rattle.sandbox_walk.proofs.Walking.{same}
use Rattle.sandbox_walk.proofs.Instances.{May}
use Rattle.sandbox_walk.proofs.Guarded.{KnowsRows, AllPassOn, IsInside, Same}
use Rattle.sandbox_walk.proofs.Keeping.{row_all, not_library_reserved, none_reserved, all_pass}
use Rattle.sandbox_walk.proofs.Linking.{IsAccepted, sound}
use Rattle.sandbox_walk.proofs.Passing.{verdict_passes}
use Rattle.sandbox_walk.proofs.Rounds.{is_one}

differ : true ≡ false → ⊥
differ e = cc

not_true : (b : Bool) → not b ≡ true → b ≡ false
not_true true e = cc
not_true false e = refl

or_true : (b : Bool) → (b || true) ≡ true
or_true true = refl
or_true false = refl

or_parts : (a b : Bool) → (a || b) ≡ false → (a ≡ false) × (b ≡ false)
or_parts true b h = cc
or_parts false b h = (refl, h)

-- ---- what is computed over the rows of each application

by_app : (P : App → Type 0) → P Sandbox → P School → P Numbers → (app : App) → P app
by_app P a b c Sandbox = a
by_app P a b c School = b
by_app P a b c Numbers = c

-- what holds of all of these predicates
all_of : (q : Pi → Bool) (is : List Pi) → list_all q is ≡ true → (i : Pi) → IsTrue (list_any (same_indicator i) is) → q i ≡ true
all_of q [] a i h = cc
all_of q (j ∷ is) a i h = let parts = and_parts (q j) (list_all q is) a in by (same_indicator i j) refl parts.0 h (all_of q is parts.1 i)
  where
    by : (b : Bool) → same_indicator i j ≡ b → q j ≡ true → IsTrue (b || list_any (same_indicator i) is) → (IsTrue (list_any (same_indicator i) is) → q i ≡ true) → q i ≡ true
    by true e k x go = ap q (same i j e) ∙ k
    by false e k x go = go x

-- what clauses of the library that run goals may call is inside
inside_known : (app : App) → list_all (λ j. not (is_outside_in (rows_of_app app) j)) known ≡ true
unfolding standard rows_of_app
inside_known = by_app (λ app. list_all (λ j. not (is_outside_in (rows_of_app app) j)) known ≡ true) refl refl refl

-- and is a helper, or reserved
abbrev is_quiet : Rows → Pi → Bool
is_quiet rows i = (runs_goals rows i && begins_with_dollar i.name) || is_reserved rows i

quiet_known : (app : App) → list_all (is_quiet (rows_of_app app)) known ≡ true
unfolding standard rows_of_app
quiet_known = by_app (λ app. list_all (is_quiet (rows_of_app app)) known ≡ true) refl refl refl

-- no helper is in a row of the table
free_helpers : (app : App) → list_all (λ j. is_none (row_of j (rows_of_app app))) (indicators helpers) ≡ true
unfolding standard rows_of_app
free_helpers = by_app (λ app. list_all (λ j. is_none (row_of j (rows_of_app app))) (indicators helpers) ≡ true) refl refl refl

abbrev plain : ℕ → List Kind
plain zero = []
plain (suc n) = Plain ∷ plain n

-- how the arguments of a predicate are run in an application
abbrev RunAs : List ℕ → ℕ → List Kind → App → Type 0
RunAs f n xs app = run_kinds (rows_of_app app) (indicator f n) ≡ xs

module _ (app : App) where
  abbrev rows : Rows
  rows = rows_of_app app

  calls : (k : ℕ) → nat_lt k 8 ≡ true → (more : List Kind) × (run_kinds rows (indicator (codes "call") (suc k)) ≡ Adds k ∷ more)
  unfolding run_kinds kinds_in standard rows_of_app
  calls zero e = (plain 7, by_app (RunAs (codes "call") 1 (Adds 0 ∷ plain 7)) refl refl refl app)
  calls (suc zero) e = (plain 7, by_app (RunAs (codes "call") 2 (Adds 1 ∷ plain 7)) refl refl refl app)
  calls (suc (suc zero)) e = (plain 7, by_app (RunAs (codes "call") 3 (Adds 2 ∷ plain 7)) refl refl refl app)
  calls (suc (suc (suc zero))) e = (plain 7, by_app (RunAs (codes "call") 4 (Adds 3 ∷ plain 7)) refl refl refl app)
  calls (suc (suc (suc (suc zero)))) e = (plain 7, by_app (RunAs (codes "call") 5 (Adds 4 ∷ plain 7)) refl refl refl app)
  calls (suc (suc (suc (suc (suc zero))))) e = (plain 7, by_app (RunAs (codes "call") 6 (Adds 5 ∷ plain 7)) refl refl refl app)
  calls (suc (suc (suc (suc (suc (suc zero)))))) e = (plain 7, by_app (RunAs (codes "call") 7 (Adds 6 ∷ plain 7)) refl refl refl app)
  calls (suc (suc (suc (suc (suc (suc (suc zero))))))) e = (plain 7, by_app (RunAs (codes "call") 8 (Adds 7 ∷ plain 7)) refl refl refl app)
  calls (suc (suc (suc (suc (suc (suc (suc (suc k)))))))) e = absurd (omega (arith, ltb-true (suc (suc (suc (suc (suc (suc (suc (suc k)))))))) 8 e))

  knows : (m : May) → ((i : Pi) → IsTrue (is_known i) → m i) → KnowsRows m (run_kinds rows)
  unfolding run_kinds kinds_in standard rows_of_app
  knows m may = record {
    both = by_app (RunAs (codes ",") 2 (Part ∷ Part ∷ [])) refl refl refl app;
    either = by_app (RunAs (codes ";") 2 (Part ∷ Part ∷ [])) refl refl refl app;
    branch = by_app (RunAs (codes "->") 2 (Part ∷ Part ∷ [])) refl refl refl app;
    neg = (plain 7, by_app (RunAs (codes "\\+") 1 (Adds 0 ∷ plain 7)) refl refl refl app);
    once = (plain 7, by_app (RunAs (codes "once") 1 (Adds 0 ∷ plain 7)) refl refl refl app);
    ignore = (plain 7, by_app (RunAs (codes "ignore") 1 (Adds 0 ∷ plain 7)) refl refl refl app);
    forall_of = (plain 6, by_app (RunAs (codes "forall") 2 (Adds 0 ∷ Adds 0 ∷ plain 6)) refl refl refl app);
    catch_of = (plain 5, by_app (RunAs (codes "catch") 3 (Adds 0 ∷ Plain ∷ Adds 0 ∷ plain 5)) refl refl refl app);
    findall_of = (plain 6, by_app (RunAs (codes "findall") 3 (Plain ∷ Adds 0 ∷ plain 6)) refl refl refl app);
    bagof_of = (plain 6, by_app (RunAs (codes "bagof") 3 (Plain ∷ Behind ∷ plain 6)) refl refl refl app);
    setof_of = (plain 6, by_app (RunAs (codes "setof") 3 (Plain ∷ Behind ∷ plain 6)) refl refl refl app);
    call_of = calls;
    may_true = may (indicator (codes "true") 0) refl;
    may_fail = may (indicator (codes "fail") 0) refl;
    may_both = may (indicator (codes ",") 2) refl;
    may_neg = may (indicator (codes "\\+") 1) refl;
  }

  known_inside : (i : Pi) → IsTrue (is_known i) → is_outside_in rows i ≡ false
  known_inside i h = not_true (is_outside_in rows i) (all_of (λ j. not (is_outside_in rows j)) known (inside_known app) i h)

  helper_free : (i : Pi) (r : Row) → row_of i helpers ≡ Some r → is_none (row_of i rows) ≡ true
  helper_free i r e = row_all (λ j. is_none (row_of j rows)) (λ x. true) helpers (free_helpers app) i r e refl

  -- ---- programs that keep to the sandbox

  module _ (p : List Clause) (kept : ClausesKeep app p) where
    all : list_all (clause_keeps rows) p ≡ true
    unfolding keeps_sandbox
    all = (and_parts (list_all (clause_keeps rows) p) (list_all (is_closed rows p) (indicators helpers) && list_all (is_there p) (library_rows rows)) kept).0

    closed : list_all (is_closed rows p) (indicators helpers) ≡ true
    unfolding keeps_sandbox
    closed =
        (and_parts (list_all (is_closed rows p) (indicators helpers)) (list_all (is_there p) (library_rows rows))
        (and_parts (list_all (clause_keeps rows) p) (list_all (is_closed rows p) (indicators helpers) && list_all (is_there p) (library_rows rows)) kept).1).0

    there : list_all (is_there p) (library_rows rows) ≡ true
    unfolding keeps_sandbox
    there =
        (and_parts (list_all (is_closed rows p) (indicators helpers)) (list_all (is_there p) (library_rows rows))
        (and_parts (list_all (clause_keeps rows) p) (list_all (is_closed rows p) (indicators helpers) && list_all (is_there p) (library_rows rows)) kept).1).1

    abbrev Alike : Pi → Type 0
    Alike i = (kinds_in rows i ≡ run_kinds rows i) ⊎ (IsTrue (enters rows p i) × (list_all opens (in_predicate rows p i) ≡ false))

    connective : (i : Pi) → (is_connective i.name && i.arity == 2) ≡ true → kinds_in rows i ≡ Part ∷ Part ∷ []
    unfolding kinds_in
    connective i e = rw e refl

    alike : (i : Pi) → Alike i
    unfolding run_kinds
    alike i = by (is_connective i.name && i.arity == 2) (row_of i helpers) refl refl
      where
        by : (b : Bool) (o : Option Row) → (is_connective i.name && i.arity == 2) ≡ b → row_of i helpers ≡ o →
            (kinds_in rows i ≡ (if b then Part ∷ Part ∷ [] else elim o as (λ x. List Kind) [ None ↦ kinds_in rows i | Some row ↦ map declared_kind row.metas ]))
            ⊎ (IsTrue (enters rows p i) × (list_all opens (in_predicate rows p i) ≡ false))
        by true o c e = inl (connective i c)
        by false None c e = inl refl
        by false (Some r) c e =
            inr (ap (λ (b : Bool). is_own p i || b) (helper_free i r e) ∙ or_true (is_own p i), not_true (list_all opens (in_predicate rows p i)) (row_all (is_closed rows p) (λ r. true) helpers closed i r e refl))

    module _ (m : May) (may : (i : Pi) → IsTrue (is_known i) → m i) where
      not_entered : (i : Pi) → enters rows p i ≡ false → AllPassOn m (run_kinds rows) (clauses_of i p)
      not_entered i e = by (row_of i rows) refl (or_parts (is_own p i) (is_none (row_of i rows)) e)
        where
          by : (o : Option Row) → row_of i rows ≡ o → (is_own p i ≡ false) × (is_none o ≡ false) → AllPassOn m (run_kinds rows) (clauses_of i p)
          by None a q = absurd (differ q.1)
          by (Some r) a q = class (is_library r.class) refl
            where
              class : (b : Bool) → is_library r.class ≡ b → AllPassOn m (run_kinds rows) (clauses_of i p)
              class true l =
                  all_pass rows m may i (ap (λ (o : Option Row). is_library_row o || is_some (row_of i helpers)) a ∙ ap (λ (b : Bool). b || is_some (row_of i helpers)) l) p all (inl q.0)
              class false l = subst (AllPassOn m (run_kinds rows)) (sym (none_reserved rows i (not_library_reserved rows i r a l) p all)) tt

      quiet_by : (i : Pi) (a b c : Bool) → runs_goals rows i ≡ a → begins_with_dollar i.name ≡ b → is_reserved rows i ≡ c → ((a && b) || c) ≡ true → AllPassOn m (run_kinds rows) (clauses_of i p)
      quiet_by i true true c e f g h = all_pass rows m may i e p all (inr f)
      quiet_by i a b true e f g h = subst (AllPassOn m (run_kinds rows)) (sym (none_reserved rows i g p all)) tt
      quiet_by i true false false e f g h = cc
      quiet_by i false b false e f g h = cc

      quiet : (i : Pi) → (enters rows p i ≡ false) ⊎ IsTrue (is_known i) → AllPassOn m (run_kinds rows) (clauses_of i p)
      quiet i (inl e) = not_entered i e
      quiet i (inr k) =
          quiet_by i (runs_goals rows i) (begins_with_dollar i.name) (is_reserved rows i) refl refl refl (all_of (is_quiet rows) known (quiet_known app) i k)

    accepted : IsAccepted rows p is_known (run_kinds rows)
    accepted = record {
      alike = alike;
      inside = known_inside;
      quiet = quiet;
      knows = knows;
    }

    -- a predicate that isn't outside and has no clauses isn't the library's
    may_be : (i : Pi) → is_outside_in rows i ≡ false → clauses_of i p ≡ [] → may_be_row (row_of i rows) ≡ true
    may_be i e none = by (row_of i rows) refl e
      where
        class : (r : Row) (c : Class) → r.class ≡ c → row_of i rows ≡ Some r → is_outside c ≡ false → may_be_taken c ≡ true
        class r Control k a o = refl
        class r Safe k a o = refl
        class r Meta k a o = refl
        class r OutsideClass k a o = cc
        class r Library k a o =
            absurd (differ (sym (row_all (is_there p) (λ r. is_library r.class) rows there i r a (ap is_library k)) ∙ ap (λ (cs : List Clause). elim cs as (λ x. Bool) [ [] ↦ false | c ∷ cs ↦ true ]) none))

        by : (o : Option Row) → row_of i rows ≡ o → is_outside_row o ≡ false → may_be_row o ≡ true
        by None a k = refl
        by (Some r) a k = class r r.class refl a k

    outside_row : (i : Pi) → outside_in app i ≡ is_outside_in rows i
    unfolding outside_in
    outside_row i = refl

    stays : (w w2 : World) (g t : Tree) → w.clauses ≡ p → w.outside ≡ outside_in app → Passes rows p g → DifferElsewhere app w w2 → Same (query w g t) (query w2 g t)
    stays w w2 g t e out ok d =
        sound rows p is_known (run_kinds rows) accepted g ok w w2 e d.clauses d.outside d.replies d.limit
        (λ i h. ap (λ (f : Pi → Bool). f i) out ∙ outside_row i ∙ h) (λ i ts v o none n. d.primitives i ts v (may_be i o none) n) t

pub stay_inside : PassedGoalsStayInside
stay_inside l g k ok = record {
  inside = λ w t i r e. subst IsInside e (stays l.app l.clauses k w w g t r.clauses r.outside ok (itself w)).1;
  taken = λ w w2 t r d. sym (stays l.app l.clauses k w w2 g t r.clauses r.outside ok d).0;
}
  where
    itself : (w : World) → DifferElsewhere l.app w w
    itself w = record { clauses = refl; outside = refl; replies = refl; limit = refl; primitives = λ i ts v o n. refl }

pub judged_stay_inside : (l : Loaded) (g : Tree) → VerdictOver l g None → KeepsSandbox l → StaysInside l g
judged_stay_inside l g v k = stay_inside l g k (verdict_passes (rows_of_app l.app) l.clauses g v)

pub safe_stay_inside : SafeGoalsStayInside
safe_stay_inside l g k v =
    judged_stay_inside l g (subst (Verdict (rows_of_app l.app) l.clauses g) v (is_one (rows_of_app l.app) l.clauses g).stands) k
