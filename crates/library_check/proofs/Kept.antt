-- What a clause and a program have to keep, one part after another.
use Rattle.std.proofs.Common.{◌≡◌, Bool, true, false, not, ◌&&◌, ◌||◌, ◌==◌, List, [], ◌∷◌, map, ℤ, if◌then◌else◌, IsTrue, codes, bytes_eq, Option, Some, None, refl, ap, sym, subst, ◌∙◌, ◌⊎◌, inl, inr}
use Rattle.std.specs.List.{list_all}
use Rattle.std.proofs.lemmas.Bool.{and_parts}
use Rattle.term_core.specs.declared.app.App.{App}
use Rattle.term_core.specs.declared.app.App.TheVariants.{Sandbox, School, Numbers}
use Rattle.term_core.specs.declared.pi.Pi.{Pi}
use Rattle.term_core.specs.Tree.{Tree}
use Rattle.term_core.specs.Parts.{arguments_of}
use Rattle.builtin_table.specs.Table.{Rows, standard, rows_of_app, indicators}
use Rattle.program.specs.Bodies.{is_connective}
use Rattle.program.specs.Clauses.{Clause, indicator_of}
use Rattle.sandbox_walk.specs.Shown.{declared_kind, indicator}
use Rattle.sandbox_walk.specs.Keeping.{helpers, has_goal, hands_on, run_kinds, runs_goals, is_reserved, keeps_of, clause_keeps, is_closed, is_there, library_rows, keeps_sandbox}
use Rattle.sandbox_walk.proofs.Walking.{same, or_either}
use Rattle.library_check.specs.Tables.{AreOfApp}
use Rattle.library_check.proofs.Lists.{differ, both, none_of}

-- ---- a predicate with parts is reserved

named : (i j : Pi) → bytes_eq i.name j.name ≡ true → (i.arity == j.arity) ≡ true → i ≡ j
named i j e f = same i j (both (bytes_eq i.name j.name) (i.arity == j.arity) e f)

abbrev Taken : Rows → Type 0
Taken rows = (is_reserved rows (indicator (codes ",") 2) ≡ true) × ((is_reserved rows (indicator (codes ";") 2) ≡ true) × (is_reserved rows (indicator (codes "->") 2) ≡ true))

taken_by : (app : App) → Taken (rows_of_app app)
unfolding standard rows_of_app
taken_by Sandbox = (refl, (refl, refl))
taken_by School = (refl, (refl, refl))
taken_by Numbers = (refl, (refl, refl))

taken : (rows : Rows) → AreOfApp rows → Taken rows
taken rows a = subst Taken (sym a.1) (taken_by a.0)

parts_reserved : (rows : Rows) → AreOfApp rows → (i : Pi) → (is_connective i.name && i.arity == 2) ≡ true → is_reserved rows i ≡ true
parts_reserved rows t i e = let q = and_parts (is_connective i.name) (i.arity == 2) e in by q.1 (or_either (bytes_eq i.name (codes ",") || bytes_eq i.name (codes ";")) (bytes_eq i.name (codes "->")) q.0)
  where
    two : (i.arity == 2) ≡ true → IsTrue (bytes_eq i.name (codes ",")) ⊎ IsTrue (bytes_eq i.name (codes ";")) → is_reserved rows i ≡ true
    two n (inl a) = ap (is_reserved rows) (named i (indicator (codes ",") 2) a n) ∙ (taken rows t).0
    two n (inr a) = ap (is_reserved rows) (named i (indicator (codes ";") 2) a n) ∙ (taken rows t).1.0

    by : (i.arity == 2) ≡ true → IsTrue (bytes_eq i.name (codes ",") || bytes_eq i.name (codes ";")) ⊎ IsTrue (bytes_eq i.name (codes "->")) → is_reserved rows i ≡ true
    by n (inl a) = two n (or_either (bytes_eq i.name (codes ",")) (bytes_eq i.name (codes ";")) a)
    by n (inr a) = ap (is_reserved rows) (named i (indicator (codes "->") 2) a n) ∙ (taken rows t).1.1

no_parts : (rows : Rows) → AreOfApp rows → (i : Pi) → is_reserved rows i ≡ false → (is_connective i.name && i.arity == 2) ≡ false
no_parts rows t i r = by (is_connective i.name && i.arity == 2) refl
  where
    by : (b : Bool) → (is_connective i.name && i.arity == 2) ≡ b → (is_connective i.name && i.arity == 2) ≡ false
    by true e = absurd (differ (sym (parts_reserved rows t i e) ∙ r))
    by false e = e

-- ---- a clause of a predicate that runs goals

chosen : (r o g d x : Bool) → r ≡ false → o ≡ false → g ≡ true → x ≡ (not r && (if o then d else if g then x else true))
chosen false false true d x a b e = refl
chosen true o g d x a b e = cc
chosen false true g d x a b e = cc
chosen false false false d x a b e = cc

pub hands_keeps : (rows : Rows) → AreOfApp rows → (c : Clause) (i : Pi) (args : List Tree) (ms : List ℤ) (b : Bool) → indicator_of c.head ≡ Some i → is_reserved rows i ≡ false → c.own ≡ false → runs_goals rows i ≡ true → args ≡ arguments_of c.head →
    ((is_connective i.name && i.arity == 2) ≡ false → map declared_kind ms ≡ run_kinds rows i) → b ≡ hands_on rows (λ n k. has_goal args (map declared_kind ms) n k) c.body → b ≡ clause_keeps rows c
hands_keeps rows t c i args ms b e r o g a m h =
    h ∙ ap (λ (ts : List Tree). hands_on rows (λ n k. has_goal ts (map declared_kind ms) n k) c.body) a ∙ ap (λ xs. hands_on rows (λ n k. has_goal (arguments_of c.head) xs n k) c.body) (m (no_parts rows t i r))
    ∙ chosen (is_reserved rows i) c.own (runs_goals rows i) _ (hands_on rows (has_goal (arguments_of c.head) (run_kinds rows i)) c.body) r o g
    ∙ sym (ap (λ (x : Option Pi). elim x as (λ y. Bool) [ None ↦ true | Some j ↦ keeps_of rows c j ]) e)

-- ---- a program

module _ (app : App) (p cs : List Clause) (k : Bool) (are : cs ≡ p) (keep : k ≡ list_all (clause_keeps (rows_of_app app)) cs) where
  abbrev rows : Rows
  rows = rows_of_app app

  clauses : (b : Bool) → k ≡ b → list_all (clause_keeps rows) p ≡ b
  clauses b e = ap (list_all (clause_keeps rows)) (sym are) ∙ sym keep ∙ e

  pub refused_clause : k ≡ false → false ≡ keeps_sandbox rows p
  unfolding keeps_sandbox
  refused_clause e = none_of (list_all (clause_keeps rows) p) (list_all (is_closed rows p) (indicators helpers) && list_all (is_there p) (library_rows rows)) (clauses false e)

  module _ (kept : k ≡ true) (d : Bool) (closed : d ≡ list_all (is_closed rows p) (indicators helpers)) where
    pub refused_open : d ≡ false → false ≡ keeps_sandbox rows p
    unfolding keeps_sandbox
    refused_open e =
        none_of (list_all (is_closed rows p) (indicators helpers)) (list_all (is_there p) (library_rows rows)) (sym closed ∙ e)
        ∙ ap (λ (b : Bool). b && (list_all (is_closed rows p) (indicators helpers) && list_all (is_there p) (library_rows rows))) (sym (clauses true kept))

    rows_are : (x : App) → library_rows (rows_of_app x)
        ≡ (indicator (codes "maplist") 2 ∷ indicator (codes "maplist") 3 ∷ indicator (codes "maplist") 4 ∷ indicator (codes "maplist") 5 ∷ indicator (codes "foldl") 4
        ∷ indicator (codes "include") 3 ∷ indicator (codes "exclude") 3 ∷ [])
    unfolding standard rows_of_app
    rows_are Sandbox = refl
    rows_are School = refl
    rows_are Numbers = refl

    pub there_keeps : d ≡ true → (b : Bool) →
        b ≡ list_all (is_there p)
        (indicator (codes "maplist") 2 ∷ indicator (codes "maplist") 3 ∷ indicator (codes "maplist") 4 ∷ indicator (codes "maplist") 5 ∷ indicator (codes "foldl") 4
        ∷ indicator (codes "include") 3 ∷ indicator (codes "exclude") 3 ∷ []) → b ≡ keeps_sandbox rows p
    unfolding keeps_sandbox
    there_keeps e b h =
        h ∙ ap (list_all (is_there p)) (sym (rows_are app))
        ∙ ap (λ (x : Bool). x && list_all (is_there p) (library_rows rows)) (sym e ∙ closed)
        ∙ ap (λ (x : Bool). x && (list_all (is_closed rows p) (indicators helpers) && list_all (is_there p) (library_rows rows))) (sym (clauses true kept))
