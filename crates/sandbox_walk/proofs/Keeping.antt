-- What the clauses of a program that keeps to the sandbox are.
use Rattle.std.proofs.Common.{◌≡◌, Bool, true, false, not, ◌||◌, cond, List, [], ◌∷◌, filter, if◌then◌else◌, IsTrue, Option, Some, None, refl, ap, sym, subst, ◌∙◌, ◌⊎◌, inl, inr}
use Rattle.std.specs.List.{list_any, list_all}
use Rattle.std.proofs.lemmas.Bool.{and_parts}
use Rattle.term_core.specs.declared.pi.Pi.{Pi}
use Rattle.term_core.specs.Parts.{arguments_of}
use Rattle.builtin_table.specs.declared.row.Row.{Row}
use Rattle.builtin_table.specs.Table.{Rows, row_of, indicators, is_library}
use Rattle.program.specs.Clauses.{Clause, is_for, same_indicator, clauses_of}
use Rattle.program.specs.Source.{begins_with_dollar}
use Rattle.program.proofs.SourceLemmas.{is_own as indicator_for}
use Rattle.sandbox_walk.specs.Keeping.{is_known, run_kinds, has_goal, hands_on, runs_goals, is_reserved, keeps_of, clause_keeps}
use Rattle.sandbox_walk.proofs.Walking.{same}
use Rattle.sandbox_walk.proofs.Instances.{May}
use Rattle.sandbox_walk.proofs.Guarded.{PassesOn, AllPassOn}
use Rattle.sandbox_walk.proofs.Handing.{hands}

differ : true ≡ false → ⊥
differ e = cc

-- ---- tests of lists

-- a property of each of these predicates
abbrev pub EachOf : (Pi → Type 0) → List Pi → Type 0
EachOf P [] = Unit {0}
EachOf P (j ∷ is) = P j × EachOf P is

pub each_of : (P : Pi → Type 0) (is : List Pi) → EachOf P is → (i : Pi) → IsTrue (list_any (same_indicator i) is) → P i
each_of P [] a i h = cc
each_of P (j ∷ is) a i h = by (same_indicator i j) refl h (each_of P is a.1 i)
  where
    by : (b : Bool) → same_indicator i j ≡ b → IsTrue (b || list_any (same_indicator i) is) → (IsTrue (list_any (same_indicator i) is) → P i) → P i
    by true e k go = subst P (sym (same i j e)) a.0
    by false e k go = go k

-- ---- rows

-- the row of a predicate is one of the table, of those that pass a test
row_among : (test : Row → Bool) (rs : Rows) (i : Pi) (r : Row) → row_of i rs ≡ Some r → test r ≡ true → IsTrue (list_any (λ j. same_indicator j i) (indicators (filter (λ x. test x.1) rs)))
row_among test [] i r e k = cc
row_among test (x ∷ rs) i r e k = by (same_indicator x.0 i) (test x.1) refl refl e (row_among test rs i r)
  where
    by : (b c : Bool) → same_indicator x.0 i ≡ b → test x.1 ≡ c → cond b (Some x.1) (row_of i rs) ≡ Some r → (row_of i rs ≡ Some r → test r ≡ true → IsTrue (list_any (λ j. same_indicator j i) (indicators (filter (λ y. test y.1) rs)))) →
        IsTrue (list_any (λ j. same_indicator j i) (indicators (if c then x ∷ filter (λ y. test y.1) rs else filter (λ y. test y.1) rs)))
    by true true s t h go = ap (λ (b : Bool). b || list_any (λ j. same_indicator j i) (indicators (filter (λ y. test y.1) rs))) s
    by true false s t h go = let is : x.1 ≡ r = cc in absurd (differ (sym k ∙ ap test (sym is) ∙ t))
    by false true s t h go = subst (λ (b : Bool). IsTrue (b || list_any (λ j. same_indicator j i) (indicators (filter (λ y. test y.1) rs)))) (sym s) (go h k)
    by false false s t h go = go h k

-- a row of the table that isn't the library's is reserved
pub not_library_reserved : (rows : Rows) (i : Pi) (r : Row) → row_of i rows ≡ Some r → is_library r.class ≡ false → IsTrue (is_reserved rows i)
not_library_reserved rows i r e k = row_among (λ x. not (is_library x.class)) rows i r e (ap not k)

-- a property of each predicate that has a row
pub row_each : (P : Pi → Type 0) (rs : Rows) → EachOf P (indicators rs) → (i : Pi) (r : Row) → row_of i rs ≡ Some r → P i
row_each P [] a i r e = cc
row_each P (x ∷ rs) a i r e = by (same_indicator x.0 i) refl e (row_each P rs a.1 i r)
  where
    by : (b : Bool) → same_indicator x.0 i ≡ b → cond b (Some x.1) (row_of i rs) ≡ Some r → (row_of i rs ≡ Some r → P i) → P i
    by true s h go = subst P (same x.0 i s) a.0
    by false s h go = go h

-- what holds of all predicates whose rows pass a test
pub row_all : (q : Pi → Bool) (test : Row → Bool) (rs : Rows) → list_all q (indicators (filter (λ x. test x.1) rs)) ≡ true → (i : Pi) (r : Row) → row_of i rs ≡ Some r → test r ≡ true → q i ≡ true
row_all q test [] a i r e k = cc
row_all q test (x ∷ rs) a i r e k = by (same_indicator x.0 i) (test x.1) refl refl a e (λ b h. row_all q test rs b i r h k)
  where
    by : (b c : Bool) → same_indicator x.0 i ≡ b → test x.1 ≡ c → list_all q (indicators (if c then x ∷ filter (λ y. test y.1) rs else filter (λ y. test y.1) rs)) ≡ true → cond b (Some x.1) (row_of i rs) ≡ Some r →
        (list_all q (indicators (filter (λ y. test y.1) rs)) ≡ true → row_of i rs ≡ Some r → q i ≡ true) → q i ≡ true
    by true true s t l h go = ap q (sym (same x.0 i s)) ∙ (and_parts (q x.0) (list_all q (indicators (filter (λ y. test y.1) rs))) l).0
    by true false s t l h go = let is : x.1 ≡ r = cc in absurd (differ (sym k ∙ ap test (sym is) ∙ t))
    by false true s t l h go = go (and_parts (q x.0) (list_all q (indicators (filter (λ y. test y.1) rs))) l).1 h
    by false false s t l h go = go l h

-- ---- clauses

keeps_at : (rows : Rows) (c : Clause) (i : Pi) → is_for i c.head ≡ true → clause_keeps rows c ≡ true → keeps_of rows c i ≡ true
keeps_at rows c i e k = ap (λ (o : Option Pi). elim o as (λ x. Bool) [ None ↦ true | Some j ↦ keeps_of rows c j ]) (sym (indicator_for c.head i e)) ∙ k

not_both : (b : Bool) → b ≡ true → not b ≡ true → ⊥
not_both true e k = cc
not_both false e k = cc

-- no clause is of a reserved predicate
pub none_reserved : (rows : Rows) (i : Pi) → IsTrue (is_reserved rows i) → (cs : List Clause) → list_all (clause_keeps rows) cs ≡ true → clauses_of i cs ≡ []
unfolding clauses_of
none_reserved rows i r [] k = refl
none_reserved rows i r (c ∷ cs) k =
    let q = and_parts (clause_keeps rows c) (list_all (clause_keeps rows) cs) k in
    by (is_for i c.head) refl q.0 (none_reserved rows i r cs q.1)
  where
    by : (b : Bool) → is_for i c.head ≡ b → clause_keeps rows c ≡ true → clauses_of i cs ≡ [] → (if b then c ∷ clauses_of i cs else clauses_of i cs) ≡ []
    by true e h rest = absurd (not_both (is_reserved rows i) r (and_parts (not (is_reserved rows i)) (if c.own then not (begins_with_dollar i.name) else if runs_goals rows i then hands_on rows (has_goal (arguments_of c.head) (run_kinds rows i)) c.body else true) (keeps_at rows c i e h)).0)
    by false e h rest = rest

module _ (rows : Rows) (m : May) (may : (i : Pi) → IsTrue (is_known i) → m i) (i : Pi) (runs : runs_goals rows i ≡ true) where
  pass_one : (c : Clause) → is_for i c.head ≡ true → clause_keeps rows c ≡ true → (c.own ≡ true → begins_with_dollar i.name ≡ true) → PassesOn m (run_kinds rows) c
  pass_one c e k lib =
      let q = and_parts (not (is_reserved rows i)) (if c.own then not (begins_with_dollar i.name) else if runs_goals rows i then hands_on rows (has_goal (arguments_of c.head) (run_kinds rows i)) c.body else true) (keeps_at rows c i e k) in
      by c.own (runs_goals rows i) refl runs q.1
    where
      by : (o r : Bool) → c.own ≡ o → r ≡ true → (if o then not (begins_with_dollar i.name) else if r then hands_on rows (has_goal (arguments_of c.head) (run_kinds rows i)) c.body else true) ≡ true → PassesOn m (run_kinds rows) c
      by true r a b h = absurd (not_both (begins_with_dollar i.name) (lib a) h)
      by false true a b h = hands rows m may c i (indicator_for c.head i e) h
      by false false a b h = cc

  -- the clauses of a library's predicate that runs goals pass on what they are given
  pub all_pass : (cs : List Clause) → list_all (clause_keeps rows) cs ≡ true → (list_any (λ c. c.own) (clauses_of i cs) ≡ false) ⊎ (begins_with_dollar i.name ≡ true) → AllPassOn m (run_kinds rows) (clauses_of i cs)
  unfolding clauses_of
  all_pass [] k o = tt
  all_pass (c ∷ cs) k o =
      let q = and_parts (clause_keeps rows c) (list_all (clause_keeps rows) cs) k in
      by (is_for i c.head) refl o (all_pass cs q.1) q.0
    where
      by : (b : Bool) → is_for i c.head ≡ b → (list_any (λ x. x.own) (if b then c ∷ clauses_of i cs else clauses_of i cs) ≡ false) ⊎ (begins_with_dollar i.name ≡ true) →
          ((list_any (λ x. x.own) (clauses_of i cs) ≡ false) ⊎ (begins_with_dollar i.name ≡ true) → AllPassOn m (run_kinds rows) (clauses_of i cs)) → clause_keeps rows c ≡ true →
          AllPassOn m (run_kinds rows) (if b then c ∷ clauses_of i cs else clauses_of i cs)
      by true e (inr d) go h = (pass_one c e h (λ a. d), go (inr d))
      by true e (inl n) go h = whose c.own refl n
        where
          whose : (w : Bool) → c.own ≡ w → (w || list_any (λ x. x.own) (clauses_of i cs)) ≡ false → AllPassOn m (run_kinds rows) (c ∷ clauses_of i cs)
          whose true a f = absurd (differ f)
          whose false a f = (pass_one c e h (λ b. absurd (differ (sym b ∙ a))), go (inl f))
      by false e x go h = go x
