-- The tables that the code holds are those of the definition.
use Rattle.std.proofs.Common.{codes, ◌≡◌, Bool, true, false, ◌&&◌, ◌||◌, ◌==◌, cond, List, [], ◌∷◌, ◌++◌, map, ℤ, IsTrue, Option, Some, None, is_some, refl, ap, sym, subst, ◌∙◌}
use Rattle.std.specs.List.{list_any}
use Rattle.std.specs.Option.{option_map}
use Rattle.std.proofs.lemmas.List.Folds.{list_any-append}
use Rattle.term_core.specs.declared.pi.Pi.{Pi}
use Rattle.builtin_table.specs.declared.row.Row.{Row}
use Rattle.builtin_table.specs.Table.{Rows, row_of, indicators}
use Rattle.program.specs.Bodies.{is_connective}
use Rattle.program.specs.Clauses.{same_indicator}
use Rattle.sandbox_walk.specs.Shown.{declared_kind, kinds_in, indicator}
use Rattle.sandbox_walk.specs.Keeping.{helpers, run_kinds, is_known, is_library_row, runs_goals}
use Rattle.sandbox_walk.proofs.Walking.{same, itself}
use Rattle.library_check.proofs.Lists.{differ}

one_way : (i j : Pi) → IsTrue (same_indicator i j) → IsTrue (same_indicator j i)
one_way i j h = subst (λ (x : Pi). IsTrue (same_indicator x i)) (same i j h) (itself i)

same_back : (i j : Pi) → same_indicator i j ≡ same_indicator j i
same_back i j = by (same_indicator i j) (same_indicator j i) refl refl
  where
    by : (a b : Bool) → same_indicator i j ≡ a → same_indicator j i ≡ b → same_indicator i j ≡ same_indicator j i
    by true true e g = e ∙ sym g
    by false false e g = e ∙ sym g
    by true false e g = absurd (differ (sym (one_way i j e) ∙ g))
    by false true e g = absurd (differ (sym (one_way j i g) ∙ e))

-- a predicate has a row where it is among the indicators
row_among : (i : Pi) (rs : Rows) → is_some (row_of i rs) ≡ list_any (same_indicator i) (indicators rs)
row_among i [] = refl
row_among i (r ∷ rs) = by (same_indicator r.0 i) (row_among i rs) ∙ ap (λ (b : Bool). b || list_any (same_indicator i) (indicators rs)) (same_back r.0 i)
  where
    by : (b : Bool) → is_some (row_of i rs) ≡ list_any (same_indicator i) (indicators rs) → is_some (cond b (Some r.1) (row_of i rs)) ≡ (b || list_any (same_indicator i) (indicators rs))
    by true e = refl
    by false e = e

some_mapped : {A B : Type 0} (f : A → B) (o : Option A) → is_some (option_map f o) ≡ is_some o
some_mapped f None = refl
some_mapped f (Some x) = refl

abbrev metas_of : Option Row → Option (List ℤ)
metas_of o = option_map (λ (r : Row). r.metas) o

is_helper : (i : Pi) (o : Option (List ℤ)) → o ≡ metas_of (row_of i helpers) → is_some o ≡ is_some (row_of i helpers)
is_helper i o e = ap is_some e ∙ some_mapped (λ (r : Row). r.metas) (row_of i helpers)

among_both : (i : Pi) (rs : Rows) (is : List Pi) → (is_some (row_of i rs) || list_any (same_indicator i) is) ≡ list_any (same_indicator i) (indicators rs ++ is)
among_both i rs is =
    ap (λ (b : Bool). b || list_any (same_indicator i) is) (row_among i rs) ∙ sym (list_any-append (same_indicator i) (indicators rs) is)

-- what clauses that run goals may call beside the helpers
abbrev called : List Pi
called =
    indicator (codes "true") 0 ∷ indicator (codes "fail") 0 ∷ indicator (codes ",") 2 ∷ indicator (codes ";") 2 ∷ indicator (codes "->") 2
    ∷ indicator (codes "\\+") 1 ∷ indicator (codes "=") 2 ∷ indicator (codes "call") 2 ∷ indicator (codes "call") 3 ∷ indicator (codes "call") 4 ∷ indicator (codes "call") 5 ∷ []

first_true : (a b c : Bool) → a ≡ true → c ≡ a → c ≡ (a || b)
first_true true b c e f = f
first_true false b c e f = cc

second : (a b : Bool) → a ≡ false → b ≡ (a || b)
second true b e = cc
second false b e = refl

module _ (i : Pi) (o : Option (List ℤ)) (of_helper : o ≡ metas_of (row_of i helpers)) where
  pub known_helper : (b : Bool) → b ≡ is_some o → b ≡ true → b ≡ is_known i
  known_helper b e f =
      let h : b ≡ is_some (row_of i helpers) = e ∙ is_helper i o of_helper in
      first_true (is_some (row_of i helpers)) (list_any (same_indicator i) called) b (sym h ∙ f) h ∙ among_both i helpers called

  pub known_called : (a b : Bool) → a ≡ is_some o → a ≡ false → b ≡ list_any (same_indicator i) called → b ≡ is_known i
  known_called a b e f k =
      k ∙ second (is_some (row_of i helpers)) (list_any (same_indicator i) called) (sym (e ∙ is_helper i o of_helper) ∙ f) ∙ among_both i helpers called

  pub helper_runs : (rows : Rows) (a b : Bool) → a ≡ is_library_row (row_of i rows) → a ≡ false → b ≡ is_some o → b ≡ runs_goals rows i
  helper_runs rows a b e f h =
      h ∙ is_helper i o of_helper
      ∙ second (is_library_row (row_of i rows)) (is_some (row_of i helpers)) (sym e ∙ f)

-- ---- goal positions

module _ (rows : Rows) (i : Pi) (vs : List ℤ) (no_parts : (is_connective i.name && i.arity == 2) ≡ false) where
  pub run_helper : (ms : List ℤ) → metas_of (row_of i helpers) ≡ Some ms → vs ≡ ms → map declared_kind vs ≡ run_kinds rows i
  unfolding run_kinds
  run_helper ms h v = by (row_of i helpers) refl h
    where
      by : (o : Option Row) → row_of i helpers ≡ o → metas_of o ≡ Some ms → map declared_kind vs ≡ run_kinds rows i
      by None e g = cc
      by (Some r) e g = let x : vs ≡ r.metas = cc in rw (no_parts, e) (ap (map declared_kind) x)

  none_from : (o : Option Row) → metas_of o ≡ None → o ≡ None
  none_from None e = refl
  none_from (Some r) e = cc

  as_table : metas_of (row_of i helpers) ≡ None → kinds_in rows i ≡ run_kinds rows i
  unfolding run_kinds
  as_table h = rw (no_parts, none_from (row_of i helpers) h) refl

  in_row : (r : Row) → row_of i rows ≡ Some r → vs ≡ r.metas → map declared_kind vs ≡ kinds_in rows i
  unfolding kinds_in
  in_row r e v = rw (no_parts, e) (ap (map declared_kind) v)

  in_no_row : row_of i rows ≡ None → vs ≡ [] → map declared_kind vs ≡ kinds_in rows i
  unfolding kinds_in
  in_no_row e v = rw (no_parts, e) (ap (map declared_kind) v)

  pub run_row : (r : Row) → metas_of (row_of i helpers) ≡ None → row_of i rows ≡ Some r → vs ≡ r.metas → map declared_kind vs ≡ run_kinds rows i
  run_row r h e v = in_row r e v ∙ as_table h

  pub run_none : metas_of (row_of i helpers) ≡ None → row_of i rows ≡ None → vs ≡ [] → map declared_kind vs ≡ run_kinds rows i
  run_none h e v = in_no_row e v ∙ as_table h
