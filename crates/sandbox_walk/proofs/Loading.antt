-- A program keeps to the sandbox where its library and its client's clauses do.
use Rattle.std.proofs.Common.{◌≡◌, Bool, true, false, not, ◌&&◌, List, [], ◌∷◌, ◌++◌, filter, if◌then◌else◌, IsTrue, codes, Option, Some, None, refl, ap, sym, ◌∙◌}
use Rattle.std.specs.List.{list_all, flat_map}
use Rattle.std.proofs.lemmas.Bool.{and_parts}
use Rattle.term_core.specs.declared.pi.Pi.{Pi}
use Rattle.builtin_table.specs.Table.{Rows, rows_of_app, indicators}
use Rattle.program.specs.Clauses.{Clause, is_for, clauses_of}
use Rattle.program.specs.Laws.{or_else}
use Rattle.program.specs.Source.{begins_with_dollar, defines, program_of}
use Rattle.program.proofs.ProgramLemmas.{replaced}
use Rattle.program.proofs.SourceLemmas.{is_own as indicator_for}
use Rattle.sandbox_walk.specs.Shown.{indicator}
use Rattle.sandbox_walk.specs.Verdict.{in_clause}
use Rattle.sandbox_walk.specs.Passes.{opens}
use Rattle.sandbox_walk.specs.Keeping.{helpers, is_reserved, keeps_of, clause_keeps, client_keeps, is_closed, is_there, library_rows, keeps_sandbox}
use Rattle.sandbox_walk.specs.Sound.{LoadedProgramsKeepTheSandbox}
use Rattle.sandbox_walk.proofs.Keeping.{EachOf}

differ : true ≡ false → ⊥
differ e = cc

both : (a b : Bool) → a ≡ true → b ≡ true → (a && b) ≡ true
both true b e f = f
both false b e f = cc

all_joined : {A : Type 0} (q : A → Bool) (xs ys : List A) → list_all q xs ≡ true → list_all q ys ≡ true → list_all q (xs ++ ys) ≡ true
all_joined q [] ys e f = f
all_joined q (x ∷ xs) ys e f =
    let parts = and_parts (q x) (list_all q xs) e in
    both (q x) (list_all q (xs ++ ys)) parts.0 (all_joined q xs ys parts.1 f)

all_filtered : {A : Type 0} (q k : A → Bool) (xs : List A) → list_all q xs ≡ true → list_all q (filter k xs) ≡ true
all_filtered q k [] e = refl
all_filtered q k (x ∷ xs) e = let parts = and_parts (q x) (list_all q xs) e in by (k x) parts.0 (all_filtered q k xs parts.1)
  where
    by : (b : Bool) → q x ≡ true → list_all q (filter k xs) ≡ true → list_all q (if b then x ∷ filter k xs else filter k xs) ≡ true
    by true e f = both (q x) (list_all q (filter k xs)) e f
    by false e f = f

-- ---- the client's clauses

weaker : (rows : Rows) (cs : List Clause) → list_all (client_keeps rows) cs ≡ true → list_all (clause_keeps rows) cs ≡ true
weaker rows [] e = refl
weaker rows (c ∷ cs) e =
    let parts = and_parts (client_keeps rows c) (list_all (client_keeps rows) cs) e in
    both (clause_keeps rows c) (list_all (clause_keeps rows) cs) (and_parts c.own (clause_keeps rows c) parts.0).1 (weaker rows cs parts.1)

-- no client's clause is of a predicate whose name begins with `$`
no_dollar : (rows : Rows) (i : Pi) → begins_with_dollar i.name ≡ true → (cs : List Clause) → list_all (client_keeps rows) cs ≡ true → clauses_of i cs ≡ []
unfolding clauses_of
no_dollar rows i d [] e = refl
no_dollar rows i d (c ∷ cs) e = let parts = and_parts (client_keeps rows c) (list_all (client_keeps rows) cs) e in by (is_for i c.head) refl parts.0 (no_dollar rows i d cs parts.1)
  where
    impossible : (o r d : Bool) (rest : Bool) → d ≡ true → o ≡ true → (not r && (if o then not d else rest)) ≡ true → ⊥
    impossible true r true rest a b k = differ (sym (and_parts (not r) false k).1)
    impossible true r false rest a b k = cc
    impossible false r d rest a b k = cc

    by : (b : Bool) → is_for i c.head ≡ b → client_keeps rows c ≡ true → clauses_of i cs ≡ [] → (if b then c ∷ clauses_of i cs else clauses_of i cs) ≡ []
    by false k l rest = rest
    by true k l rest =
        let parts = and_parts c.own (clause_keeps rows c) l in
        let keeps : keeps_of rows c i ≡ true = ap (λ (o : Option Pi). elim o as (λ x. Bool) [ None ↦ true | Some j ↦ keeps_of rows c j ]) (sym (indicator_for c.head i k)) ∙ parts.1 in
        absurd (impossible c.own (is_reserved rows i) (begins_with_dollar i.name) _ d parts.0 keeps)

-- ---- the program

all_same : (q r : Pi → Bool) (is : List Pi) → EachOf (λ i. q i ≡ r i) is → list_all r is ≡ true → list_all q is ≡ true
all_same q r [] a e = refl
all_same q r (i ∷ is) a e =
    let parts = and_parts (r i) (list_all r is) e in
    both (q i) (list_all q is) (a.0 ∙ parts.0) (all_same q r is a.1 parts.1)

all_follow : (q r : Pi → Bool) (is : List Pi) → ((i : Pi) → r i ≡ true → q i ≡ true) → list_all r is ≡ true → list_all q is ≡ true
all_follow q r [] a e = refl
all_follow q r (i ∷ is) a e =
    let parts = and_parts (r i) (list_all r is) e in
    both (q i) (list_all q is) (a i parts.0) (all_follow q r is a parts.1)

module _ (rows : Rows) (library own : List Clause) (accepted : list_all (client_keeps rows) own ≡ true) where
  abbrev whole : List Clause
  whole = program_of library own

  all : list_all (clause_keeps rows) library ≡ true → list_all (clause_keeps rows) whole ≡ true
  unfolding program_of
  all k =
      all_joined (clause_keeps rows) (filter (λ c. not (defines own c.head)) library) own
      (all_filtered (clause_keeps rows) (λ c. not (defines own c.head)) library k) (weaker rows own accepted)

  as_library : (i : Pi) → begins_with_dollar i.name ≡ true → is_closed rows whole i ≡ is_closed rows library i
  as_library i d =
      ap (λ (cs : List Clause). not (list_all opens (flat_map (in_clause rows) cs)))
      (replaced i library own ∙ ap (λ (cs : List Clause). or_else cs (clauses_of i library)) (no_dollar rows i d own accepted))

  still_there : (i : Pi) → is_there library i ≡ true → is_there whole i ≡ true
  still_there i h =
      ap (λ (cs : List Clause). elim cs as (λ x. Bool) [ [] ↦ false | c ∷ ds ↦ true ]) (replaced i library own) ∙ by (clauses_of i own)
    where
      by : (cs : List Clause) → elim (or_else cs (clauses_of i library)) as (λ x. Bool) [ [] ↦ false | c ∷ ds ↦ true ] ≡ true
      by [] = h
      by (c ∷ cs) = refl

  keeps : IsTrue (keeps_sandbox rows library) → IsTrue (keeps_sandbox rows whole)
  unfolding keeps_sandbox
  keeps k =
      let a = and_parts (list_all (clause_keeps rows) library) (list_all (is_closed rows library) (indicators helpers) && list_all (is_there library) (library_rows rows)) k in
      let b = and_parts (list_all (is_closed rows library) (indicators helpers)) (list_all (is_there library) (library_rows rows)) a.1 in
      both (list_all (clause_keeps rows) whole) (list_all (is_closed rows whole) (indicators helpers) && list_all (is_there whole) (library_rows rows)) (all a.0)
      (both (list_all (is_closed rows whole) (indicators helpers)) (list_all (is_there whole) (library_rows rows))
      (all_same (is_closed rows whole) (is_closed rows library) (indicators helpers) (as_library (indicator (codes "$maplist") 2) refl, (as_library (indicator (codes "$maplist") 3) refl, (as_library (indicator (codes "$maplist") 4) refl, (as_library (indicator (codes "$maplist") 5) refl, (as_library (indicator (codes "$foldl") 4) refl, (as_library (indicator (codes "$include") 3) refl, (as_library (indicator (codes "$exclude") 3) refl, tt))))))) b.0)
      (all_follow (is_there whole) (is_there library) (library_rows rows) still_there b.1))

pub loaded_keep : LoadedProgramsKeepTheSandbox
loaded_keep app library own k f = keeps (rows_of_app app) library own f k
