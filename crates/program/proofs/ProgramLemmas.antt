-- The clauses of a predicate in a program.
use Rattle.std.proofs.Common.{◌≡◌, ℕ, zero, suc, ◌+◌, ◌<◌, Bool, true, false, not, ◌||◌, ◌==◌, List, [], ◌∷◌, ◌++◌, length, take, drop, get_or, map, filter, if◌then◌else◌, Option, Some, None, refl, ap, sym, subst, ◌∙◌, append-nil, arith}
use Rattle.std.specs.List.{list_any, flat_map}
use Rattle.std.proofs.lemmas.Bool.{eqb-true}
use Rattle.std.proofs.lemmas.Grind.{flat_map-append}
use Rattle.std.proofs.lemmas.List.{take_more, map-append}
use Rattle.std.proofs.lemmas.List.Elements.{filter-append}
use Rattle.term_core.specs.declared.pi.Pi.{Pi}
use denote.Bor.{Bor}
use Rattle.program.specs.declared.clause.Clause as kept
use Rattle.program.specs.Kept.{clause_of}
use Rattle.program.specs.declared.clause_map.Place.{Place}
use Rattle.program.specs.ByPredicate.{ByArity, found, at_place, in_order, IsHeld, IsByPredicate}
use Rattle.program.specs.Clauses.{Clause, indicator_of, is_for, clauses_of}
use Rattle.program.specs.Source.{defines, program_of}
use Rattle.program.specs.Laws.{or_else, ClientReplacesLibrary}
use Rattle.program.proofs.Keeping.{clauses_of-append}
use Rattle.program.proofs.SourceLemmas.{is_own}

abbrev some_of : List Clause → Bool
some_of [] = false
some_of (c ∷ cs) = true

-- a predicate is defined where it has clauses
any_of : (pi : Pi) (cs : List Clause) → list_any (λ c. is_for pi c.head) cs ≡ some_of (clauses_of pi cs)
unfolding clauses_of
any_of pi [] = refl
any_of pi (c ∷ cs) = by (is_for pi c.head) (any_of pi cs)
  where
    by : (b : Bool) → list_any (λ d. is_for pi d.head) cs ≡ some_of (clauses_of pi cs) → (b || list_any (λ d. is_for pi d.head) cs) ≡ some_of (if b then c ∷ clauses_of pi cs else clauses_of pi cs)
    by true e = refl
    by false e = e

-- what is left of the library for a predicate
module _ (pi : Pi) (own : List Clause) (defined : Bool) (has : some_of (clauses_of pi own) ≡ defined) where
  abbrev rest : List Clause → List Clause
  rest library = filter (λ c. not (defines own c.head)) library

  abbrev left : List Clause → List Clause
  left library = if defined then [] else clauses_of pi library

  defines_of : (c : Clause) → is_for pi c.head ≡ true → defines own c.head ≡ defined
  defines_of c of = rw (defines, is_own c.head pi of) (any_of pi own ∙ has)

  -- a clause of another predicate makes no difference
  other_left : (c : Clause) (cs : List Clause) → is_for pi c.head ≡ false → clauses_of pi (rest (c ∷ cs)) ≡ clauses_of pi (rest cs)
  unfolding clauses_of
  other_left c cs e = by (defines own c.head)
    where
      by : (d : Bool) → clauses_of pi (if not d then c ∷ rest cs else rest cs) ≡ clauses_of pi (rest cs)
      by true = refl
      by false = rw e refl

  same_left : (c : Clause) (cs : List Clause) → is_for pi c.head ≡ true → clauses_of pi (rest cs) ≡ left cs → clauses_of pi (rest (c ∷ cs)) ≡ left (c ∷ cs)
  unfolding clauses_of
  same_left c cs e h = rw (defines_of c e, e) (by defined h)
    where
      by : (d : Bool) → clauses_of pi (rest cs) ≡ (if d then [] else clauses_of pi cs) → clauses_of pi (if not d then c ∷ rest cs else rest cs) ≡ (if d then [] else c ∷ clauses_of pi cs)
      by true g = g
      by false g = rw e (ap (λ (ds : List Clause). c ∷ ds) g)

  left_of : (library : List Clause) → clauses_of pi (rest library) ≡ left library
  unfolding clauses_of
  left_of [] = by defined
    where
      by : (d : Bool) → clauses_of pi [] ≡ (if d then [] else clauses_of pi [])
      by true = refl
      by false = refl
  left_of (c ∷ cs) = by (is_for pi c.head) refl (left_of cs)
    where
      by : (b : Bool) → is_for pi c.head ≡ b → clauses_of pi (rest cs) ≡ left cs → clauses_of pi (rest (c ∷ cs)) ≡ left (c ∷ cs)
      by true e h = same_left c cs e h
      by false e h = other_left c cs e ∙ h ∙ rw e refl

pub replaced : ClientReplacesLibrary
unfolding program_of
replaced i library own = by (clauses_of i own) refl
  where
    by : (cs : List Clause) → clauses_of i own ≡ cs → clauses_of i (program_of library own) ≡ or_else cs (clauses_of i library)
    by [] e =
        clauses_of-append i (rest i own false (ap some_of e) library) own
        ∙ rw (e, left_of i own false (ap some_of e) library) (append-nil (clauses_of i library))
    by (c ∷ cs) e =
        clauses_of-append i (rest i own true (ap some_of e) library) own
        ∙ rw (e, left_of i own true (ap some_of e) library) refl

-- where the client has none
pub library_answers : (i : Pi) (library own : List Clause) (mine theirs : List kept.Clause) → map clause_of mine ≡ clauses_of i own → (length mine == 0) ≡ true → map clause_of theirs ≡ clauses_of i library → map clause_of theirs ≡ clauses_of i (program_of library own)
library_answers i library own [] theirs m e t =
    t ∙ sym (replaced i library own ∙ ap (λ (cs : List Clause). or_else cs (clauses_of i library)) (sym m))
library_answers i library own (c ∷ cs) theirs m e t = absurd (omega (arith, eqb-true (length (c ∷ cs)) 0 e))

-- where it has some
pub own_answers : (i : Pi) (library own : List Clause) (mine : List kept.Clause) → map clause_of mine ≡ clauses_of i own → (length mine == 0) ≡ false → map clause_of mine ≡ clauses_of i (program_of library own)
own_answers i library own [] m e = cc
own_answers i library own (c ∷ cs) m e =
    sym (replaced i library own ∙ ap (λ (ds : List Clause). or_else ds (clauses_of i library)) (sym m))

-- ---- the clauses in order

-- each clause is of the predicate
abbrev Are : Pi → List Clause → Type 0
Are pi [] = Unit {0}
Are pi (c ∷ cs) = (is_for pi c.head ≡ true) × Are pi cs

are_of : (pi : Pi) (cs : List Clause) → Are pi (clauses_of pi cs)
unfolding clauses_of
are_of pi [] = tt
are_of pi (c ∷ cs) = by (is_for pi c.head) refl (are_of pi cs)
  where
    by : (b : Bool) → is_for pi c.head ≡ b → Are pi (clauses_of pi cs) → Are pi (if b then c ∷ clauses_of pi cs else clauses_of pi cs)
    by true e h = (e, h)
    by false e h = h

is_for_at : (pi : Pi) (ks : List kept.Clause) (at : ℕ) (d : kept.Clause) → at < length ks → Are pi (map clause_of ks) → is_for pi (get_or ks at d).head ≡ true
is_for_at pi [] at d h a = absurd (omega (arith, h))
is_for_at pi (k ∷ ks) zero d h a = a.0
is_for_at pi (k ∷ ks) (suc n) d h a = is_for_at pi ks n d (omega (arith, h)) a.1

one_taken : (ks : List kept.Clause) (at : ℕ) (d : kept.Clause) → at < length ks → take 1 (drop at ks) ≡ get_or ks at d ∷ []
one_taken [] at d h = absurd (omega (arith, h))
one_taken (k ∷ ks) zero d h = refl
one_taken (k ∷ ks) (suc n) d h = one_taken ks n d (omega (arith, h))

module _ (m : ByArity) (ps : List Place) (by_predicate : IsByPredicate m ps) (other : List Clause) where
  abbrev pub kept_of : List Clause → List Clause
  kept_of cs = filter (λ c. not (defines other c.head)) cs

  module _ (i : ℕ) (p d : Place) (inside : i < length ps) (is : p ≡ get_or ps i d) (k : kept.Clause) (at : k ≡ get_or (found m p.pi) p.at k) where
    here : Place
    here = get_or ps i d

    held : p.at < length (found m p.pi)
    held = subst (IsHeld m) (sym is) (by_predicate.held i d inside)

    of : is_for p.pi k.head ≡ true
    of = subst (λ (x : kept.Clause). is_for p.pi x.head ≡ true) (sym at) (is_for_at p.pi (found m p.pi) p.at k held (subst (Are p.pi) (by_predicate.complete p.pi) (are_of p.pi (in_order m ps))))

    taken : in_order m (take (i + 1) ps) ≡ in_order m (take i ps) ++ clause_of k ∷ []
    taken =
        ap (in_order m) (take_more ps i d inside ∙ ap (λ (x : Place). take i ps ++ x ∷ []) (sym is))
        ∙ ap (map clause_of) (flat_map-append (at_place m) (take i ps) (p ∷ []))
        ∙ map-append clause_of (flat_map (at_place m) (take i ps)) (at_place m p ++ [])
        ∙ ap (λ (xs : List kept.Clause). in_order m (take i ps) ++ map clause_of (xs ++ [])) (one_taken (found m p.pi) p.at k held ∙ ap (λ (x : kept.Clause). x ∷ []) (sym at))

    -- one place further
    pub kept_more : (none : Bool) → not (some_of (clauses_of p.pi other)) ≡ none → kept_of (in_order m (take (i + 1) ps)) ≡ kept_of (in_order m (take i ps)) ++ (if none then clause_of k ∷ [] else [])
    kept_more none e =
        ap kept_of taken ∙ filter-append (λ (c : Clause). not (defines other c.head)) (in_order m (take i ps)) (clause_of k ∷ [])
        ∙ ap (λ (b : Bool). kept_of (in_order m (take i ps)) ++ (if not b then clause_of k ∷ [] else [])) (defines_of p.pi other (some_of (clauses_of p.pi other)) refl (clause_of k) of)
        ∙ ap (λ (b : Bool). kept_of (in_order m (take i ps)) ++ (if b then clause_of k ∷ [] else [])) e

-- nothing is left out beside an empty list
kept_all : (cs : List Clause) → filter (λ c. not (defines [] c.head)) cs ≡ cs
kept_all [] = refl
kept_all (c ∷ cs) = by (indicator_of c.head) (kept_all cs)
  where
    by : (i : Option Pi) → filter (λ d. not (defines [] d.head)) cs ≡ cs → (if not (elim i as (λ x. Bool) [ None ↦ false | Some pi ↦ false ]) then c ∷ filter (λ d. not (defines [] d.head)) cs else filter (λ d. not (defines [] d.head)) cs) ≡ c ∷ cs
    by None e = ap (λ (ds : List Clause). c ∷ ds) e
    by (Some pi) e = ap (λ (ds : List Clause). c ∷ ds) e

-- what is left of the library, and then the client's
pub joined : (library own : List Clause) (xs ys : List (Bor kept.Clause)) → map (λ c. clause_of c.now) xs ≡ filter (λ c. not (defines own c.head)) library → map (λ c. clause_of c.now) ys ≡ filter (λ c. not (defines [] c.head)) own → map (λ c. clause_of c.now) (xs ++ ys) ≡ program_of library own
unfolding program_of
joined library own xs ys e h =
    map-append (λ (c : Bor kept.Clause). clause_of c.now) xs ys ∙ rw (e, h) (ap (λ (ds : List Clause). filter (λ c. not (defines own c.head)) library ++ ds) (kept_all own))

pub none_of : (ks : List kept.Clause) (cs : List Clause) (b : Bool) → map clause_of ks ≡ cs → (length ks == 0) ≡ b → not (some_of cs) ≡ b
none_of [] cs b e h = rw (← e, ← h) refl
none_of (k ∷ ks) cs b e h = rw (← e, ← h) (sym (not_zero (length ks)))
  where
    not_zero : (n : ℕ) → (suc n == 0) ≡ false
    not_zero n = grind arith
