-- What is kept for each predicate, with a clause more.
use Rattle.std.proofs.Common.{◌≡◌, ℕ, zero, suc, ◌<◌, Bool, true, false, ◌&&◌, ◌==◌, List, [], ◌∷◌, ◌++◌, length, map, take, drop, Some, Vec, if◌then◌else◌, bytes_eq, refl, ap, sym, ◌∙◌, append-nil, arith, All}
use Rattle.std.specs.Global.{Global}
use Rattle.std.specs.List.{flat_map}
use Rattle.std.specs.Map.{update}
use Rattle.std.specs.BTreeMap.{get_by_text}
use Rattle.std.specs.Cmp.Lexicographic.{bytes_decides}
use Rattle.std.proofs.Math.Seq.{drop-append_seam}
use Rattle.std.proofs.lemmas.Bool.{and_parts, eqb-true}
use Rattle.std.proofs.lemmas.Bool.Decides.{same_from_decides}
use Rattle.std.proofs.lemmas.Grind.{flat_map-append}
use Rattle.std.proofs.lemmas.List.{length-append, map-append}
use Rattle.std.proofs.lemmas.List.Elements.{All-nil, All-head, All-tail, All-push}
use Rattle.std.proofs.lemmas.Slice.Eq.{bytes_eq-Decides}
use Rattle.term_core.specs.declared.pi.Pi.{Pi}
use Rattle.term_core.specs.Tree.{Tree, variable, integer, atom, compound, arity}
use Rattle.program.specs.declared.clause.Clause as kept
use Rattle.program.specs.declared.clause_map.Place.{Place}
use Rattle.program.specs.Clauses.{Clause, same_indicator, is_for, clauses_of}
use Rattle.program.specs.Kept.{clause_of}
use Rattle.program.specs.ByPredicate.{ByName, ByArity, held_at, found, at_place, in_order, IsHeld, IsByPredicate}

-- under each name, where the clauses of one name are these now
pub held_after : (m n : ByName) (name : List ℕ) (v : Vec kept.Clause Global) (c : kept.Clause) → ((q : List ℕ) → get_by_text n q ≡ update bytes_eq (get_by_text m) name (Some v) q) → v.items ≡ held_at m name ++ c ∷ [] → (q : List ℕ) → held_at n q ≡ (if bytes_eq name q then held_at m q ++ c ∷ [] else held_at m q)
held_after m n name v c updates items q = by (bytes_eq name q) refl
  where
    by : (b : Bool) → bytes_eq name q ≡ b → held_at n q ≡ (if b then held_at m q ++ c ∷ [] else held_at m q)
    by true e = rw (updates q, e) (items ∙ ap (λ (k : List ℕ). held_at m k ++ c ∷ []) ((bytes_decides name q).0 e))
    by false e = rw (updates q, e) refl

-- ---- indicators

bytes_eq_back : (f g : List ℕ) → bytes_eq f g ≡ bytes_eq g f
bytes_eq_back f g =
    same_from_decides (bytes_eq f g) (bytes_eq g f) (bytes_eq-Decides f g)
    (let back = bytes_eq-Decides g f in (λ e. sym (back.0 e), λ e. back.1 (sym e)))

number_eq_back : (m n : ℕ) → (m == n) ≡ (n == m)
number_eq_back m n = grind arith

number_same : (n : ℕ) → (n == n) ≡ true
number_same n = grind arith

-- a head of one predicate is of those that are the same
same_as : (i j : Pi) (f : List ℕ) (n : ℕ) → (bytes_eq i.name f && i.arity == n) ≡ true → same_indicator i j ≡ (bytes_eq j.name f && j.arity == n)
same_as i j f n h =
    let parts = and_parts (bytes_eq i.name f) (i.arity == n) h in
    rw ((bytes_decides i.name f).0 parts.0, eqb-true i.arity n parts.1, bytes_eq_back f j.name, number_eq_back n j.arity) refl

is_for_same : (i j : Pi) (h : Tree) → is_for i h ≡ true → same_indicator i j ≡ is_for j h
is_for_same i j (variable n) e = cc
is_for_same i j (integer z) e = cc
is_for_same i j (atom f) e = same_as i j f 0 e
is_for_same i j (compound f ts) e = same_as i j f (arity ts) e

-- ---- the clauses of a list with one more

pub clauses_of-append : (i : Pi) (cs ds : List Clause) → clauses_of i (cs ++ ds) ≡ clauses_of i cs ++ clauses_of i ds
unfolding clauses_of
clauses_of-append i [] ds = refl
clauses_of-append i (c ∷ cs) ds = by (is_for i c.head) (clauses_of-append i cs ds)
  where
    by : (b : Bool) → clauses_of i (cs ++ ds) ≡ clauses_of i cs ++ clauses_of i ds → (if b then c ∷ clauses_of i (cs ++ ds) else clauses_of i (cs ++ ds)) ≡ (if b then c ∷ clauses_of i cs else clauses_of i cs) ++ clauses_of i ds
    by true e = ap (λ (es : List Clause). c ∷ es) e
    by false e = e

clauses_of-one : (i : Pi) (c : Clause) (b : Bool) → is_for i c.head ≡ b → clauses_of i (c ∷ []) ≡ (if b then c ∷ [] else [])
unfolding clauses_of
clauses_of-one i c b e = rw e refl

-- ---- no clause

pub nothing_kept : (m : ByArity) → m.entries ≡ [] → IsByPredicate m []
unfolding clauses_of
nothing_kept m e = record { held = All-nil (IsHeld m); complete = λ pi. rw e refl }

-- ---- a clause more

one_at : {A : Type 0} (k : ℕ) (xs ys : List A) → k < length xs → take 1 (drop k (xs ++ ys)) ≡ take 1 (drop k xs)
one_at k [] ys h = absurd (omega (arith, h))
one_at zero (x ∷ xs) ys h = refl
one_at (suc k) (x ∷ xs) ys h = one_at k xs ys (omega (arith, h))

-- what is kept for each predicate, where a clause of i is put behind its clauses
module _ (m n : ByArity) (i : Pi) (c : kept.Clause) (more : (q : Pi) → found n q ≡ (if same_indicator i q then found m q ++ c ∷ [] else found m q)) where
  found_here : found n i ≡ found m i ++ c ∷ []
  found_here = more i ∙ rw ((bytes_decides i.name i.name).1 refl, number_same i.arity) refl

  stays : (p : Place) → IsHeld m p → IsHeld n p × (at_place n p ≡ at_place m p)
  stays p h = by (same_indicator i p.pi) refl
    where
      by : (b : Bool) → same_indicator i p.pi ≡ b → IsHeld n p × (at_place n p ≡ at_place m p)
      by true e = rw (more p.pi, e) (omega (arith, h, length-append (found m p.pi) (c ∷ [])), one_at p.at (found m p.pi) (c ∷ []) h)
      by false e = rw (more p.pi, e) (h, refl)

  stay_in_order : (ps : List Place) → All (IsHeld m) ps → flat_map (at_place n) ps ≡ flat_map (at_place m) ps
  stay_in_order [] h = refl
  stay_in_order (p ∷ ps) h =
      let first : at_place n p ≡ at_place m p = (stays p (All-head (IsHeld m) p ps h)).1 in
      let rest : flat_map (at_place n) ps ≡ flat_map (at_place m) ps = stay_in_order ps (All-tail (IsHeld m) p ps h) in
      rw (first, rest) refl

  module _ (ps : List Place) (h : IsByPredicate m ps) (p : Place) (is_i : p.pi ≡ i) (is_last : p.at ≡ length (found m i)) where
    found_there : found n p.pi ≡ found m i ++ c ∷ []
    found_there = ap (found n) is_i ∙ found_here

    at_end : at_place n p ≡ c ∷ []
    at_end = rw (found_there, is_last, drop-append_seam (found m i) (c ∷ [])) refl

    -- the list has one more
    pub in_order_after : in_order n (ps ++ p ∷ []) ≡ in_order m ps ++ clause_of c ∷ []
    in_order_after =
        ap (map clause_of) (flat_map-append (at_place n) ps (p ∷ []) ∙ rw (stay_in_order ps h.held, at_end) refl)
        ∙ map-append clause_of (flat_map (at_place m) ps) (c ∷ [])

    pub kept_after : is_for i c.head ≡ true → IsByPredicate n (ps ++ p ∷ [])
    kept_after of_i = record {
      held = All-push (IsHeld n) ps p (λ k d b. (stays _ (h.held k d b)).0) (rw (found_there, is_last) (omega (arith, length-append (found m i) (c ∷ []))));
      complete = λ q.
          ap (clauses_of q) in_order_after
          ∙ clauses_of-append q (in_order m ps) (clause_of c ∷ [])
          ∙ rw (h.complete q, more q) (by q (same_indicator i q) (sym (is_for_same i q c.head of_i)));
    }
      where
        by : (q : Pi) (b : Bool) → is_for q c.head ≡ b → map clause_of (found m q) ++ clauses_of q (clause_of c ∷ []) ≡ map clause_of (if b then found m q ++ c ∷ [] else found m q)
        by q true e = rw (clauses_of-one q (clause_of c) true e) (sym (map-append clause_of (found m q) (c ∷ [])))
        by q false e = rw (clauses_of-one q (clause_of c) false e) (append-nil (map clause_of (found m q)))
