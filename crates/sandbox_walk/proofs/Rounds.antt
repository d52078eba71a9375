-- Rounds reach what is reached: after as many as there are clauses no round reads a clause more.
use Rattle.std.proofs.Common.{◌≡◌, ℕ, zero, suc, ◌+◌, ◌≤◌, Bool, true, false, ◌||◌, ◌&&◌, List, [], ◌∷◌, map, length, IsTrue, refl, ap, sym, subst, ◌∙◌, ◌⊎◌, inl, inr, arith, nat_le, Option, Some, None, if◌then◌else◌}
use Rattle.std.specs.Prelude.{⊤}
use Rattle.std.specs.List.{list_any, flat_map}
use Rattle.std.proofs.lemmas.Bool.{and_parts, leb-true, leb-false}
use Rattle.term_core.specs.declared.pi.Pi.{Pi}
use Rattle.term_core.specs.Tree.{Tree, variable, integer, atom, compound, arity}
use Rattle.builtin_table.specs.Table.{Rows}
use Rattle.program.specs.Clauses.{Clause, indicator_of, is_for, clauses_of}
use Rattle.sandbox_walk.specs.Verdict.{Reach, by_goal, by_clause, TellsReach, enters, in_goal, in_clause, is_literal, has_literal, reads, all_shown, refusal}
use Rattle.sandbox_walk.specs.Computed.{reached_in, is_reached, verdict, IsTheVerdict, TheVerdictIsOne}
use Rattle.sandbox_walk.proofs.Joining.{any_left, any_right}
use Rattle.sandbox_walk.proofs.Walking.{same, itself, or_left, or_right, or_either, any-append}

-- ---- tests over lists

differ : false ≡ true → ⊥
differ e = cc

and_both : (a b : Bool) → IsTrue a → IsTrue b → IsTrue (a && b)
and_both true b h k = k
and_both false b h k = h

same_tests : (a b : Bool) → (IsTrue a → IsTrue b) → (IsTrue b → IsTrue a) → a ≡ b
same_tests true true h k = refl
same_tests true false h k = sym (h refl)
same_tests false true h k = k refl
same_tests false false h k = refl

abbrev one : Bool → ℕ
one true = 1
one false = 0

one_grows : (a b : Bool) → (IsTrue a → IsTrue b) → one a ≤ one b
one_grows true true s = omega arith
one_grows true false s = absurd (differ (s refl))
one_grows false true s = omega arith
one_grows false false s = omega arith

one_same : (a b : Bool) → one a ≡ one b → a ≡ b
one_same true true e = refl
one_same true false e = absurd (omega (arith, e))
one_same false true e = absurd (omega (arith, e))
one_same false false e = refl

one_most : (a : Bool) → one a ≤ 1
one_most true = omega arith
one_most false = omega arith

module _ {A : Type 0} where
  abbrev counted : (A → Bool) → List A → ℕ
  counted f [] = 0
  counted f (x ∷ xs) = one (f x) + counted f xs

  counted_most : (f : A → Bool) (xs : List A) → counted f xs ≤ length xs
  counted_most f [] = omega arith
  counted_most f (x ∷ xs) = omega (arith, one_most (f x), counted_most f xs)

  counted_grows : (f h : A → Bool) (xs : List A) → ((x : A) → IsTrue (f x) → IsTrue (h x)) → counted f xs ≤ counted h xs
  counted_grows f h [] s = omega arith
  counted_grows f h (x ∷ xs) s = omega (arith, one_grows (f x) (h x) (s x), counted_grows f h xs s)

  counted_same : (f h : A → Bool) (xs : List A) → ((x : A) → IsTrue (f x) → IsTrue (h x)) → counted h xs ≤ counted f xs → map f xs ≡ map h xs
  counted_same f h [] s e = refl
  counted_same f h (x ∷ xs) s e =
      let a : one (f x) ≤ one (h x) = one_grows (f x) (h x) (s x) in
      let b : counted f xs ≤ counted h xs = counted_grows f h xs s in
      let c : one (f x) ≡ one (h x) = omega (arith, a, b, e) in
      let d : counted h xs ≤ counted f xs = omega (arith, a, b, e) in
      ap (λ (t : Bool). t ∷ map f xs) (one_same (f x) (h x) c) ∙ ap (λ (ts : List Bool). h x ∷ ts) (counted_same f h xs s d)

  any_grows : (f h : A → Bool) (xs : List A) → ((x : A) → IsTrue (f x) → IsTrue (h x)) → IsTrue (list_any f xs) → IsTrue (list_any h xs)
  any_grows f h [] s r = r
  any_grows f h (x ∷ xs) s r = elim (or_either (f x) (list_any f xs) r) [
    | inl a ↦ or_left (h x) (list_any h xs) (s x a)
    | inr b ↦ or_right (h x) (list_any h xs) (any_grows f h xs s b)
  ]

  -- tests beside these, element by element
  abbrev any_of : List Bool → (A → Bool) → List A → Bool
  any_of [] k xs = false
  any_of (b ∷ bs) k [] = false
  any_of (b ∷ bs) k (x ∷ xs) = (b && k x) || any_of bs k xs

  any_beside : (f k : A → Bool) (xs : List A) → list_any (λ x. f x && k x) xs ≡ any_of (map f xs) k xs
  any_beside f k [] = refl
  any_beside f k (x ∷ xs) = ap (λ (b : Bool). (f x && k x) || b) (any_beside f k xs)

  any_same : (f h k : A → Bool) (xs : List A) → map f xs ≡ map h xs → list_any (λ x. f x && k x) xs ≡ list_any (λ x. h x && k x) xs
  any_same f h k xs e = any_beside f k xs ∙ ap (λ (bs : List Bool). any_of bs k xs) e ∙ sym (any_beside h k xs)

-- ---- heads

is_for_own : (t : Tree) (h : Pi) → indicator_of t ≡ Some h → IsTrue (is_for h t)
is_for_own t h e = subst (fits t) e (by t)
  where
    fits : Tree → Option Pi → Type 0
    fits t None = ⊤
    fits t (Some i) = IsTrue (is_for i t)

    by : (t : Tree) → fits t (indicator_of t)
    by (variable n) = tt
    by (integer z) = tt
    by (atom f) = itself (record { name = f; arity = 0 })
    by (compound f ts) = itself (record { name = f; arity = arity ts })

own_for : (t : Tree) (h : Pi) → IsTrue (is_for h t) → indicator_of t ≡ Some h
own_for (variable n) h e = absurd (differ e)
own_for (integer z) h e = absurd (differ e)
own_for (atom f) h e = ap Some (sym (same h (record { name = f; arity = 0 }) e))
own_for (compound f ts) h e = ap Some (sym (same h (record { name = f; arity = arity ts }) e))

-- ---- rounds

module _ (rows : Rows) (p : List Clause) (g : Tree) where
  abbrev at : ℕ → Pi → Bool
  at n i = reached_in rows p g n i

  abbrev reads_in : ℕ → Clause → Bool
  reads_in n c = reads rows p (at n) c

  abbrev shows : Pi → Clause → Bool
  shows i c = has_literal i (in_clause rows c)

  reads_grow : (f h : Pi → Bool) → ((i : Pi) → IsTrue (f i) → IsTrue (h i)) → (c : Clause) → IsTrue (reads rows p f c) → IsTrue (reads rows p h c)
  reads_grow f h s c r = by (indicator_of c.head) r
    where
      by : (o : Option Pi) → IsTrue (elim o [ None ↦ false | Some i ↦ f i && enters rows p i ]) → IsTrue (elim o [ None ↦ false | Some i ↦ h i && enters rows p i ])
      by None r = r
      by (Some i) r = let q = and_parts (f i) (enters rows p i) r in and_both (h i) (enters rows p i) (s i q.0) q.1

  at_grows : (n : ℕ) (i : Pi) → IsTrue (at n i) → IsTrue (at (suc n) i)
  at_grows zero i r = or_left (has_literal i (in_goal rows g)) (list_any (λ c. reads_in zero c && shows i c) p) r
  at_grows (suc n) i r = elim (or_either (has_literal i (in_goal rows g)) (list_any (λ c. reads_in n c && shows i c) p) r) [
    | inl a ↦ or_left (has_literal i (in_goal rows g)) (list_any (λ c. reads_in (suc n) c && shows i c) p) a
    | inr b ↦ or_right (has_literal i (in_goal rows g)) (list_any (λ c. reads_in (suc n) c && shows i c) p) (any_grows (λ c. reads_in n c && shows i c) (λ c. reads_in (suc n) c && shows i c) p (further (at_grows n)) b)
  ]
    where
      further : ((j : Pi) → IsTrue (at n j) → IsTrue (at (suc n) j)) → (c : Clause) → IsTrue (reads_in n c && shows i c) → IsTrue (reads_in (suc n) c && shows i c)
      further grows c r = let q = and_parts (reads_in n c) (shows i c) r in and_both (reads_in (suc n) c) (shows i c) (reads_grow (at n) (at (suc n)) grows c q.0) q.1

  reads_in_grow : (n : ℕ) (c : Clause) → IsTrue (reads_in n c) → IsTrue (reads_in (suc n) c)
  reads_in_grow n c r = reads_grow (at n) (at (suc n)) (at_grows n) c r

  -- a round reads no clause more
  abbrev Still : ℕ → Type 0
  Still n = map (reads_in n) p ≡ map (reads_in (suc n)) p

  reached_still : (n : ℕ) → Still n → (i : Pi) → at (suc n) i ≡ at (suc (suc n)) i
  reached_still n e i = ap (λ (b : Bool). has_literal i (in_goal rows g) || b) (any_same (reads_in n) (reads_in (suc n)) (shows i) p e)

  stays_still : (n : ℕ) → Still n → Still (suc n)
  stays_still n e = ap (λ (f : Pi → Bool). map (reads rows p f) p) (λ k i. reached_still n e i k)

  abbrev read_count : ℕ → ℕ
  read_count n = counted (reads_in n) p

  rests : (n : ℕ) → read_count (suc n) ≤ read_count n → Still n
  rests n e = counted_same (reads_in n) (reads_in (suc n)) p (reads_in_grow n) e

  more_or_still : (n : ℕ) → (n ≤ read_count n) ⊎ Still n
  more_or_still zero = inl (omega arith)
  more_or_still (suc n) = by (more_or_still n)
    where
      step : n ≤ read_count n → (b : Bool) → nat_le (read_count (suc n)) (read_count n) ≡ b → (suc n ≤ read_count (suc n)) ⊎ Still (suc n)
      step m true e = inr (stays_still n (rests n (leb-true (read_count (suc n)) (read_count n) e)))
      step m false e = inl (omega (arith, m, leb-false (read_count (suc n)) (read_count n) e))

      by : (n ≤ read_count n) ⊎ Still n → (suc n ≤ read_count (suc n)) ⊎ Still (suc n)
      by (inl m) = step m (nat_le (read_count (suc n)) (read_count n)) refl
      by (inr s) = inr (stays_still n s)

  still : Still (length p)
  still = by (more_or_still (length p))
    where
      by : (length p ≤ read_count (length p)) ⊎ Still (length p) → Still (length p)
      by (inl m) = rests (length p) (omega (arith, m, counted_most (reads_in (suc (length p))) p))
      by (inr s) = s

  -- ---- what rounds reach is reached

  record ReadBy (f : Pi → Bool) (i : Pi) (cs : List Clause) : Type 0 where
    holder : Pi
    reached : IsTrue (f holder)
    entered : IsTrue (enters rows p holder)
    literal : IsTrue (has_literal i (flat_map (in_clause rows) (clauses_of holder cs)))

  read_first : (f : Pi → Bool) (i : Pi) (c : Clause) (cs : List Clause) → (o : Option Pi) → o ≡ indicator_of c.head →
      IsTrue (elim o [ None ↦ false | Some h ↦ f h && enters rows p h ]) → IsTrue (shows i c) → ReadBy f i (c ∷ cs)
  unfolding clauses_of
  read_first f i c cs None e r l = absurd (differ r)
  read_first f i c cs (Some h) e r l =
      let q = and_parts (f h) (enters rows p h) r in
      record {
        holder = h;
        reached = q.0;
        entered = q.1;
        literal = rw (is_for_own c.head h (sym e)) (any_left (is_literal i) (in_clause rows c) (flat_map (in_clause rows) (clauses_of h cs)) l);
      }

  read_later : (f : Pi → Bool) (i : Pi) (c : Clause) (cs : List Clause) → ReadBy f i cs → ReadBy f i (c ∷ cs)
  unfolding clauses_of
  read_later f i c cs r = record {
    holder = r.holder;
    reached = r.reached;
    entered = r.entered;
    literal = by (is_for r.holder c.head);
  }
    where
      by : (b : Bool) → IsTrue (has_literal i (flat_map (in_clause rows) (if b then c ∷ clauses_of r.holder cs else clauses_of r.holder cs)))
      by true = any_right (is_literal i) (in_clause rows c) (flat_map (in_clause rows) (clauses_of r.holder cs)) r.literal
      by false = r.literal

  read_by : (f : Pi → Bool) (i : Pi) (cs : List Clause) → IsTrue (list_any (λ c. reads rows p f c && shows i c) cs) → ReadBy f i cs
  read_by f i [] h = absurd (differ h)
  read_by f i (c ∷ cs) h = elim (or_either (reads rows p f c && shows i c) (list_any (λ c. reads rows p f c && shows i c) cs) h) [
    | inl a ↦ first a
    | inr b ↦ read_later f i c cs (read_by f i cs b)
  ]
    where
      first : IsTrue (reads rows p f c && shows i c) → ReadBy f i (c ∷ cs)
      first a = let q = and_parts (reads rows p f c) (shows i c) a in read_first f i c cs (indicator_of c.head) refl q.0 q.1

  sound : (n : ℕ) (i : Pi) → IsTrue (at n i) → Reach rows p g i
  sound zero i r = by_goal i r
  sound (suc n) i r = by (sound n) (or_either (has_literal i (in_goal rows g)) (list_any (λ c. reads_in n c && shows i c) p) r)
    where
      by : ((j : Pi) → IsTrue (at n j) → Reach rows p g j) → IsTrue (has_literal i (in_goal rows g)) ⊎ IsTrue (list_any (λ c. reads_in n c && shows i c) p) → Reach rows p g i
      by before (inl a) = by_goal i a
      by before (inr b) = let x = read_by (at n) i p b in by_clause x.holder i (before x.holder x.reached) x.entered x.literal

  -- ---- what is reached rounds reach

  abbrev Rest : (Pi → Bool) → Pi → Pi → List Clause → Type 0
  Rest f h i cs = IsTrue (has_literal i (flat_map (in_clause rows) (clauses_of h cs))) → IsTrue (list_any (λ c. reads rows p f c && shows i c) cs)

  read_of : (f : Pi → Bool) (h i : Pi) (cs : List Clause) → IsTrue (f h) → IsTrue (enters rows p h) →
      IsTrue (has_literal i (flat_map (in_clause rows) (clauses_of h cs))) → IsTrue (list_any (λ c. reads rows p f c && shows i c) cs)
  unfolding clauses_of
  read_of f h i [] r e l = l
  read_of f h i (c ∷ cs) r e l = by (read_of f h i cs r e) (is_for h c.head) refl l
    where
      first : IsTrue (is_for h c.head) → IsTrue (reads rows p f c)
      first k = subst (λ (o : Option Pi). IsTrue (elim o [ None ↦ false | Some j ↦ f j && enters rows p j ])) (sym (own_for c.head h k)) (and_both (f h) (enters rows p h) r e)

      split : Rest f h i cs → IsTrue (is_for h c.head) → IsTrue (shows i c) ⊎ IsTrue (has_literal i (flat_map (in_clause rows) (clauses_of h cs))) → IsTrue (list_any (λ c. reads rows p f c && shows i c) (c ∷ cs))
      split rest k (inl a) = or_left (reads rows p f c && shows i c) (list_any (λ c. reads rows p f c && shows i c) cs) (and_both (reads rows p f c) (shows i c) (first k) a)
      split rest k (inr b) = or_right (reads rows p f c && shows i c) (list_any (λ c. reads rows p f c && shows i c) cs) (rest b)

      by : Rest f h i cs → (b : Bool) → b ≡ is_for h c.head → IsTrue (has_literal i (flat_map (in_clause rows) (if b then c ∷ clauses_of h cs else clauses_of h cs))) →
          IsTrue (list_any (λ c. reads rows p f c && shows i c) (c ∷ cs))
      by rest true k m =
          split rest (sym k) (or_either (shows i c) (has_literal i (flat_map (in_clause rows) (clauses_of h cs)))
          (subst IsTrue (any-append (is_literal i) (in_clause rows c) (flat_map (in_clause rows) (clauses_of h cs))) m))
      by rest false k m = or_right (reads rows p f c && shows i c) (list_any (λ c. reads rows p f c && shows i c) cs) (rest m)

  complete : (i : Pi) → Reach rows p g i → IsTrue (is_reached rows p g i)
  complete i (by_goal _ r) = or_left (has_literal i (in_goal rows g)) (list_any (λ c. reads_in (length p) c && shows i c) p) r
  complete i (by_clause h _ r e l) =
      subst IsTrue (sym (reached_still (length p) still i))
      (or_right (has_literal i (in_goal rows g)) (list_any (λ c. reads_in (suc (length p)) c && shows i c) p)
      (read_of (at (suc (length p))) h i p (complete h r) e l))

  tells : TellsReach rows p g (is_reached rows p g)
  tells i = (sound (suc (length p)) i, complete i)

  reached_same : (f : Pi → Bool) → TellsReach rows p g f → f ≡ is_reached rows p g
  reached_same f t = λ k i. same_tests (f i) (is_reached rows p g i) (λ h. complete i ((t i).0 h)) (λ h. (t i).1 (sound (suc (length p)) i h)) k

  one_verdict : IsTheVerdict rows p g
  unfolding verdict
  one_verdict = record {
    stands = (is_reached rows p g, tells, refl);
    only = λ v x. x.2 ∙ ap (λ (f : Pi → Bool). refusal rows (all_shown rows p g f)) (reached_same x.0 x.1);
  }

pub is_one : TheVerdictIsOne
is_one rows p g = one_verdict rows p g
