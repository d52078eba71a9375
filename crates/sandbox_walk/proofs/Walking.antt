-- The walk over the predicates: when none waits, those that were seen are just those that are reached.
use Rattle.std.proofs.Common.{◌≡◌, ℕ, Bool, true, false, ◌||◌, ◌==◌, List, [], ◌∷◌, ◌++◌, take, get_or, length, ◌+◌, ◌<◌, IsTrue, bytes_eq, refl, ap, sym, subst, ◌∙◌, ◌⊎◌, inl, inr, arith}
use Rattle.std.specs.List.{list_any}
use Rattle.std.specs.Cmp.Lexicographic.{bytes_decides}
use Rattle.std.specs.Option.{option_map_or}
use Rattle.std.specs.Ordering.{nat_cmp}
use Rattle.std.specs.Map.{lookup}
use Rattle.std.specs.BTreeMap.{is_at}
use Rattle.std.specs.BTreeSet.{contains_text}
use Rattle.std.proofs.lemmas.Bool.{and_parts, eqb-true}
use Rattle.std.proofs.lemmas.List.{take_more}
use Rattle.term_core.specs.declared.pi.Pi.{Pi}
use Rattle.term_core.specs.Tree.{Tree}
use Rattle.builtin_table.specs.Table.{Rows}
use Rattle.program.specs.Clauses.{Clause, same_indicator}
use Rattle.sandbox_walk.specs.declared.found.Found.{Found}
use Rattle.sandbox_walk.specs.declared.found.Found.TheVariants.{Literal}
use Rattle.sandbox_walk.specs.declared.reach.Walk.{Walk}
use Rattle.sandbox_walk.specs.Shown.{indicator}
use Rattle.sandbox_walk.specs.Verdict.{Reach, by_goal, by_clause, TellsReach, enters, in_goal, in_predicate, is_literal, has_literal}
use Rattle.sandbox_walk.specs.Seen.{Names, ByArity, has, among, IsWalking, HasMet}

-- ---- tests

differ : true ≡ false → ⊥
differ e = cc

pub or_left : (a b : Bool) → IsTrue a → IsTrue (a || b)
or_left true b h = refl
or_left false b h = cc

pub or_right : (a b : Bool) → IsTrue b → IsTrue (a || b)
or_right true b h = refl
or_right false b h = h

pub or_either : (a b : Bool) → IsTrue (a || b) → IsTrue a ⊎ IsTrue b
or_either true b h = inl refl
or_either false b h = inr h

or_assoc : (a b c : Bool) → ((a || b) || c) ≡ (a || (b || c))
or_assoc true b c = refl
or_assoc false b c = refl

or_false : (a : Bool) → (a || false) ≡ a
or_false true = refl
or_false false = refl

pub any-append : {A : Type 0} (p : A → Bool) (xs ys : List A) → list_any p (xs ++ ys) ≡ (list_any p xs || list_any p ys)
any-append p [] ys = refl
any-append p (x ∷ xs) ys = ap (λ (b : Bool). p x || b) (any-append p xs ys) ∙ sym (or_assoc (p x) (list_any p xs) (list_any p ys))

pub same : (i j : Pi) → IsTrue (same_indicator i j) → i ≡ j
same i j h =
    let parts = and_parts (bytes_eq i.name j.name) (i.arity == j.arity) h in
    ap (λ (f : List ℕ). indicator f i.arity) ((bytes_decides i.name j.name).0 parts.0) ∙ ap (indicator j.name) (eqb-true i.arity j.arity parts.1)

pub itself : (i : Pi) → IsTrue (same_indicator i i)
itself i = rw ((bytes_decides i.name i.name).1 refl, number_same i.arity) refl
  where
    number_same : (n : ℕ) → (n == n) ≡ true
    number_same n = grind arith

-- ---- what is met

pub met_none : (w : Walk) → HasMet [] w w
met_none w = record {
  seen = λ i. sym (or_false (has w.seen i));
  waiting = λ i h. inl h;
  kept = λ i h. h;
  new_wait = λ i h. inl h;
}

pub met_both : (fs gs : List Found) (old mid new : Walk) → HasMet fs old mid → HasMet gs mid new → HasMet (fs ++ gs) old new
met_both fs gs old mid new m n = record {
  seen = λ i.
      n.seen i ∙ ap (λ (b : Bool). b || has_literal i gs) (m.seen i) ∙ or_assoc (has old.seen i) (has_literal i fs) (has_literal i gs)
      ∙ ap (λ (b : Bool). has old.seen i || b) (sym (any-append (is_literal i) fs gs));
  waiting = λ i h. from_mid i (n.waiting i h);
  kept = λ i h. n.kept i (m.kept i h);
  new_wait = λ i h. from_new i (n.new_wait i h);
}
  where
    stays : (i : Pi) → IsTrue (has mid.seen i) → IsTrue (has new.seen i)
    stays i h = subst IsTrue (sym (n.seen i)) (or_left (has mid.seen i) (has_literal i gs) h)

    from_mid : (i : Pi) → IsTrue (among i mid.waiting.items) ⊎ IsTrue (has new.seen i) → IsTrue (among i old.waiting.items) ⊎ IsTrue (has new.seen i)
    from_mid i (inl h) = elim (m.waiting i h) [ inl a ↦ inl a | inr b ↦ inr (stays i b) ]
    from_mid i (inr h) = inr h

    from_new : (i : Pi) → IsTrue (has mid.seen i) ⊎ IsTrue (among i new.waiting.items) → IsTrue (has old.seen i) ⊎ IsTrue (among i new.waiting.items)
    from_new i (inl h) = elim (m.new_wait i h) [ inl a ↦ inl a | inr b ↦ inr (n.kept i b) ]
    from_new i (inr h) = inr h

-- one thing more of a list
pub met_more : (fs : List Found) (i : ℕ) (f : Found) (old mid new : Walk) → i < length fs → f ≡ get_or fs i f → HasMet (take i fs) old mid → HasMet (f ∷ []) mid new → HasMet (take (i + 1) fs) old new
met_more fs i f old mid new inside is m n =
    subst (λ (gs : List Found). HasMet gs old new) (sym (take_more fs i f inside ∙ ap (λ (x : Found). take i fs ++ x ∷ []) (sym is)))
    (met_both (take i fs) (f ∷ []) old mid new m n)

-- a place is no literal
pub met_place : (f : Found) (w : Walk) → ((i : Pi) → is_literal i f ≡ false) → HasMet (f ∷ []) w w
met_place f w none = record {
  seen = λ i. sym (ap (λ (b : Bool). has w.seen i || (b || false)) (none i) ∙ or_false (has w.seen i));
  waiting = λ i h. inl h;
  kept = λ i h. h;
  new_wait = λ i h. inl h;
}

-- a literal that was seen before
pub met_known : (i : Pi) (w : Walk) → IsTrue (has w.seen i) → HasMet (Literal i ∷ []) w w
met_known i w known = record {
  seen = λ j. by j (same_indicator j i) refl;
  waiting = λ j h. inl h;
  kept = λ j h. h;
  new_wait = λ j h. inl h;
}
  where
    by : (j : Pi) (b : Bool) → same_indicator j i ≡ b → has w.seen j ≡ (has w.seen j || (same_indicator j i || false))
    by j true e = let q : j ≡ i = same j i e in rw (q, known) refl
    by j false e = rw e (sym (or_false (has w.seen j)))

one_way : (i j : Pi) → IsTrue (same_indicator i j) → IsTrue (same_indicator j i)
one_way i j h = subst (λ (x : Pi). IsTrue (same_indicator x i)) (same i j h) (itself i)

same_back : (i j : Pi) → same_indicator i j ≡ same_indicator j i
same_back i j = by (same_indicator i j) (same_indicator j i) refl refl
  where
    by : (a b : Bool) → same_indicator i j ≡ a → same_indicator j i ≡ b → same_indicator i j ≡ same_indicator j i
    by true true e g = e ∙ sym g
    by false false e g = e ∙ sym g
    by true false e g = absurd (differ (sym (one_way i j e) ∙ g))
    by false true e g = absurd (differ (sym (one_way j i g) ∙ e))

-- a literal that is new waits
pub met_new : (i : Pi) (old new : Walk) → ((j : Pi) → has new.seen j ≡ (same_indicator i j || has old.seen j)) → new.waiting.items ≡ old.waiting.items ++ i ∷ [] → HasMet (Literal i ∷ []) old new
met_new i old new seen waiting = record {
  seen = λ j. seen j ∙ ap (λ (b : Bool). b || has old.seen j) (same_back i j) ∙ turned (same_indicator j i) (has old.seen j);
  waiting = λ j h. split j (or_either (among j old.waiting.items) (same_indicator j i || false) (subst IsTrue (here j) h));
  kept = λ j h. subst IsTrue (sym (here j)) (or_left (among j old.waiting.items) (same_indicator j i || false) h);
  new_wait = λ j h. later j (or_either (same_indicator i j) (has old.seen j) (subst IsTrue (seen j) h));
}
  where
    turned : (a b : Bool) → (a || b) ≡ (b || (a || false))
    turned true true = refl
    turned true false = refl
    turned false true = refl
    turned false false = refl

    here : (j : Pi) → among j new.waiting.items ≡ (among j old.waiting.items || (same_indicator j i || false))
    here j = ap (among j) waiting ∙ any-append (λ (k : Pi). same_indicator j k) old.waiting.items (i ∷ [])

    split : (j : Pi) → IsTrue (among j old.waiting.items) ⊎ IsTrue (same_indicator j i || false) → IsTrue (among j old.waiting.items) ⊎ IsTrue (has new.seen j)
    split j (inl h) = inl h
    split j (inr h) = inr (subst IsTrue (sym (seen j)) (or_left (same_indicator i j) (has old.seen j) (subst IsTrue (same_back j i) (subst IsTrue (or_false (same_indicator j i)) h))))

    later : (j : Pi) → IsTrue (same_indicator i j) ⊎ IsTrue (has old.seen j) → IsTrue (has old.seen j) ⊎ IsTrue (among j new.waiting.items)
    later j (inl h) = inr (subst IsTrue (sym (here j)) (or_right (among j old.waiting.items) (same_indicator j i || false) (or_left (same_indicator j i) false (subst IsTrue (same_back i j) h))))
    later j (inr h) = inl h

-- ---- the walk

module _ (rows : Rows) (p : List Clause) (g : Tree) where
  -- it begins with the goal's literals
  pub walking_begins : (old new : Walk) → ((i : Pi) → has old.seen i ≡ false) → old.waiting.items ≡ [] → HasMet (in_goal rows g) old new → IsWalking rows p g new
  walking_begins old new none empty m = record {
    reached = λ i h. by_goal i (subst IsTrue (of_goal i) h);
    queued = λ i h. first i (m.waiting i h);
    goal = λ i h. subst IsTrue (sym (of_goal i)) h;
    closed = λ h i s e l. inr (waits h (m.new_wait h s));
  }
    where
      of_goal : (i : Pi) → has new.seen i ≡ has_literal i (in_goal rows g)
      of_goal i = m.seen i ∙ ap (λ (b : Bool). b || has_literal i (in_goal rows g)) (none i)

      no_way : (i : Pi) → IsTrue (has old.seen i) → ⊥
      no_way i h = differ (sym h ∙ none i)

      first : (i : Pi) → IsTrue (among i old.waiting.items) ⊎ IsTrue (has new.seen i) → IsTrue (has new.seen i)
      first i (inl h) = absurd (differ (sym (subst (λ (is : List Pi). IsTrue (among i is)) empty h)))
      first i (inr h) = h

      waits : (h : Pi) → IsTrue (has old.seen h) ⊎ IsTrue (among h new.waiting.items) → IsTrue (among h new.waiting.items)
      waits h (inl s) = absurd (no_way h s)
      waits h (inr w) = w

  module _ (i : Pi) (old mid new : Walk) (taken : old.waiting.items ≡ mid.waiting.items ++ i ∷ []) (same_seen : mid.seen ≡ old.seen) (k : IsWalking rows p g old) where
    was : (h : Pi) → among h old.waiting.items ≡ (among h mid.waiting.items || (same_indicator h i || false))
    was h = ap (among h) taken ∙ any-append (λ (j : Pi). same_indicator h j) mid.waiting.items (i ∷ [])

    mid_has : (h : Pi) → has mid.seen h ≡ has old.seen h
    mid_has h = ap (λ s. has s h) same_seen

    i_seen : IsTrue (has old.seen i)
    i_seen = k.queued i (subst IsTrue (sym (was i)) (or_right (among i mid.waiting.items) (same_indicator i i || false) (or_left (same_indicator i i) false (itself i))))

    waits_or_is : (h : Pi) → IsTrue (among h old.waiting.items) → IsTrue (among h mid.waiting.items) ⊎ (h ≡ i)
    waits_or_is h a = elim (or_either (among h mid.waiting.items) (same_indicator h i || false) (subst IsTrue (was h) a)) [
      | inl b ↦ inl b
      | inr b ↦ inr (same h i (subst IsTrue (or_false (same_indicator h i)) b))
    ]

    -- a predicate whose clauses aren't read
    pub walking_passes : enters rows p i ≡ false → IsWalking rows p g mid
    walking_passes skipped = record {
      reached = λ j h. k.reached j (subst IsTrue (mid_has j) h);
      queued = λ j h. subst IsTrue (sym (mid_has j)) (k.queued j (subst IsTrue (sym (was j)) (or_left (among j mid.waiting.items) (same_indicator j i || false) h)));
      goal = λ j h. subst IsTrue (sym (mid_has j)) (k.goal j h);
      closed = λ h j s e l. by h j e (k.closed h j (subst IsTrue (mid_has h) s) e l);
    }
      where
        by : (h j : Pi) → IsTrue (enters rows p h) → IsTrue (has old.seen j) ⊎ IsTrue (among h old.waiting.items) → IsTrue (has mid.seen j) ⊎ IsTrue (among h mid.waiting.items)
        by h j e (inl s) = inl (subst IsTrue (sym (mid_has j)) s)
        by h j e (inr w) = elim (waits_or_is h w) [
          | inl a ↦ inr a
          | inr q ↦ absurd (differ (sym (subst (λ (x : Pi). IsTrue (enters rows p x)) q e) ∙ skipped))
        ]

    -- a predicate whose clauses are read
    pub walking_enters : IsTrue (enters rows p i) → HasMet (in_predicate rows p i) mid new → IsWalking rows p g new
    walking_enters entered m = record {
      reached = λ j h. from j (or_either (has mid.seen j) (has_literal j (in_predicate rows p i)) (subst IsTrue (m.seen j) h));
      queued = λ j h. still j (m.waiting j h);
      goal = λ j h. grows j (k.goal j h);
      closed = λ h j s e l. by h j e l (m.new_wait h s);
    }
      where
        grows : (j : Pi) → IsTrue (has old.seen j) → IsTrue (has new.seen j)
        grows j h = subst IsTrue (sym (m.seen j)) (or_left (has mid.seen j) (has_literal j (in_predicate rows p i)) (subst IsTrue (sym (mid_has j)) h))

        from : (j : Pi) → IsTrue (has mid.seen j) ⊎ IsTrue (has_literal j (in_predicate rows p i)) → Reach rows p g j
        from j (inl h) = k.reached j (subst IsTrue (mid_has j) h)
        from j (inr h) = by_clause i j (k.reached i i_seen) entered h

        still : (j : Pi) → IsTrue (among j mid.waiting.items) ⊎ IsTrue (has new.seen j) → IsTrue (has new.seen j)
        still j (inl h) = grows j (k.queued j (subst IsTrue (sym (was j)) (or_left (among j mid.waiting.items) (same_indicator j i || false) h)))
        still j (inr h) = h

        its_own : (j : Pi) → IsTrue (has_literal j (in_predicate rows p i)) → IsTrue (has new.seen j)
        its_own j l = subst IsTrue (sym (m.seen j)) (or_right (has mid.seen j) (has_literal j (in_predicate rows p i)) l)

        before : (h j : Pi) → IsTrue (has_literal j (in_predicate rows p h)) → IsTrue (has old.seen j) ⊎ IsTrue (among h old.waiting.items) → IsTrue (has new.seen j) ⊎ IsTrue (among h new.waiting.items)
        before h j l (inl s) = inl (grows j s)
        before h j l (inr w) = elim (waits_or_is h w) [
          | inl a ↦ inr (m.kept h a)
          | inr q ↦ inl (its_own j (subst (λ (x : Pi). IsTrue (has_literal j (in_predicate rows p x))) q l))
        ]

        by : (h j : Pi) → IsTrue (enters rows p h) → IsTrue (has_literal j (in_predicate rows p h)) → IsTrue (has mid.seen h) ⊎ IsTrue (among h new.waiting.items) → IsTrue (has new.seen j) ⊎ IsTrue (among h new.waiting.items)
        by h j e l (inl s) = before h j l (k.closed h j (subst IsTrue (mid_has h) s) e l)
        by h j e l (inr w) = inr w

  -- when none waits, the walk has seen what is reached
  module _ (w : Walk) (none : w.waiting.items ≡ []) (k : IsWalking rows p g w) where
    seen_all : (i : Pi) → Reach rows p g i → IsTrue (has w.seen i)
    seen_all i (by_goal j l) = k.goal j l
    seen_all i (by_clause h j r e l) = by (k.closed h j (seen_all h r) e l)
      where
        by : IsTrue (has w.seen j) ⊎ IsTrue (among h w.waiting.items) → IsTrue (has w.seen j)
        by (inl s) = s
        by (inr a) = absurd (differ (sym (subst (λ (is : List Pi). IsTrue (among h is)) none a)))

    pub walking_ends : TellsReach rows p g (has w.seen)
    walking_ends = λ i. (k.reached i, seen_all i)

-- nothing was seen at first
pub none_seen : (m : ByArity) → m.entries ≡ [] → (i : Pi) → has m i ≡ false
none_seen m e i = ap (λ (es : List (ℕ × Names)). option_map_or (λ (names : Names). contains_text names i.name) (lookup (is_at (nat_cmp i.arity)) es) false) e
