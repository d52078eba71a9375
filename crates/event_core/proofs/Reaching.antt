-- The events of a query as far as a number of steps reaches.
use Rattle.std.proofs.Common.{◌≡◌, ℕ, suc, ◌≤◌, ◌<◌, Bool, true, false, List, [], ◌∷◌, ◌++◌, nat_lt, ◌&&◌, if◌then◌else◌, min, Option, Some, None, refl, ap, sym, subst, ◌∙◌, append-nil, arith, ◌⊎◌, inl, inr}
use Rattle.std.specs.List.{All, AllByRecursion}
use Rattle.std.proofs.lemmas.Bool.{lt-ltb, le-ltb, cases_lt}
use Rattle.std.proofs.lemmas.List.Elements.{All-from_recursion}
use Rattle.term_core.specs.Tree.{Tree}
use Rattle.term_core.specs.Variables.{numbered}
use Rattle.program.specs.Loaded.{Loaded}
use Rattle.solve_model.specs.Goals.{Ready, Runs, Throws, ready}
use Rattle.solve_model.specs.Run.{Mark, End, Failed, Cut, Thrown, Waits, Spent, Outside, Used, Ran, Goal, ends, after, at_cut, run, start, unused, query}
use Rattle.solve_model.specs.Trace.{world_of, mark_shown, marks_shown, end_shown, traced}
use Rattle.solve_model.proofs.RunLaws.{AllFrom, AllUpTo, IsTimed, IsLonger, run_timed, run_grows_on}
use Rattle.event_core.specs.declared.stop.Stop.{Stop}
use Rattle.event_core.specs.declared.stop.Stop.TheVariants.{Ball}
use Rattle.event_core.specs.Stops.{is_followed, at_end, end_stop, stops_of, trace_stops, resource_error, stop_fits, cut_at, is_spent}
use Rattle.event_core.specs.Reaching.{IsBegun}

abbrev Marks : Type 0
Marks = List (ℕ × Mark)

-- ---- a run with fewer steps

-- where the steps of a were used up, n of them, b went on after more
pub record WentOn (n : ℕ) (a b : Ran) : Type 0 where
  pub spent : a.end ≡ Spent
  pub more : Marks
  pub is : b.marks ≡ a.marks ++ more
  pub later : (n < b.used.steps) × AllFrom (suc n) more

-- a query's own cut makes no mark and no step
cut_quiet : (e : End) (u : Used) → ((at_cut 1 e u).marks ≡ []) × ((at_cut 1 e u).used ≡ u)
cut_quiet Failed u = (refl, refl)
cut_quiet (Cut l) u = (refl, refl)
cut_quiet (Thrown b l) u = (refl, refl)
cut_quiet Waits u = (refl, refl)
cut_quiet Spent u = (refl, refl)
cut_quiet (Outside i) u = (refl, refl)

cut_goes_on : (n : ℕ) (a b : Ran) → IsLonger (λ e. e ≡ Spent) n a b → (after a (at_cut 1) ≡ after b (at_cut 1)) ⊎ WentOn n (after a (at_cut 1)) (after b (at_cut 1))
cut_goes_on n a b (inl e) = inl (ap (λ (x : Ran). after x (at_cut 1)) e)
cut_goes_on n a b (inr g) = inr (record {
  spent = ap (λ e. (at_cut 1 e a.used).end) g.stopped;
  more = g.more;
  is =
      ap (λ l. b.marks ++ l) (cut_quiet b.end b.used).0
      ∙ append-nil b.marks
      ∙ g.is
      ∙ ap (λ l. l ++ g.more) (sym (ap (λ l. a.marks ++ l) (cut_quiet a.end a.used).0 ∙ append-nil a.marks));
  later = (subst (λ (u : Used). n < u.steps) (sym (cut_quiet b.end b.used).1) (g.later g.stopped).0, (g.later g.stopped).1);
})

module _ (cs : Loaded) (ts : List Tree) (g t : Tree) where
  abbrev at : ℕ → Ran
  at n = query (world_of cs ts n) g t

  pub query_goes_on : (n l : ℕ) → n ≤ l → (at n ≡ at l) ⊎ WentOn n (at n) (at l)
  unfolding query
  query_goes_on n l h = go (ready g)
    where
      go : (x : Ready) → ((elim x as (λ y. Ran) [
        | Runs k ↦ after (run (world_of cs ts n) n (Goal k 1 false ∷ []) (start g t) false unused) (at_cut 1)
        | Throws b ↦ ends (Thrown (numbered b) 0) unused
      ]) ≡ (elim x as (λ y. Ran) [
        | Runs k ↦ after (run (world_of cs ts l) l (Goal k 1 false ∷ []) (start g t) false unused) (at_cut 1)
        | Throws b ↦ ends (Thrown (numbered b) 0) unused
      ])) ⊎ WentOn n (elim x as (λ y. Ran) [
        | Runs k ↦ after (run (world_of cs ts n) n (Goal k 1 false ∷ []) (start g t) false unused) (at_cut 1)
        | Throws b ↦ ends (Thrown (numbered b) 0) unused
      ]) (elim x as (λ y. Ran) [
        | Runs k ↦ after (run (world_of cs ts l) l (Goal k 1 false ∷ []) (start g t) false unused) (at_cut 1)
        | Throws b ↦ ends (Thrown (numbered b) 0) unused
      ])
      go (Runs k) =
          cut_goes_on n _ _
          ((run_grows_on (λ e. e ≡ Spent) (λ e x. inr x) n (world_of cs ts n) (world_of cs ts l) refl refl refl (λ i. inl refl) h (λ i. refl) refl n l 0 (omega arith) (omega arith) (Goal k 1 false ∷ []) (start g t) false unused (omega arith)).1)
      go (Throws b) = inl refl

  -- within the limit
  pub query_in_time : (n : ℕ) → AllUpTo n (at n).marks × ((at n).used.steps ≤ n)
  unfolding query
  query_in_time n = go (ready g)
    where
      go : (x : Ready) → AllUpTo n (elim x as (λ y. Ran) [
        | Runs k ↦ after (run (world_of cs ts n) n (Goal k 1 false ∷ []) (start g t) false unused) (at_cut 1)
        | Throws b ↦ ends (Thrown (numbered b) 0) unused
      ]).marks × ((elim x as (λ y. Ran) [
        | Runs k ↦ after (run (world_of cs ts n) n (Goal k 1 false ∷ []) (start g t) false unused) (at_cut 1)
        | Throws b ↦ ends (Thrown (numbered b) 0) unused
      ]).used.steps ≤ n)
      go (Runs k) =
          let a : Ran = run (world_of cs ts n) n (Goal k 1 false ∷ []) (start g t) false unused in
          let timed : IsTimed n unused a = run_timed (world_of cs ts n) n (Goal k 1 false ∷ []) (start g t) false unused in (
            subst (AllUpTo n) (sym (ap (λ l. a.marks ++ l) (cut_quiet a.end a.used).0 ∙ append-nil a.marks)) (timed.up_to (omega arith)),
            subst (λ (u : Used). u.steps ≤ n) (sym (cut_quiet a.end a.used).1) (timed.within (omega arith)),
          )
      go (Throws b) = (tt, omega arith)

-- ---- the steps of stops

-- P holds of the step of each
abbrev pub Each : {A : Type 0} → (ℕ → Type 0) → List (ℕ × A) → Type 0
Each P xs = AllByRecursion (λ x. P x.0) xs

from_marks : (n : ℕ) (ms : Marks) → AllFrom n ms → Each (λ k. n ≤ k) ms
from_marks n [] h = tt
from_marks n (m ∷ ms) h = (h.0, from_marks n ms h.1)

up_to_marks : (n : ℕ) (ms : Marks) → AllUpTo n ms → Each (λ k. k ≤ n) ms
up_to_marks n [] h = tt
up_to_marks n (m ∷ ms) h = (h.0, up_to_marks n ms h.1)

each_more : (P Q : ℕ → Type 0) → ((k : ℕ) → P k → Q k) → (ms : Marks) → Each P ms → Each Q ms
each_more P Q f [] h = tt
each_more P Q f (m ∷ ms) h = (f m.0 h.0, each_more P Q f ms h.1)

module _ (fits : Tree → Bool) (t : Tree) (P : ℕ → Type 0) where
  abbrev Stops : Type 0
  Stops = List (ℕ × Stop)

  stops_each : (ms : Marks) (es : Stops) → Each P ms → Each P es → Each P (stops_of (marks_shown t ms) es)
  unfolding stops_of
  stops_each [] es h k = k
  stops_each (m ∷ ms) es h k = (h.0, go (is_followed (mark_shown t m.1)) (stops_each ms es h.1 k))
    where
      go : (o : Bool) → Each P (stops_of (marks_shown t ms) es) → Each P (elim o as (λ x. Stops) [ true ↦ stops_of (marks_shown t ms) es | false ↦ [] ])
      go true g = g
      go false g = tt

  cut_each : (ps : Stops) → Each P ps → Each P (cut_at fits ps)
  unfolding cut_at
  cut_each [] h = tt
  cut_each (p ∷ ps) h = go (stop_fits fits p.1) (cut_each ps h.1)
    where
      go : (b : Bool) → Each P (cut_at fits ps) → Each P (elim b as (λ x. Stops) [ true ↦ p ∷ cut_at fits ps | false ↦ (p.0, Ball resource_error) ∷ [] ])
      go true g = (h.0, g)
      go false g = (h.0, tt)

  end_each : (k : ℕ) (s : Option Stop) → P k → Each P (at_end k s)
  end_each k None h = tt
  end_each k (Some s) h = (h, tt)

  -- the first begin the second, and of the steps of further ones P holds
  record Begins (xs ys : Stops) : Type 0 where
    rest : Stops
    is : ys ≡ xs ++ rest
    each : Each P rest

  begins_one : (x : ℕ × Stop) (xs ys : Stops) → Begins xs ys → Begins (x ∷ xs) (x ∷ ys)
  begins_one x xs ys h = record { rest = h.rest; is = ap (λ l. x ∷ l) h.is; each = h.each }

  begins_self : (xs : Stops) → Begins xs xs
  begins_self xs = record { rest = []; is = sym (append-nil xs); each = tt }

  stops_begin : (ms more : Marks) (es : Stops) → Each P more → Each P es → Begins (stops_of (marks_shown t ms) []) (stops_of (marks_shown t (ms ++ more)) es)
  unfolding stops_of
  stops_begin [] more es h k = record { rest = stops_of (marks_shown t more) es; is = refl; each = stops_each more es h k }
  stops_begin (m ∷ ms) more es h k = begins_one _ _ _ (go (is_followed (mark_shown t m.1)) (stops_begin ms more es h k))
    where
      go : (o : Bool) → Begins (stops_of (marks_shown t ms) []) (stops_of (marks_shown t (ms ++ more)) es) →
          Begins (elim o as (λ x. Stops) [ true ↦ stops_of (marks_shown t ms) [] | false ↦ [] ]) (elim o as (λ x. Stops) [ true ↦ stops_of (marks_shown t (ms ++ more)) es | false ↦ [] ])
      go true g = g
      go false g = begins_self []

  cut_begins : (ps qs : Stops) → Each P qs → Begins (cut_at fits ps) (cut_at fits (ps ++ qs))
  unfolding cut_at
  cut_begins [] qs h = record { rest = cut_at fits qs; is = refl; each = cut_each qs h }
  cut_begins (p ∷ ps) qs h = go (stop_fits fits p.1) (cut_begins ps qs h)
    where
      go : (b : Bool) → Begins (cut_at fits ps) (cut_at fits (ps ++ qs)) →
          Begins (elim b as (λ x. Stops) [ true ↦ p ∷ cut_at fits ps | false ↦ (p.0, Ball resource_error) ∷ [] ]) (elim b as (λ x. Stops) [ true ↦ p ∷ cut_at fits (ps ++ qs) | false ↦ (p.0, Ball resource_error) ∷ [] ])
      go true g = begins_one p (cut_at fits ps) (cut_at fits (ps ++ qs)) g
      go false g = begins_self _

  abbrev stops_in : Ran → Stops
  stops_in a = cut_at fits (trace_stops (traced t a))

  abbrev known : Ran → Stops
  known a = cut_at fits (stops_of (marks_shown t a.marks) [])

  -- the marks of a run begin the stops of one that goes on
  go_on : (a b : Ran) (more : Marks) → b.marks ≡ a.marks ++ more → Each P more → P b.used.steps → Begins (known a) (stops_in b)
  go_on a b more e h k =
      let es : Stops = at_end b.used.steps (end_stop (end_shown b.end)) in
      let s : Begins (stops_of (marks_shown t a.marks) []) (stops_of (marks_shown t (a.marks ++ more)) es) = stops_begin a.marks more es h (end_each b.used.steps (end_stop (end_shown b.end)) k) in
      subst (λ ps. Begins (known a) (cut_at fits ps)) (sym (ap (λ ms. stops_of (marks_shown t ms) es) e ∙ s.is)) (cut_begins (stops_of (marks_shown t a.marks) []) s.rest s.each)

  pub stops_all : (a : Ran) → Each P a.marks → P a.used.steps → Each P (stops_in a)
  stops_all a h k = cut_each _ (stops_each a.marks _ h (end_each a.used.steps (end_stop (end_shown a.end)) k))

  pub known_all : (a : Ran) → Each P a.marks → Each P (known a)
  known_all a h = cut_each _ (stops_each a.marks [] h tt)

-- ---- a query with fewer steps than its limit

module _ (cs : Loaded) (rs : List Tree) (g t : Tree) (fits : Tree → Bool) where
  abbrev pub ran : ℕ → Ran
  ran n = query (world_of cs rs n) g t

  -- the stops that are told of a run that may be cut off at its end
  abbrev pub told_stops : Bool → Ran → List (ℕ × Stop)
  told_stops cut a = cut_at fits (stops_of (marks_shown t a.marks) (at_end a.used.steps (if cut then None else end_stop (end_shown a.end))))

  spent_shows : (e : End) → e ≡ Spent → is_spent (end_shown e) ≡ true
  spent_shows e h = ap (λ x. is_spent (end_shown x)) h

  shows_spent : (e : End) → is_spent (end_shown e) ≡ true → e ≡ Spent
  shows_spent Failed h = cc
  shows_spent (Cut l) h = cc
  shows_spent (Thrown b l) h = cc
  shows_spent Waits h = cc
  shows_spent Spent h = refl
  shows_spent (Outside i) h = cc

  module _ (steps l m : ℕ) (least : m ≡ min steps l) (cut : Bool) (cut_is : cut ≡ (nat_lt steps l && is_spent (end_shown (ran m).end))) where
    m_is : m ≤ l
    m_is = omega (arith, least)

    cut_fewer : steps < l → cut ≡ is_spent (end_shown (ran m).end)
    cut_fewer h = cut_is ∙ ap (λ (b : Bool). b && is_spent (end_shown (ran m).end)) (lt-ltb steps l h)

    cut_not : l ≤ steps → cut ≡ false
    cut_not h = cut_is ∙ ap (λ (b : Bool). b && is_spent (end_shown (ran m).end)) (le-ltb steps l h)

    pub whole : cut ≡ false → told_stops cut (ran m) ≡ told_stops false (ran l)
    whole isnt = ap (λ (b : Bool). told_stops b (ran m)) isnt ∙ ap (told_stops false) (go (cases_lt steps l))
      where
        fewer : steps < l → (ran m ≡ ran l) ⊎ WentOn m (ran m) (ran l) → ran m ≡ ran l
        fewer k (inl e) = e
        fewer k (inr x) = absurd (differ (sym (spent_shows (ran m).end x.spent) ∙ sym (cut_fewer k) ∙ isnt))
          where
            differ : true ≡ false → ⊥
            differ e = cc

        go : (steps < l) ⊎ (l ≤ steps) → ran m ≡ ran l
        go (inl k) = fewer k (query_goes_on cs rs g t m l m_is)
        go (inr k) = ap ran (let e : m ≡ l = omega (arith, least, k) in e)

    pub fewer_steps : cut ≡ true → steps < l
    fewer_steps is = go (cases_lt steps l)
      where
        differ : true ≡ false → ⊥
        differ e = cc

        go : (steps < l) ⊎ (l ≤ steps) → steps < l
        go (inl k) = k
        go (inr k) = absurd (differ (sym is ∙ cut_not k))

    pub begun : cut ≡ true → steps ≤ (ran m).used.steps → IsBegun steps (told_stops cut (ran m)) (told_stops false (ran l))
    begun is used = go (query_goes_on cs rs g t m l m_is)
      where
        P : ℕ → Type 0
        P i = steps ≤ i

        k : steps < l
        k = fewer_steps is

        m_steps : m ≡ steps
        m_steps = omega (arith, least, k)

        same : told_stops cut (ran m) ≡ known fits t P (ran m)
        same = ap (λ (b : Bool). told_stops b (ran m)) is

        by : (more : Marks) → (ran l).marks ≡ (ran m).marks ++ more → Each P more → P (ran l).used.steps → IsBegun steps (told_stops cut (ran m)) (told_stops false (ran l))
        by more e h u =
            let b : Begins fits t P (known fits t P (ran m)) (stops_in fits t P (ran l)) = go_on fits t P (ran m) (ran l) more e h u in
            record { further = b.rest; are = b.is ∙ ap (λ ps. ps ++ b.rest) (sym same); later = All-from_recursion (λ x. steps ≤ x.0) b.rest b.each }

        go : (ran m ≡ ran l) ⊎ WentOn m (ran m) (ran l) → IsBegun steps (told_stops cut (ran m)) (told_stops false (ran l))
        go (inl e) = by [] (ap (λ (a : Ran). a.marks) (sym e) ∙ sym (append-nil (ran m).marks)) tt (subst (λ (a : Ran). steps ≤ a.used.steps) e used)
        go (inr x) = by x.more x.is (each_more (λ i. suc m ≤ i) P (λ i q. omega (arith, q, m_steps)) x.more (from_marks (suc m) x.more x.later.1)) (omega (arith, x.later.0, m_steps))

  -- the stops of a run come within its limit
  pub in_time : (m : ℕ) (cut : Bool) → All (λ x. x.0 ≤ m) (told_stops cut (ran m))
  in_time m cut =
      let h : AllUpTo m (ran m).marks × ((ran m).used.steps ≤ m) = query_in_time cs rs g t m in
      All-from_recursion (λ x. x.0 ≤ m) (told_stops cut (ran m)) (each_told cut (up_to_marks m (ran m).marks h.0) h.1)
    where
      each_told : (b : Bool) → Each (λ k. k ≤ m) (ran m).marks → (ran m).used.steps ≤ m → Each (λ k. k ≤ m) (told_stops b (ran m))
      each_told true h u = known_all fits t (λ k. k ≤ m) (ran m) h
      each_told false h u = stops_all fits t (λ k. k ≤ m) (ran m) h u
