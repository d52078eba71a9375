-- The steps of a query's marks never fall, and so those of its stops and of its events.
use Rattle.std.proofs.Common.{ℕ, zero, suc, ◌≤◌, ◌<◌, Bool, true, false, cond, List, [], ◌∷◌, ◌++◌, filter, slice_get, Option, Some, None, refl, sym, subst, arith, ◌⊎◌, inl, inr}
use Rattle.std.specs.Prelude.{AllPairs}
use Rattle.std.proofs.lemmas.Bool.{cases_lt}
use Rattle.std.proofs.lemmas.List.Elements.{All-from_recursion}
use Rattle.std.proofs.lemmas.List.Kept.{AllPairs-cons}
use Rattle.term_core.specs.Tree.{Tree}
use Rattle.term_core.specs.Variables.{numbered}
use Rattle.solve_model.specs.Goals.{Ready, Runs, Throws, ready}
use Rattle.solve_model.specs.Run.{World, Item, Goal, End, Waits, Failed, Spent, Mark, Told, Asked, Thrown, marked, one_reply, if_replied, Place, Used, Ran, ends, after, at_cut, one_more, taken, run, start, unused, query, is_shown_outside, without_answers}
use Rattle.solve_model.specs.Trace.{mark_shown, marks_shown, end_shown}
use Rattle.solve_model.proofs.Relate.{PassesStops, NotWaits, IsKept, item_kept, cut_kept, cut_passes}
use Rattle.solve_model.proofs.RunLaws.{taken_before, taken_at_limit}
use Rattle.event_core.specs.declared.stop.Stop.{Stop}
use Rattle.event_core.specs.declared.stop.Stop.TheVariants.{Ball}
use Rattle.event_core.specs.declared.request.Request.{Request}
use Rattle.event_core.specs.Stops.{mark_stop, is_followed, at_end, end_stop, stops_of, resource_error, stop_fits, cut_at, stops}
use Rattle.event_core.specs.Parts.{Style, part_of, part, replies}
use Rattle.event_core.specs.Laws.{StepsNeverFall}
use Rattle.event_core.proofs.Reaching.{Each}
use Rattle.event_core.proofs.Keeping.{events_each, step_keeps}

abbrev Marks : Type 0
Marks = List (ℕ × Mark)

-- ---- lists whose steps never fall

abbrev From : {A : Type 0} → ℕ → List (ℕ × A) → Type 0
From n xs = Each (λ k. n ≤ k) xs

abbrev UpTo : {A : Type 0} → ℕ → List (ℕ × A) → Type 0
UpTo n xs = Each (λ k. k ≤ n) xs

unfoldable pub Rises : {A : Type 0} → List (ℕ × A) → Type 0
Rises [] = Unit {0}
Rises (x ∷ xs) = From x.0 xs × Rises xs

module _ {A : Type 0} where
  weaker : (P Q : ℕ → Type 0) → ((k : ℕ) → P k → Q k) → (xs : List (ℕ × A)) → Each P xs → Each Q xs
  weaker P Q f [] h = tt
  weaker P Q f (x ∷ xs) h = (f x.0 h.0, weaker P Q f xs h.1)

  each_append : (P : ℕ → Type 0) (xs ys : List (ℕ × A)) → Each P xs → Each P ys → Each P (xs ++ ys)
  each_append P [] ys h k = k
  each_append P (x ∷ xs) ys h k = (h.0, each_append P xs ys h.1 k)

  rises_one : (x : ℕ × A) (xs : List (ℕ × A)) → From x.0 xs → Rises xs → Rises (x ∷ xs)
  unfolding Rises
  rises_one x xs h k = (h, k)

  rises_append : (n : ℕ) (xs ys : List (ℕ × A)) → Rises xs → UpTo n xs → From n ys → Rises ys → Rises (xs ++ ys)
  unfolding Rises
  rises_append n [] ys h u f k = k
  rises_append n (x ∷ xs) ys h u f k =
      (each_append (λ i. x.0 ≤ i) xs ys h.0 (weaker (λ i. n ≤ i) (λ i. x.0 ≤ i) (λ i q. omega (arith, q, u.0)) ys f), rises_append n xs ys h.1 u.1 f k)

  pairs : (xs : List (ℕ × A)) → Rises xs → AllPairs (λ x y. x.0 ≤ y.0) xs
  unfolding Rises
  pairs [] h = λ i j d lt within. absurd (omega (arith, within))
  pairs (x ∷ xs) h = AllPairs-cons (λ a b. a.0 ≤ b.0) x xs (All-from_recursion (λ y. x.0 ≤ y.0) xs h.0) (pairs xs h.1)

-- ---- the marks of runs

-- a run that began at u
record IsRising (u : Used) (a : Ran) : Type 0 where
  rises : u.steps ≤ a.used.steps
  from : From u.steps a.marks
  up_to : UpTo a.used.steps a.marks
  marks : Rises a.marks

ends_rising : (e : End) (u : Used) → IsRising u (ends e u)
unfolding Rises
ends_rising e u = record { rises = omega arith; from = tt; up_to = tt; marks = tt }

after_rising : (u : Used) (a : Ran) (k : End → Used → Ran) → IsRising u a → IsRising a.used (k a.end a.used) → IsRising u (after a k)
after_rising u a k g h = record {
  rises = omega (arith, g.rises, h.rises);
  from = each_append (λ i. u.steps ≤ i) a.marks _ g.from (weaker (λ i. a.used.steps ≤ i) (λ i. u.steps ≤ i) (λ i q. omega (arith, q, g.rises)) _ h.from);
  up_to = each_append (λ i. i ≤ (k a.end a.used).used.steps) a.marks _ (weaker (λ i. i ≤ a.used.steps) (λ i. i ≤ (k a.end a.used).used.steps) (λ i q. omega (arith, q, h.rises)) a.marks g.up_to) h.up_to;
  marks = rises_append a.used.steps a.marks _ g.marks g.up_to h.from h.marks;
}

marked_rising : (m : Mark) (u : Used) (a : Ran) → IsRising u a → IsRising u (marked m u a)
marked_rising m u a h = record {
  rises = h.rises;
  from = (omega arith, h.from);
  up_to = (h.rises, h.up_to);
  marks = rises_one (u.steps, m) a.marks h.from h.marks;
}

if_replied_rising : (r : Option Tree) (u : Used) (go : Tree → Ran) → ((t : Tree) → IsRising (one_reply u) (go t)) → IsRising u (if_replied r u go)
if_replied_rising (Some t) u go h = record { rises = (h t).rises; from = (h t).from; up_to = (h t).up_to; marks = (h t).marks }
if_replied_rising None u go h = ends_rising Waits u

abbrev is_outer : ℕ × Mark → Bool
is_outer m = is_shown_outside m.1

outer_each : (P : ℕ → Type 0) (xs : Marks) → Each P xs → Each P (filter is_outer xs)
outer_each P [] h = tt
outer_each P (x ∷ xs) h = by (outer_each P xs h.1) (is_outer x)
  where
    by : Each P (filter is_outer xs) → (b : Bool) → Each P (cond b (x ∷ filter is_outer xs) (filter is_outer xs))
    by g true = (h.0, g)
    by g false = g

outer_rises : (xs : Marks) → Rises xs → Rises (filter is_outer xs)
unfolding Rises
outer_rises [] h = tt
outer_rises (x ∷ xs) h = by (outer_each (λ i. x.0 ≤ i) xs h.0) (outer_rises xs h.1) (is_outer x)
  where
    by : From x.0 (filter is_outer xs) → Rises (filter is_outer xs) → (b : Bool) → Rises (cond b (x ∷ filter is_outer xs) (filter is_outer xs))
    by f g true = (f, g)
    by f g false = g

outer_rising : (u : Used) (a : Ran) → IsRising u a → IsRising u (without_answers a)
outer_rising u a h = record {
  rises = h.rises;
  from = outer_each (λ i. u.steps ≤ i) a.marks h.from;
  up_to = outer_each (λ i. i ≤ a.used.steps) a.marks h.up_to;
  marks = outer_rises a.marks h.marks;
}

-- at a stop, or else by what is done at other ends
at_stop : (k : End → Used → Ran) (e : End) (v : Used) → PassesStops k → (NotWaits e → IsRising v (k e v)) → IsRising v (k e v)
at_stop k Waits v ps g = subst (IsRising v) (sym (ps.waits v)) (ends_rising Waits v)
at_stop k Failed v ps g = g tt
at_stop k (End.Cut l) v ps g = g tt
at_stop k (End.Thrown b l) v ps g = g tt
at_stop k Spent v ps g = g tt
at_stop k (End.Outside i) v ps g = g tt

rising_kept : (w : World) → IsKept (λ u a b. IsRising u a) w w
rising_kept w = record {
  at_end = λ e x u. ends_rising e u;
  at_after = λ u a a' k k' h ps ps' step. after_rising u a k h (at_stop k a.end a.used ps (λ x. step a.end x a.used));
  at_told = λ t u a a' h. marked_rising (Told t) u a h;
  at_asked = λ q u go go' h. marked_rising (Asked q) u _ (if_replied_rising (slice_get w.replies u.replies) u go h);
  at_answers = λ u a a' k k' h ps ps' step. after_rising u (without_answers a) (k a.marks) (outer_rising u a h) (at_stop (k a.marks) a.end a.used (ps a.marks) (λ x. step a.marks a.end x a.used));
  same_clauses = refl;
  same_primitive = refl;
  same_outside = refl;
}

-- after one step more
rising_later : (u : Used) (a : Ran) → IsRising (one_more u) a → IsRising u a
rising_later u a h = record {
  rises = omega (arith, h.rises);
  from = weaker (λ i. suc u.steps ≤ i) (λ i. u.steps ≤ i) (λ i q. omega (arith, q)) a.marks h.from;
  up_to = h.up_to;
  marks = h.marks;
}

run_rising : (w : World) (d : ℕ) (is : List Item) (p : Place) (o : Bool) (u : Used) → IsRising u (run w d is p o u)
unfolding run
run_rising w zero [] p o u = marked_rising _ u _ (ends_rising Failed u)
run_rising w (suc d) [] p o u = marked_rising _ u _ (ends_rising Failed u)
run_rising w zero (i ∷ is) p o u = ends_rising Spent u
run_rising w (suc d) (i ∷ is) p o u = go (cases_lt u.steps w.limit) (λ js q b v. run_rising w d js q b v)
  where
    go : (u.steps < w.limit) ⊎ (w.limit ≤ u.steps) → ((js : List Item) (q : Place) (b : Bool) (v : Used) → IsRising v (run w d js q b v)) → IsRising u (taken w (run w d) i is p o u)
    go (inl k) ih = rw (taken_before w (run w d) i is p o u k) (rising_later u _ (item_kept (λ v a b. IsRising v a) w w (rising_kept w) (run w d) (run w d) ih i is p o (one_more u)))
    go (inr k) ih = rw (taken_at_limit w (run w d) i is p o u k) (ends_rising Spent u)

query_rising : (w : World) (g t : Tree) → IsRising unused (query w g t)
unfolding query
query_rising w g t = go (ready g)
  where
    go : (r : Ready) → IsRising unused (elim r as (λ x. Ran) [
      | Runs h ↦ after (run w w.limit (Goal h 1 false ∷ []) (start g t) false unused) (at_cut 1)
      | Throws b ↦ ends (Thrown (numbered b) 0) unused
    ])
    go (Runs h) =
        let a : Ran = run w w.limit (Goal h 1 false ∷ []) (start g t) false unused in
        after_rising unused a (at_cut 1) (run_rising w w.limit (Goal h 1 false ∷ []) (start g t) false unused)
        (at_stop (at_cut 1) a.end a.used (cut_passes 1) (λ x. cut_kept (λ v b c. IsRising v b) w w (rising_kept w) 1 a.end x a.used))
    go (Throws b) = ends_rising _ unused

-- ---- the stops and the events

module _ (fits : Tree → Bool) (t : Tree) where
  abbrev Stops : Type 0
  Stops = List (ℕ × Stop)

  abbrev Up : ℕ → Stops → Type 0
  Up n ps = From n ps × Rises ps

  end_up : (n k : ℕ) (s : Option Stop) → n ≤ k → Up n (at_end k s)
  unfolding Rises
  end_up n k None h = (tt, tt)
  end_up n k (Some s) h = ((h, tt), (tt, tt))

  stops_up : (n : ℕ) (ms : Marks) (es : Stops) → From n ms → Rises ms → (last : ℕ) → n ≤ last → UpTo last ms → Up last es → Up n (stops_of (marks_shown t ms) es)
  unfolding stops_of Rises
  stops_up n [] es f r last l u e = (weaker (λ i. last ≤ i) (λ i. n ≤ i) (λ i q. omega (arith, q, l)) es e.0, e.1)
  stops_up n (m ∷ ms) es f r last l u e =
      let ih : Up m.0 (stops_of (marks_shown t ms) es) = stops_up m.0 ms es r.0 r.1 last u.0 u.1 e in
      by (is_followed (mark_shown t m.1)) ih
    where
      by : (o : Bool) → Up m.0 (stops_of (marks_shown t ms) es) → Up n ((m.0, mark_stop (mark_shown t m.1)) ∷ elim o as (λ x. Stops) [ true ↦ stops_of (marks_shown t ms) es | false ↦ [] ])
      by true g = ((f.0, weaker (λ i. m.0 ≤ i) (λ i. n ≤ i) (λ i q. omega (arith, q, f.0)) _ g.0), g)
      by false g = ((f.0, tt), (tt, tt))

  cut_up : (n : ℕ) (ps : Stops) → Up n ps → Up n (cut_at fits ps)
  unfolding cut_at Rises
  cut_up n [] h = h
  cut_up n (p ∷ ps) h = by (stop_fits fits p.1) (cut_up p.0 ps h.1)
    where
      by : (b : Bool) → Up p.0 (cut_at fits ps) → Up n (elim b as (λ x. Stops) [ true ↦ p ∷ cut_at fits ps | false ↦ (p.0, Ball resource_error) ∷ [] ])
      by true g = ((h.0.0, weaker (λ i. p.0 ≤ i) (λ i. n ≤ i) (λ i q. omega (arith, q, h.0.0)) _ g.0), g)
      by false g = ((h.0.0, tt), (tt, tt))

events_rise : (style : Style) (ps : List (ℕ × Stop)) → Rises ps → (c : ℕ) (held : List Tree) (rs : List Request) → Rises (part_of style ps c held rs).events
unfolding part_of Rises
events_rise style [] h c held rs = tt
events_rise style (p ∷ ps) h c held rs =
    (step_keeps p.0 (λ q. From p.0 q.events × Rises q.events) (λ r qs. (tt, tt)) (λ e q g. ((omega arith, g.0), g)) style (part_of style ps)
    (λ d hs qs. (events_each (λ k. p.0 ≤ k) style ps h.0 d hs qs, events_rise style ps h.1 d hs qs)) p.1 c held rs).1

stops_rise : (w : World) (fits : Tree → Bool) (g t : Tree) → Rises (stops fits w g t)
stops_rise w fits g t =
    let a : Ran = query w g t in
    let r : IsRising unused a = query_rising w g t in
    let es : List (ℕ × Stop) = at_end a.used.steps (end_stop (end_shown a.end)) in
    let e : Up fits t a.used.steps es = end_up fits t a.used.steps a.used.steps (end_stop (end_shown a.end)) (omega arith) in
    (cut_up fits t 0 _ (stops_up fits t 0 a.marks es r.from r.marks a.used.steps (omega arith) r.up_to e)).1

pub steps_never_fall : StepsNeverFall
unfolding part
steps_never_fall w fits style g t c rs =
    pairs (part w fits style g t c rs).events (events_rise style (stops fits (record w { replies = replies rs }) g t) (stops_rise (record w { replies = replies rs }) fits g t) c [] rs)
