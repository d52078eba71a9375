-- More steps, more replies and more requests lengthen the stops and the events of a query.
use Rattle.std.proofs.Common.{◌≡◌, ℕ, zero, suc, slice_get, Bool, true, false, List, [], ◌∷◌, ◌++◌, refl, ap, sym, subst, ◌∙◌, append_assoc, append-nil, arith, ◌⊎◌, inl, inr}
use Rattle.std.proofs.lemmas.List.{map-append}
use Rattle.std.proofs.lemmas.List.Elements.{filter_map-append}
use Rattle.term_core.specs.Tree.{Tree}
use Rattle.term_core.specs.Variables.{numbered}
use Rattle.solve_model.specs.Goals.{Ready, Runs, Throws, ready}
use Rattle.solve_model.specs.Run.{World, Ran, Goal, Thrown, Waits, ends, after, at_cut, run, start, unused, query}
use Rattle.solve_model.specs.Laws as runs
use Rattle.solve_model.specs.Laws.{IsStopped, widened}
use Rattle.solve_model.specs.Trace.{marks_shown, end_shown, traced}
use Rattle.solve_model.specs.declared.answers.TraceMark.{TraceMark}
use Rattle.solve_model.specs.declared.answers.TraceMark.TheVariants as shown
use Rattle.solve_model.proofs.RunLaws as lengths
use Rattle.solve_model.proofs.RunLaws.{IsFurther, IsLonger, run_grows_on}
use Rattle.event_core.specs.declared.stop.Stop.{Stop}
use Rattle.event_core.specs.declared.stop.Stop.TheVariants.{Ball, Limit}
use Rattle.event_core.specs.declared.request.Request.{Request}
use Rattle.event_core.specs.Stops.{mark_stop, is_followed, at_end, end_stop, stops_of, trace_stops, resource_error, stop_fits, cut_at, stops}
use Rattle.event_core.specs.Parts.{part_of, part, reply, replies}
use Rattle.event_core.specs.Laws.{Begins, is_limit, before_limit, replying, RequestsOnlyAdd, StepsOnlyAdd}
use Rattle.event_core.proofs.Parts.{begins_self, begins_cons, begins_none, begins_trans, stops_begin, cut_begins, further_only_adds}

-- the second run is the first, or the first waited and the second went on
abbrev Waited : Ran → Ran → Type 0
Waited a b = (a ≡ b) ⊎ ((a.end ≡ Waits) × runs.Begins a.marks b.marks)

cut_waited : (n : ℕ) (a b : Ran) → IsLonger (λ e. e ≡ Waits) n a b → Waited (after a (at_cut 1)) (after b (at_cut 1))
cut_waited n a b (inl e) = inl (ap (λ (x : Ran). after x (at_cut 1)) e)
cut_waited n a b (inr g) =
    let none : at_cut 1 a.end a.used ≡ ends Waits a.used = ap (λ e. at_cut 1 e a.used) g.stopped in
    inr (
      ap (λ (x : Ran). x.end) none,
      (
        g.more ++ (at_cut 1 b.end b.used).marks,
        ap (λ l. l ++ (at_cut 1 b.end b.used).marks) g.is
            ∙ append_assoc a.marks g.more (at_cut 1 b.end b.used).marks
            ∙ ap (λ l. l ++ (g.more ++ (at_cut 1 b.end b.used).marks)) (sym (ap (λ (x : Ran). a.marks ++ x.marks) none ∙ append-nil a.marks)),
      ),
    )

-- one reply more lets a run that waited go on
waits_further : (ts us : List Tree) (k : ℕ) → IsFurther (λ e. e ≡ Waits) (slice_get ts k) (slice_get (ts ++ us) k)
waits_further [] us k = inr (refl, refl)
waits_further (t ∷ ts) us zero = inl refl
waits_further (t ∷ ts) us (suc k) = waits_further ts us k

module _ (w : World) (ts us : List Tree) where
  abbrev first : World
  first = record w { replies = ts }

  abbrev second : World
  second = record w { replies = ts ++ us }

  -- with more replies a query is the same, or it waited
  query_waited : (g t : Tree) → Waited (query first g t) (query second g t)
  unfolding query
  query_waited g t = go (ready g)
    where
      go : (x : Ready) → Waited (elim x as (λ y. Ran) [
        | Runs h ↦ after (run first w.limit (Goal h 1 false ∷ []) (start g t) false unused) (at_cut 1)
        | Throws b ↦ ends (Thrown (numbered b) 0) unused
      ]) (elim x as (λ y. Ran) [
        | Runs h ↦ after (run second w.limit (Goal h 1 false ∷ []) (start g t) false unused) (at_cut 1)
        | Throws b ↦ ends (Thrown (numbered b) 0) unused
      ])
      go (Runs h) =
          cut_waited w.limit _ _
          ((run_grows_on (λ e. e ≡ Waits) (λ e x. inl x) w.limit first second refl refl refl (waits_further ts us) (omega arith) (λ k. absurd (omega (arith, k))) refl w.limit w.limit 0 (omega arith) (omega arith) (Goal h 1 false ∷ []) (start g t) false unused (omega arith)).1)
      go (Throws b) = inl refl

module _ (fits : Tree → Bool) (t : Tree) where
  abbrev stops_in : Ran → List (ℕ × Stop)
  stops_in a = cut_at fits (trace_stops (traced t a))

  -- the stops of marks that go on, before their end is known
  on : (a b : Ran) → runs.Begins a.marks b.marks → Begins (cut_at fits (stops_of (marks_shown t a.marks) [])) (stops_in b)
  on a b h =
      let es : List (ℕ × Stop) = at_end b.used.steps (end_stop (end_shown b.end)) in
      let s : Begins (stops_of (marks_shown t a.marks) []) (stops_of (marks_shown t a.marks ++ marks_shown t h.0) es) = stops_begin (marks_shown t a.marks) (marks_shown t h.0) es in
      let e : stops_of (marks_shown t b.marks) es ≡ stops_of (marks_shown t a.marks) [] ++ s.0 =
      ap (λ ms. stops_of (marks_shown t ms) es) h.1 ∙ ap (λ ms. stops_of ms es) (map-append _ a.marks h.0) ∙ s.1 in
      subst (λ ps. Begins (cut_at fits (stops_of (marks_shown t a.marks) [])) (cut_at fits ps)) (sym e) (cut_begins fits (stops_of (marks_shown t a.marks) []) s.0)

  waited : (a : Ran) → a.end ≡ Waits → stops_in a ≡ cut_at fits (stops_of (marks_shown t a.marks) [])
  waited a e = ap (λ x. cut_at fits (stops_of (marks_shown t a.marks) (at_end a.used.steps (end_stop (end_shown x))))) e

  longer : (a b : Ran) → Waited a b → Begins (stops_in a) (stops_in b)
  longer a b (inl e) = subst (λ (x : Ran). Begins (stops_in a) (stops_in x)) e (begins_self (stops_in a))
  longer a b (inr h) = subst (λ ps. Begins ps (stops_in b)) (sym (waited a h.0)) (on a b h.1)

  -- ---- the limit of steps

  before : (ps : List (ℕ × Stop)) → Begins (before_limit ps) ps
  before [] = begins_none []
  before (p ∷ ps) = go (is_limit p.1) (before ps)
    where
      go : (b : Bool) → Begins (before_limit ps) ps → Begins (elim b as (λ x. List (ℕ × Stop)) [ true ↦ [] | false ↦ p ∷ before_limit ps ]) (p ∷ ps)
      go true h = begins_none (p ∷ ps)
      go false h = begins_cons p (before_limit ps) ps h

  one : (b : Bool) (k : ℕ) (s : Stop) → is_limit s ≡ false → (ps qs : List (ℕ × Stop)) → Begins (before_limit ps) qs → Begins (before_limit (elim b as (λ x. List (ℕ × Stop)) [ true ↦ (k, s) ∷ ps | false ↦ (k, Ball resource_error) ∷ [] ])) (elim b as (λ x. List (ℕ × Stop)) [ true ↦ (k, s) ∷ qs | false ↦ (k, Ball resource_error) ∷ [] ])
  one true k s h ps qs g =
      subst (λ (b : Bool). Begins (elim b as (λ x. List (ℕ × Stop)) [ true ↦ [] | false ↦ (k, s) ∷ before_limit ps ]) ((k, s) ∷ qs)) (sym h) (begins_cons (k, s) (before_limit ps) qs g)
  one false k s h ps qs g = begins_self _

  mark_goes_on : (m : TraceMark) → is_limit (mark_stop m) ≡ false
  mark_goes_on (shown.Answer a o) = refl
  mark_goes_on (shown.Output a) = refl
  mark_goes_on (shown.Prompt a) = refl

  spent : (k : ℕ) (ms : List (ℕ × TraceMark)) → Begins (before_limit (cut_at fits (stops_of ms ((k, Limit) ∷ [])))) (cut_at fits (stops_of ms []))
  unfolding stops_of cut_at
  spent k [] = begins_none _
  spent k (m ∷ ms) = one (stop_fits fits (mark_stop m.1)) m.0 (mark_stop m.1) (mark_goes_on m.1) _ _ (go (is_followed m.1) (spent k ms))
    where
      go : (o : Bool) → Begins (before_limit (cut_at fits (stops_of ms ((k, Limit) ∷ [])))) (cut_at fits (stops_of ms [])) →
          Begins (before_limit (cut_at fits (elim o as (λ x. List (ℕ × Stop)) [ true ↦ stops_of ms ((k, Limit) ∷ []) | false ↦ [] ]))) (cut_at fits (elim o as (λ x. List (ℕ × Stop)) [ true ↦ stops_of ms [] | false ↦ [] ]))
      go true h = h
      go false h = begins_none _

  stopped : (a b : Ran) → IsStopped a.end → runs.Begins a.marks b.marks → Begins (before_limit (stops_in a)) (stops_in b)
  stopped a b (inl e) h =
      begins_trans (before_limit (stops_in a)) (stops_in a) (stops_in b) (before (stops_in a))
      (subst (λ ps. Begins ps (stops_in b)) (sym (waited a e)) (on a b h))
  stopped a b (inr e) h =
      let k : ℕ = a.used.steps in
      let ms : List (ℕ × TraceMark) = marks_shown t a.marks in
      let same : stops_in a ≡ cut_at fits (stops_of ms ((k, Limit) ∷ [])) = ap (λ x. cut_at fits (stops_of ms (at_end k (end_stop (end_shown x))))) e in
      subst (λ ps. Begins (before_limit ps) (stops_in b)) (sym same)
      (begins_trans (before_limit (cut_at fits (stops_of ms ((k, Limit) ∷ [])))) (cut_at fits (stops_of ms [])) (stops_in b) (spent k ms) (on a b h))

  further : (a b : Ran) → (b ≡ a) ⊎ (IsStopped a.end × runs.Begins a.marks b.marks) → Begins (before_limit (stops_in a)) (stops_in b)
  further a b (inl e) = subst (λ (x : Ran). Begins (before_limit (stops_in a)) (stops_in x)) (sym e) (before (stops_in a))
  further a b (inr h) = stopped a b h.0 h.1

pub steps_only_add : StepsOnlyAdd
steps_only_add w fits n ts g t = further fits t (query w g t) (query (widened n ts w) g t) (lengths.more_only_adds w n ts g t)

pub stops_longer : (w : World) (fits : Tree → Bool) (g t : Tree) (rs more : List Request) → Begins (stops fits (replying w rs) g t) (stops fits (replying w (rs ++ more)) g t)
stops_longer w fits g t rs more =
    subst (λ ts. Begins (stops fits (replying w rs) g t) (stops fits (record w { replies = ts }) g t)) (sym (filter_map-append reply rs more))
    (longer fits t (query (replying w rs) g t) (query (record w { replies = replies rs ++ replies more }) g t) (query_waited w (replies rs) (replies more) g t))

pub requests_only_add : RequestsOnlyAdd
unfolding part
requests_only_add w fits style g t c rs more =
    let h : Begins (stops fits (replying w rs) g t) (stops fits (replying w (rs ++ more)) g t) = stops_longer w fits g t rs more in
    subst (λ ps. Begins (part_of style (stops fits (replying w rs) g t) c [] rs).events (part_of style ps c [] (rs ++ more)).events) (sym h.1)
    (further_only_adds style (stops fits (replying w rs) g t) h.0 c [] rs more)
