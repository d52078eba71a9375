-- What is left to do, one frame at a time.
use Rattle.std.proofs.Common.{◌≡◌, ◌≢◌, ℕ, suc, Bool, true, false, ◌||◌, List, [], ◌∷◌, ◌++◌, map, reverse, ap, refl, sym, ◌∙◌, ◌<◌, ◌≤◌, append_assoc, append-nil, arith, ◌+◌}
use Rattle.std.proofs.lemmas.List.{reverse-append, map-append}
use Rattle.term_core.specs.declared.pi.Pi.{Pi}
use Rattle.term_core.specs.Tree.{Tree}
use Rattle.term_core.specs.Parts.{arguments_of}
use Rattle.term_core.specs.Substitution.{apply}
use Rattle.term_core.specs.Variables.{numbered}
use Rattle.program.specs.Clauses.{Clause}
use Rattle.solve_model.specs.declared.answers.Trace.{Trace}
use Rattle.solve_model.specs.declared.answers.TraceMark.{TraceMark}
use Rattle.solve_model.specs.declared.search.Frame.{Frame}
use Rattle.solve_model.specs.declared.search.Frame.TheVariants as frame
use Rattle.solve_model.specs.declared.search.Item as kept
use Rattle.solve_model.specs.Goals.{Ready, Runs, Throws, ready}
use Rattle.solve_model.specs.Run.{World, Ran, Used, End, Failed, Item, Goal, Place, Branch, Runner, after, ends, marked, Answered, in_order, some_left, at_failed, at_cut, called, performed, item_step, one_more, query, start, is_shown_outside}
use Rattle.solve_model.specs.Run as run
use Rattle.solve_model.specs.Collecting.{offers_by}
use Rattle.solve_model.specs.Search.{used_of, item_of, items_of, place_after, runs, resumed, at_frame, through, traced_after}
use Rattle.solve_model.specs.Trace.{mark_shown, marks_shown, traced, end_shown}
use Rattle.solve_model.proofs.RunLaws.{run_step, taken_before, taken_at_limit}

-- ---- items

-- the item at the end is the first
pub items_push : (is : List kept.Item) (i : kept.Item) → items_of (is ++ i ∷ []) ≡ item_of i ∷ items_of is
items_push is i = ap reverse (map-append item_of is (i ∷ [])) ∙ reverse-append (map item_of is) (item_of i ∷ [])

pub items_pushed : (is js : List kept.Item) (i : kept.Item) → js ≡ is ++ i ∷ [] → items_of js ≡ item_of i ∷ items_of is
items_pushed is js i e = ap items_of e ∙ items_push is i

-- ---- frames

push_one : (w : World) (fs : List Frame) (f : Frame) (r : Ran) → resumed w (fs ++ f ∷ []) r ≡ resumed w fs (through w f r)
unfolding resumed
push_one w [] f r = refl
push_one w (g ∷ fs) f r = ap (through w g) (push_one w fs f r)

pub resumed_push : (w : World) (fs gs : List Frame) (f : Frame) (r : Ran) → gs ≡ fs ++ f ∷ [] → resumed w gs r ≡ resumed w fs (through w f r)
resumed_push w fs gs f r e = ap (λ (hs : List Frame). resumed w hs r) e ∙ push_one w fs f r

-- a frame lets an end pass as it acts there
pub through_end : (w : World) (f : Frame) (e : End) (u : Used) → through w f (ends e u) ≡ at_frame w f e u
through_end w (frame.Clauses c) e u = refl
through_end w (frame.Results f r) e u = refl
through_end w (frame.Other b more) e u = refl
through_end w (frame.Cut l) e u = refl
through_end w (frame.CutTo l) e u = refl
through_end w (frame.Condition b more) e u = refl
through_end w (frame.Catch c) e u = refl
through_end w (frame.Collect c) e u =
    ap (λ (cs : List Tree). run.at_gathered (runs w) (offers_by c.collection cs) (items_of c.rest.items.items) (place_after c) c.more e u) (append-nil c.copies.items)

-- a mark that isn't gathered comes before what is left
through_marked : (w : World) (f : Frame) (m : run.Mark) → is_shown_outside m ≡ true → (u : Used) (r : Ran) → through w f (marked m u r) ≡ marked m u (through w f r)
through_marked w (frame.Clauses c) m h u r = refl
through_marked w (frame.Results f q) m h u r = refl
through_marked w (frame.Other b more) m h u r = refl
through_marked w (frame.Cut l) m h u r = refl
through_marked w (frame.CutTo l) m h u r = refl
through_marked w (frame.Condition b more) m h u r = refl
through_marked w (frame.Catch c) m h u r = refl
through_marked w (frame.Collect c) (Answered s o) h u r = cc
through_marked w (frame.Collect c) (run.Told t) h u r = refl
through_marked w (frame.Collect c) (run.Asked t) h u r = refl

pub resumed_marked : (w : World) (fs : List Frame) (m : run.Mark) → is_shown_outside m ≡ true → (u : Used) (r : Ran) → resumed w fs (marked m u r) ≡ marked m u (resumed w fs r)
unfolding resumed
resumed_marked w [] m h u r = refl
resumed_marked w (f ∷ fs) m h u r = ap (through w f) (resumed_marked w fs m h u r) ∙ through_marked w f m h u (resumed w fs r)

-- ---- alternatives

-- a failure is all that is done after the last alternative
nothing_left : (r : Runner) (o : Bool) (e : End) (u : Used) → at_failed (in_order r [] o) e u ≡ ends e u
unfolding in_order
nothing_left r o Failed u = refl
nothing_left r o (run.Cut l) u = refl
nothing_left r o (run.Thrown b l) u = refl
nothing_left r o run.Waits u = refl
nothing_left r o run.Spent u = refl
nothing_left r o (run.Outside i) u = refl

after_nothing : (r : Runner) (o : Bool) (a : Ran) → after a (at_failed (in_order r [] o)) ≡ a
after_nothing r o a =
    ap (λ (b : Ran). let x : Ran = record b { marks = a.marks ++ b.marks } in x) (nothing_left r o a.end a.used)
    ∙ ap (λ (ms : List (ℕ × run.Mark)). let x : Ran = record a { marks = ms } in x) (append-nil a.marks)

or_false : (o : Bool) → (o || false) ≡ o
or_false true = refl
or_false false = refl

or_true : (o : Bool) → (o || true) ≡ true
or_true true = refl
or_true false = refl

pub no_alternative : (r : Runner) (bs : List Branch) (o : Bool) (u : Used) → bs ≡ [] → ends Failed u ≡ in_order r bs o u
unfolding in_order
no_alternative r bs o u e = ap (λ (cs : List Branch). in_order r cs o u) (sym e)

pub last_alternative : (r : Runner) (bs cs : List Branch) (b : Branch) (o : Bool) (u : Used) → bs ≡ b ∷ cs → cs ≡ [] → r b.items b.place o u ≡ in_order r bs o u
unfolding in_order
last_alternative r bs cs b o u e h =
    sym (after_nothing r o (r b.items b.place o u))
    ∙ ap (λ (x : Bool). after (r b.items b.place x u) (at_failed (in_order r [] o))) (sym (or_false o))
    ∙ ap (λ (ds : List Branch). in_order r ds o u) (sym (e ∙ ap (λ (ds : List Branch). b ∷ ds) h))

pub first_alternative : (r : Runner) (bs cs ds : List Branch) (b c : Branch) (o : Bool) (u : Used) → bs ≡ b ∷ cs → cs ≡ c ∷ ds → after (r b.items b.place true u) (at_failed (in_order r (c ∷ ds) o)) ≡ in_order r bs o u
unfolding in_order
first_alternative r bs cs ds b c o u e h =
    ap (λ (x : Bool). after (r b.items b.place x u) (at_failed (in_order r (c ∷ ds) o))) (sym (or_true o))
    ∙ ap (λ (es : List Branch). in_order r es o u) (sym (e ∙ ap (λ (es : List Branch). b ∷ es) h))

-- ---- calls

pub unknown_called : (w : World) (r : Runner) (cs : List Clause) (i : Pi) (t : Tree) (is : List Item) (p : Place) (o : Bool) (u : Used) → cs ≡ [] → performed r (w.primitive i (arguments_of (apply p.subst t)) p.next) (w.outside i) i is p o u ≡ called w r cs i t is p o u
unknown_called w r [] i t is p o u h = refl
unknown_called w r (c ∷ cs) i t is p o u h = cc

pub known_called : (w : World) (r : Runner) (cs : List Clause) (i : Pi) (t : Tree) (is : List Item) (p : Place) (o : Bool) (u : Used) → (cs ≢ []) → after (in_order r (run.entered cs t is p o) o u) (at_cut p.level) ≡ called w r cs i t is p o u
known_called w r [] i t is p o u h = absurd (h refl)
known_called w r (c ∷ cs) i t is p o u h = refl

-- ---- the first item

pub run_first : (w : World) (is : List Item) (i : Item) (js : List Item) (p : Place) (o : Bool) (u : Used) → is ≡ i ∷ js → u.steps < w.limit → runs w is p o u ≡ item_step w (runs w) i js p o (one_more u)
run_first w is i js p o u e h =
    ap (λ (ks : List Item). runs w ks p o u) e ∙ run_step w i js p o u ∙ taken_before w (runs w) i js p o u h

pub run_at_limit : (w : World) (is : List Item) (i : Item) (js : List Item) (p : Place) (o : Bool) (u : Used) → is ≡ i ∷ js → w.limit ≤ u.steps → runs w is p o u ≡ ends run.Spent u
run_at_limit w is i js p o u e h =
    ap (λ (ks : List Item). runs w ks p o u) e ∙ run_step w i js p o u ∙ taken_at_limit w (runs w) i js p o u h

pub run_of_none : (w : World) (p : Place) (o : Bool) (u : Used) → runs w [] p o u ≡ marked (Answered p.subst o) u (ends Failed u)
unfolding run.run
run_of_none w p o u = refl

-- ---- the trace

pub traced_marked : (t : Tree) (ms : List (ℕ × TraceMark)) (m : run.Mark) (u : Used) (r : Ran) → traced_after t (ms ++ (u.steps, mark_shown t m) ∷ []) r ≡ traced_after t ms (marked m u r)
traced_marked t ms m u r =
    ap (λ (l : List (ℕ × TraceMark)). let x : Trace = record { marks = l; steps = r.used.steps; replies_used = r.used.replies; end = end_shown r.end } in x)
    (append_assoc ms ((u.steps, mark_shown t m) ∷ []) (marks_shown t r.marks))

-- an answer is a mark, and the branch has failed
pub answered : (w : World) (t : Tree) (fs : List Frame) (ms : List (ℕ × TraceMark)) (is : List Item) (p : Place) (o : Bool) (u : Used) (x : Trace) → is ≡ [] → x ≡ traced_after t ms (resumed w fs (marked (Answered p.subst o) u (ends Failed u))) →
    x ≡ traced_after t ms (resumed w fs (runs w is p o u))
answered w t fs ms is p o u x e d =
    rw (e, run_of_none w p o u) d

-- a mark that is shown, and then the rest
pub marked_shown : (w : World) (t : Tree) (fs : List Frame) (ms ns : List (ℕ × TraceMark)) (m : run.Mark) → is_shown_outside m ≡ true → (u : Used) (r : Ran) → ns ≡ ms ++ (u.steps, mark_shown t m) ∷ [] → traced_after t ns (resumed w fs r) ≡ traced_after t ms (resumed w fs (marked m u r))
marked_shown w t fs ms ns m o u r h = rw (h, resumed_marked w fs m o u r) (traced_marked t ms m u (resumed w fs r))

-- ---- the whole search

pub spent : (w : World) (t : Tree) (fs : List Frame) (ms : List (ℕ × TraceMark)) (is : List Item) (i : Item) (js : List Item) (p : Place) (o : Bool) (u : Used) → is ≡ i ∷ js → w.limit ≤ u.steps → traced_after t ms (resumed w fs (ends run.Spent u)) ≡ traced_after t ms (resumed w fs (runs w is p o u))
spent w t fs ms is i js p o u e h =
    ap (λ (x : Ran). traced_after t ms (resumed w fs x)) (sym (run_at_limit w is i js p o u e h))

pub stepped : (w : World) (t : Tree) (fs : List Frame) (ms : List (ℕ × TraceMark)) (is : List Item) (i : Item) (js : List Item) (p : Place) (o : Bool) (n k : ℕ) (r : Ran) → is ≡ i ∷ js → n < w.limit → r ≡ resumed w fs (item_step w (runs w) i js p o (used_of (n + 1) k)) → traced_after t ms r ≡ traced_after t ms (resumed w fs (runs w is p o (used_of n k)))
stepped w t fs ms is i js p o n k r e h d =
    ap (traced_after t ms)
    (d
    ∙ ap (λ (m : ℕ). resumed w fs (item_step w (runs w) i js p o (used_of m k))) (let x : n + 1 ≡ suc n = omega arith in x)
    ∙ ap (resumed w fs) (sym (run_first w is i js p o (used_of n k) e h)))

pub started : (w : World) (t : Tree) (r : Ran) → traced_after t [] (resumed w [] r) ≡ traced t r
unfolding resumed
started w t r = refl

-- no frame is left
pub over : (w : World) (t : Tree) (fs : List Frame) (ms : List (ℕ × TraceMark)) (r : Ran) → fs ≡ [] → traced_after t ms r ≡ traced_after t ms (resumed w fs r)
unfolding resumed
over w t fs ms r d = ap (λ (gs : List Frame). traced_after t ms (resumed w gs r)) (sym d)

-- a frame is taken off, and does what it does at this end
pub popped : (w : World) (t : Tree) (fs gs : List Frame) (f : Frame) (ms : List (ℕ × TraceMark)) (e : End) (u : Used) (r : Ran) → fs ≡ gs ++ f ∷ [] → r ≡ resumed w gs (at_frame w f e u) → traced_after t ms r ≡ traced_after t ms (resumed w fs (ends e u))
popped w t fs gs f ms e u r d h =
    ap (traced_after t ms) (h ∙ sym (resumed_push w gs fs f (ends e u) d ∙ ap (resumed w gs) (through_end w f e u)))

-- ---- the query

-- a query whose goal is ready in this way
abbrev asked : World → (g t : Tree) → Ready → Ran
asked w g t (Runs h) = after (runs w (Goal h 1 false ∷ []) (start g t) false (used_of 0 0)) (at_cut 1)
asked w g t (Throws b) = ends (run.Thrown (numbered b) 0) (used_of 0 0)

query_ready : (w : World) (g t : Tree) (r : Ready) → ready g ≡ r → asked w g t r ≡ query w g t
unfolding query
query_ready w g t r e = ap (asked w g t) (sym e) ∙ go (ready g)
  where
    go : (r : Ready) → asked w g t r ≡ elim r as (λ x. Ran) [
      | Runs h ↦ after (run.run w w.limit (Goal h 1 false ∷ []) (start g t) false run.unused) (at_cut 1)
      | Throws b ↦ ends (run.Thrown (numbered b) 0) run.unused
    ]
    go (Runs h) = refl
    go (Throws b) = refl

pub asked_throws : (w : World) (g t b ball : Tree) (fs : List Frame) (ms : List (ℕ × TraceMark)) → ready g ≡ Throws b → ball ≡ numbered b → fs ≡ [] → ms ≡ [] → traced_after t ms (resumed w fs (ends (run.Thrown ball 0) (used_of 0 0))) ≡ traced t (query w g t)
unfolding resumed
asked_throws w g t b ball fs ms e h d k =
    rw (d, k, h) (ap (traced t) (query_ready w g t (Throws b) e))

pub asked_runs : (w : World) (g t h : Tree) (fs : List Frame) (ms : List (ℕ × TraceMark)) (is : List Item) (p : Place) → ready g ≡ Runs h → fs ≡ frame.Cut 1 ∷ [] → ms ≡ [] → is ≡ Goal h 1 false ∷ [] → p ≡ start g t → traced_after t ms (resumed w fs (runs w is p false (used_of 0 0))) ≡ traced t (query w g t)
unfolding resumed
asked_runs w g t h fs ms is p e d k i q =
    rw (d, k, i, q) (ap (traced t) (query_ready w g t (Runs h) e))
