-- A cut drops the frames above its level: at the ends that a run has after the cut, they do nothing.
use Rattle.std.proofs.Common.{◌≡◌, ℕ, suc, Bool, true, false, List, [], ◌∷◌, ◌++◌, ◌<◌, ◌≤◌, ◌==◌, min, if◌then◌else◌, ne_eqb, ap, refl, sym, ◌∙◌, arith, append-nil}
use Rattle.std.proofs.lemmas.Bool.{false≢true}
use borrow.Author.Tests.{ltb-true, leb-true}
use Rattle.term_core.specs.declared.pi.Pi.{Pi}
use Rattle.term_core.specs.Tree.{Tree}
use Rattle.solve_model.specs.declared.search.Branch.{Branch}
use Rattle.solve_model.specs.declared.search.Frame.{Frame}
use Rattle.solve_model.specs.declared.search.Frame.TheVariants as frame
use Rattle.solve_model.specs.Dropping.{is_above}
use Rattle.solve_model.specs.Run.{World, Ran, Used, End, Failed, Cut, Thrown, Waits, Spent, Outside, after, ends, at_cut, at_condition, cut_to}
use Rattle.solve_model.specs.Search.{resumed, at_frame, runs_branch, through}
use Rattle.solve_model.proofs.Resume.{resumed_push}

-- what is done at an end lets pass each end that there is after a cut to the level
record PassesCut (l : ℕ) (k : End → Used → Ran) : Type 0 where
  cut : (m : ℕ) → m ≤ l → (u : Used) → k (Cut m) u ≡ ends (Cut m) u
  thrown : (b : Tree) (m : ℕ) (u : Used) → k (Thrown b m) u ≡ ends (Thrown b m) u
  waits : (u : Used) → k Waits u ≡ ends Waits u
  spent : (u : Used) → k Spent u ≡ ends Spent u
  outside : (i : Pi) (u : Used) → k (Outside i) u ≡ ends (Outside i) u

passes_end : (l : ℕ) (k : End → Used → Ran) → PassesCut l k → (e : End) (u : Used) → k (cut_to l e u).end (cut_to l e u).used ≡ ends (cut_to l e u).end (cut_to l e u).used
passes_end l k p Failed u = p.cut l (omega arith) u
passes_end l k p (Cut m) u = p.cut (min l m) (omega arith) u
passes_end l k p (Thrown b m) u = p.thrown b m u
passes_end l k p Waits u = p.waits u
passes_end l k p Spent u = p.spent u
passes_end l k p (Outside i) u = p.outside i u

passed : (a : Ran) (k : End → Used → Ran) → k a.end a.used ≡ ends a.end a.used → after a k ≡ a
passed a k e =
    ap (λ (b : Ran). let x : Ran = record b { marks = a.marks ++ b.marks } in x) e
    ∙ ap (λ ms. let x : Ran = record a { marks = ms } in x) (append-nil a.marks)

after_cut : (l : ℕ) (k : End → Used → Ran) → PassesCut l k → (r : Ran) → after (after r (cut_to l)) k ≡ after r (cut_to l)
after_cut l k p r = passed (after r (cut_to l)) k (passes_end l k p r.end r.used)

not_same : (m d : ℕ) → m < d → (m == d) ≡ false
not_same m d h = ne_eqb m d (omega (arith, h))

frame_passes : (w : World) (l : ℕ) (f : Frame) → is_above l f ≡ true → PassesCut l (at_frame w f)
frame_passes w l (frame.Clauses c) h = record {
  cut = λ m g u. refl;
  thrown = λ b m u. refl;
  waits = λ u. refl;
  spent = λ u. refl;
  outside = λ i u. refl;
}
frame_passes w l (frame.Results f r) h = record {
  cut = λ m g u. refl;
  thrown = λ b m u. refl;
  waits = λ u. refl;
  spent = λ u. refl;
  outside = λ i u. refl;
}
frame_passes w l (frame.Other b more) h = record {
  cut = λ m g u. refl;
  thrown = λ b m u. refl;
  waits = λ u. refl;
  spent = λ u. refl;
  outside = λ i u. refl;
}
frame_passes w l (frame.Cut d) h = record {
  cut = λ m g u. ap (λ (b : Bool). ends (if b then Failed else Cut m) u) (not_same m d (omega (arith, g, ltb-true l d h)));
  thrown = λ b m u. refl;
  waits = λ u. refl;
  spent = λ u. refl;
  outside = λ i u. refl;
}
frame_passes w l (frame.CutTo d) h = record {
  cut = λ m g u. ap (λ (n : ℕ). ends (Cut n) u) (omega (arith, g, leb-true l d h));
  thrown = λ b m u. refl;
  waits = λ u. refl;
  spent = λ u. refl;
  outside = λ i u. refl;
}
frame_passes w l (frame.Condition b more) h = record {
  cut = λ m g u.
      ap (λ (c : Bool). elim c as (λ x. Ran) [ true ↦ runs_branch w b more u | false ↦ ends (if m == b.place.level then Failed else Cut m) u ]) (not_same m (suc b.place.level) (omega (arith, g, ltb-true l b.place.level h)))
      ∙ ap (λ (c : Bool). ends (if c then Failed else Cut m) u) (not_same m b.place.level (omega (arith, g, ltb-true l b.place.level h)));
  thrown = λ b m u. refl;
  waits = λ u. refl;
  spent = λ u. refl;
  outside = λ i u. refl;
}
frame_passes w l (frame.Catch c) h = absurd (false≢true h)
frame_passes w l (frame.Collect c) h = absurd (false≢true h)

-- such a frame does nothing after the cut
above_passes : (w : World) (l : ℕ) (f : Frame) (r : Ran) → is_above l f ≡ true → through w f (after r (cut_to l)) ≡ after r (cut_to l)
above_passes w l (frame.Clauses c) r h =
    after_cut l (at_frame w (frame.Clauses c)) (frame_passes w l (frame.Clauses c) h) r
above_passes w l (frame.Results f q) r h =
    after_cut l (at_frame w (frame.Results f q)) (frame_passes w l (frame.Results f q) h) r
above_passes w l (frame.Other b more) r h =
    after_cut l (at_frame w (frame.Other b more)) (frame_passes w l (frame.Other b more) h) r
above_passes w l (frame.Cut d) r h = after_cut l (at_frame w (frame.Cut d)) (frame_passes w l (frame.Cut d) h) r
above_passes w l (frame.CutTo d) r h = after_cut l (at_frame w (frame.CutTo d)) (frame_passes w l (frame.CutTo d) h) r
above_passes w l (frame.Condition b more) r h =
    after_cut l (at_frame w (frame.Condition b more)) (frame_passes w l (frame.Condition b more) h) r
above_passes w l (frame.Catch c) r h = absurd (false≢true h)
above_passes w l (frame.Collect c) r h = absurd (false≢true h)

-- a frame above the level may be dropped
pub dropped : (w : World) (l : ℕ) (fs gs : List Frame) (f : Frame) (r : Ran) → fs ≡ gs ++ f ∷ [] → is_above l f ≡ true → resumed w gs (after r (cut_to l)) ≡ resumed w fs (after r (cut_to l))
dropped w l fs gs f r e h =
    sym (resumed_push w gs fs f (after r (cut_to l)) e ∙ ap (resumed w gs) (above_passes w l f r h))

-- after a cut to a condition's level its other branch is never run
pub condition_settled : (w : World) (l : ℕ) (b : Branch) (more : Bool) (r : Ran) → b.place.level ≡ l → after (after r (cut_to l)) (at_frame w (frame.Cut l)) ≡ after (after r (cut_to l)) (at_frame w (frame.Condition b more))
condition_settled w l b more r e =
    ap (λ (x : Ran). let a : Ran = after r (cut_to l) in let y : Ran = record x { marks = a.marks ++ x.marks } in y) (same r.end r.used)
  where
    below : (m : ℕ) (u : Used) → m ≤ l → at_cut l (Cut m) u ≡ at_condition b.place.level (runs_branch w b more) (Cut m) u
    below m u g =
        ap (λ (d : ℕ). ends (if m == d then Failed else Cut m) u) (sym e)
        ∙ sym (ap (λ (c : Bool). elim c as (λ x. Ran) [ true ↦ runs_branch w b more u | false ↦ ends (if m == b.place.level then Failed else Cut m) u ]) (not_same m (suc b.place.level) (omega (arith, g, e))))

    same : (e : End) (u : Used) → at_frame w (frame.Cut l) (cut_to l e u).end (cut_to l e u).used ≡ at_frame w (frame.Condition b more) (cut_to l e u).end (cut_to l e u).used
    same Failed u = below l u (omega arith)
    same (Cut m) u = below (min l m) u (omega arith)
    same (Thrown t m) u = refl
    same Waits u = refl
    same Spent u = refl
    same (Outside i) u = refl
