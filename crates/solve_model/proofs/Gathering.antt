-- An answer goes to the innermost frame that gathers answers, or into the trace.
use Rattle.std.proofs.Common.{◌≡◌, ℕ, zero, suc, ◌+◌, ◌<◌, ◌≤◌, Bool, List, [], ◌∷◌, ◌++◌, get_or, set, length, drop, ap, refl, sym, subst, ◌∙◌, append_assoc, arith}
use Rattle.std.proofs.lemmas.List.{drop_all}
use Rattle.term_core.specs.Tree.{Tree}
use Rattle.term_core.specs.Substitution.{apply}
use Rattle.term_core.specs.Variables.{numbered, renamed, first_free}
use Rattle.solve_model.specs.declared.collecting.Collector.{Collector}
use Rattle.solve_model.specs.declared.search.Frame.{Frame}
use Rattle.solve_model.specs.declared.search.Frame.TheVariants as frame
use Rattle.solve_model.specs.Collecting.{offers_by}
use Rattle.solve_model.specs.Dropping.{IsCollect, NoneCollect, IsInnermost}
use Rattle.solve_model.specs.Run.{World, Bindings, Ran, Used, Answered, after, at_gathered, gathered, marked, without_answers, solutions}
use Rattle.builtin_table.specs.Solutions.{copies, after_copies}
use Rattle.solve_model.specs.Search.{gathered_by, items_of, place_of, resumed, runs, through}

-- a frame that gathers no answers lets them pass
passes_answer : (w : World) (f : Frame) → (IsCollect f → ⊥) → (s : Bindings) (o : Bool) (u : Used) (r : Ran) → through w f (marked (Answered s o) u r) ≡ marked (Answered s o) u (through w f r)
passes_answer w (frame.Clauses c) h s o u r = refl
passes_answer w (frame.Results f q) h s o u r = refl
passes_answer w (frame.Other b more) h s o u r = refl
passes_answer w (frame.Cut l) h s o u r = refl
passes_answer w (frame.CutTo l) h s o u r = refl
passes_answer w (frame.Condition b more) h s o u r = refl
passes_answer w (frame.Catch c) h s o u r = refl
passes_answer w (frame.Collect c) h s o u r = absurd (h tt)

pub all_pass : (w : World) (fs : List Frame) → NoneCollect fs → (s : Bindings) (o : Bool) (u : Used) (r : Ran) → resumed w fs (marked (Answered s o) u r) ≡ marked (Answered s o) u (resumed w fs r)
unfolding resumed NoneCollect
all_pass w [] h s o u r = refl
all_pass w (f ∷ fs) h s o u r = ap (through w f) (all_pass w fs h.1 s o u r) ∙ passes_answer w f h.0 s o u (resumed w fs r)

-- a collector that takes the copy of an answer
pub takes_copy : (w : World) (c : Collector) (s : Bindings) (x : Tree) → x ≡ numbered (apply s c.template) → (cs : List Tree) → cs ≡ c.copies.items ++ renamed c.next x ∷ [] → (o : Bool) (u : Used) (r : Ran) →
    gathered (runs w) c.template (offers_by c.collection) cs (c.next + first_free x) (items_of c.rest.items.items) (place_of c.rest.place) c.more r ≡ gathered_by w c (marked (Answered s o) u r)
takes_copy w c s x h cs k o u r =
    rw (k, h)
    (ap (λ (ts : List Tree). after (without_answers r) (at_gathered (runs w) (offers_by c.collection ts) (items_of c.rest.items.items) (record (place_of c.rest.place) { next = after_copies (c.next + first_free (numbered (apply s c.template))) (solutions c.template r.marks) }) c.more))
    (append_assoc c.copies.items (renamed c.next (numbered (apply s c.template)) ∷ []) (copies (c.next + first_free (numbered (apply s c.template))) (solutions c.template r.marks))))

-- the innermost collector takes an answer
pub innermost_takes : (w : World) (i : ℕ) (fs : List Frame) (c d : Collector) → IsInnermost i fs → (f : Frame) → f ≡ get_or fs i f → f ≡ frame.Collect c → (s : Bindings) (o : Bool) (u : Used) →
    ((r : Ran) → gathered_by w d r ≡ gathered_by w c (marked (Answered s o) u r)) → (r : Ran) → resumed w (set fs i (frame.Collect d)) r ≡ resumed w fs (marked (Answered s o) u r)
unfolding resumed IsInnermost
innermost_takes w i [] c d h f e k s o u g r = absurd h
innermost_takes w zero (f0 ∷ fs) c d h f e k s o u g r =
    g (resumed w fs r) ∙ ap (gathered_by w c) (sym (all_pass w fs h.1 s o u r)) ∙ ap (λ (x : Frame). through w x (resumed w fs (marked (Answered s o) u r))) (sym (sym e ∙ k))
innermost_takes w (suc i) (f0 ∷ fs) c d h f e k s o u g r = ap (through w f0) (innermost_takes w i fs c d h f e k s o u g r)

-- ---- which frame is the innermost that gathers answers

pub none_further : (fs : List Frame) (i : ℕ) (f : Frame) → i < length fs → f ≡ get_or fs i f → (IsCollect f → ⊥) → NoneCollect (drop (suc i) fs) → NoneCollect (drop i fs)
unfolding NoneCollect
none_further [] i f l e n h = absurd (omega (arith, l))
none_further (g ∷ fs) zero f l e n h = (λ x. n (subst IsCollect (sym e) x), h)
none_further (g ∷ fs) (suc i) f l e n h = none_further fs i f (omega (arith, l)) e n h

pub innermost_at : (fs : List Frame) (i : ℕ) (f : Frame) → i < length fs → f ≡ get_or fs i f → IsCollect f → NoneCollect (drop (suc i) fs) → IsInnermost i fs
unfolding IsInnermost
innermost_at [] i f l e x h = absurd (omega (arith, l))
innermost_at (g ∷ fs) zero f l e x h = (subst IsCollect e x, h)
innermost_at (g ∷ fs) (suc i) f l e x h = innermost_at fs i f (omega (arith, l)) e x h

pub within : (fs : List Frame) (i : ℕ) → IsInnermost i fs → i < length fs
unfolding IsInnermost
within [] i h = absurd h
within (f ∷ fs) zero h = omega arith
within (f ∷ fs) (suc i) h = omega (arith, within fs i h)

pub collects : (fs : List Frame) (i : ℕ) (x : Frame) → IsInnermost i fs → IsCollect (get_or fs i x)
unfolding IsInnermost
collects [] i x h = absurd h
collects (f ∷ fs) zero x h = h.0
collects (f ∷ fs) (suc i) x h = collects fs i x h

pub none_at_end : (fs : List Frame) (n : ℕ) → length fs ≤ n → NoneCollect (drop n fs)
unfolding NoneCollect
none_at_end fs n h = subst NoneCollect (sym (drop_all n fs h)) tt

pub no_collector : (f : Frame) → ((c : Collector) → f ≡ frame.Collect c → ⊥) → IsCollect f → ⊥
no_collector (frame.Clauses c) n h = h
no_collector (frame.Results f q) n h = h
no_collector (frame.Other b more) n h = h
no_collector (frame.Cut l) n h = h
no_collector (frame.CutTo l) n h = h
no_collector (frame.Condition b more) n h = h
no_collector (frame.Catch c) n h = h
no_collector (frame.Collect c) n h = n c refl
