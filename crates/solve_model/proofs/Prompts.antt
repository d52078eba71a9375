-- A run asks for each reply that it takes, and where it waits for one more.
use Rattle.std.proofs.Common.{◌≡◌, ◌≢◌, ℕ, zero, suc, ◌+◌, ◌≤◌, ◌<◌, List, [], ◌∷◌, ◌++◌, length, filter, slice_get, Bool, false, refl, ap, ◌∙◌, ◌⊎◌, inl, inr, length-append, arith}
use Rattle.std.proofs.lemmas.Bool.{cases_lt}
use Rattle.std.proofs.lemmas.List.Elements.{filter-append}
use Rattle.std.proofs.lemmas.Option.{slice_get_cases}
use Rattle.term_core.specs.Tree.{Tree}
use Rattle.term_core.specs.Variables.{numbered}
use Rattle.solve_model.specs.Goals.{Ready, Runs, Throws, ready}
use Rattle.solve_model.specs.Run.{World, Item, Goal, End, Failed, Cut, Thrown, Waits, Spent, Outside, Mark, Answered, Told, Asked, is_shown_outside, without_answers, Place, Used, Ran, Runner, ends, marked, after, at_cut, one_more, one_reply, if_replied, taken, run, start, unused, query}
use Rattle.solve_model.specs.Laws.{is_prompt, prompts, AsksOneMore, AsksForEach, PromptsTakeReplies}
use Rattle.solve_model.proofs.Relate.{PassesStops, NotWaits, IsKept, item_kept, cut_kept, cut_passes}
use Rattle.solve_model.proofs.RunLaws.{taken_before, taken_at_limit}

abbrev Marks : Type 0
Marks = List (ℕ × Mark)

-- how many prompts have no reply at this end
abbrev open_at : End → ℕ
open_at Waits = 1
open_at Failed = 0
open_at (Cut l) = 0
open_at (Thrown b l) = 0
open_at Spent = 0
open_at (Outside i) = 0

-- a run that began at u, where there are n replies
record IsCounted (n : ℕ) (u : Used) (a : Ran) : Type 0 where
  within : a.used.replies ≤ n
  asked : prompts a.marks + u.replies ≡ a.used.replies + open_at a.end
  all : a.end ≡ Waits → a.used.replies ≡ n

-- where no more than n were taken before
abbrev Counted : ℕ → Used → Ran → Type 0
Counted n u a = u.replies ≤ n → IsCounted n u a

ends_counted : (n : ℕ) (e : End) → NotWaits e → (u : Used) → Counted n u (ends e u)
ends_counted n Failed x u h = record { within = h; asked = omega arith; all = λ e. cc }
ends_counted n (Cut l) x u h = record { within = h; asked = omega arith; all = λ e. cc }
ends_counted n (Thrown b l) x u h = record { within = h; asked = omega arith; all = λ e. cc }
ends_counted n Waits x u h = absurd x
ends_counted n Spent x u h = record { within = h; asked = omega arith; all = λ e. cc }
ends_counted n (Outside i) x u h = record { within = h; asked = omega arith; all = λ e. cc }

prompts-append : (ms ns : Marks) → prompts (ms ++ ns) ≡ prompts ms + prompts ns
prompts-append ms ns =
    ap (λ (x : Marks). length x) (filter-append (λ (m : ℕ × Mark). is_prompt m.1) ms ns)
    ∙ length-append (filter (λ (m : ℕ × Mark). is_prompt m.1) ms) (filter (λ (m : ℕ × Mark). is_prompt m.1) ns)

-- two runs, one after the other
joined : (n : ℕ) (u : Used) (ms : Marks) (v : Used) (e : End) (k : End → Used → Ran) → IsCounted n u (record { marks = ms; used = v; end = e }) → IsCounted n v (k e v) → open_at e ≡ 0 → IsCounted n u (after (record { marks = ms; used = v; end = e }) k)
joined n u ms v e k h g z = record {
  within = g.within;
  asked = omega (arith, prompts-append ms (k e v).marks, h.asked, g.asked, z);
  all = g.all;
}

-- what is done at an end that waits is nothing, and elsewhere it is counted on
after_end : (n : ℕ) (u : Used) (ms : Marks) (v : Used) (e : End) (k : End → Used → Ran) → IsCounted n u (record { marks = ms; used = v; end = e }) → PassesStops k → (NotWaits e → Counted n v (k e v)) → IsCounted n u (after (record { marks = ms; used = v; end = e }) k)
after_end n u ms v Waits k h ps s =
    rw (ps.waits v) (record { within = h.within; asked = omega (arith, prompts-append ms [], h.asked); all = h.all })
after_end n u ms v Failed k h ps s = joined n u ms v Failed k h (s tt h.within) refl
after_end n u ms v (Cut l) k h ps s = joined n u ms v (Cut l) k h (s tt h.within) refl
after_end n u ms v (Thrown b l) k h ps s = joined n u ms v (Thrown b l) k h (s tt h.within) refl
after_end n u ms v Spent k h ps s = joined n u ms v Spent k h (s tt h.within) refl
after_end n u ms v (Outside i) k h ps s = joined n u ms v (Outside i) k h (s tt h.within) refl

told_counted : (n : ℕ) (t : Tree) (u : Used) (a : Ran) → Counted n u a → Counted n u (marked (Told t) u a)
told_counted n t u a h g = record { within = (h g).within; asked = (h g).asked; all = (h g).all }

asked_counted : (n : ℕ) (rs : List Tree) (q : Tree) (u : Used) (go : Tree → Ran) → n ≡ length rs → ((t : Tree) → Counted n (one_reply u) (go t)) → Counted n u (marked (Asked q) u (if_replied (slice_get rs u.replies) u go))
asked_counted n rs q u go e h g =
    elim (slice_get_cases rs u.replies).1 [
      | inl x ↦ rw x.2 (let c : IsCounted n (one_reply u) (go x.0) = h x.0 (omega (arith, e, x.1)) in record { within = c.within; asked = omega (arith, c.asked); all = c.all })
      | inr x ↦ rw x.1 (record { within = g; asked = omega arith; all = λ y. omega (arith, e, x.0, g) })
    ]

-- ---- the marks that a run inside another shows

abbrev is_outer : ℕ × Mark → Bool
is_outer m = is_shown_outside m.1

prompts-outer : (ms : Marks) → prompts (filter is_outer ms) ≡ prompts ms
prompts-outer [] = refl
prompts-outer (x ∷ xs) = by x.0 x.1 (prompts-outer xs)
  where
    by : (k : ℕ) (m : Mark) → prompts (filter is_outer xs) ≡ prompts xs → prompts (filter is_outer ((k, m) ∷ xs)) ≡ prompts ((k, m) ∷ xs)
    by k (Answered s o) h = h
    by k (Told t) h = h
    by k (Asked t) h = ap suc h

outer_counted : (n : ℕ) (u : Used) (a : Ran) → IsCounted n u a → IsCounted n u (without_answers a)
outer_counted n u a h = record { within = h.within; asked = omega (arith, prompts-outer a.marks, h.asked); all = h.all }

counted_kept : (w : World) (n : ℕ) → n ≡ length w.replies → IsKept (λ u a b. Counted n u a) w w
counted_kept w n e = record {
  at_end = λ x y u. ends_counted n x y u;
  at_after = λ u a a' k k' h ps ps' step g. after_end n u a.marks a.used a.end k (h g) ps (λ x. step a.end x a.used);
  at_answers = λ u a a' k k' h ps ps' step g. after_end n u (without_answers a).marks a.used a.end (k a.marks) (outer_counted n u a (h g)) (ps a.marks) (λ x. step a.marks a.end x a.used);
  at_told = λ t u a a' h. told_counted n t u a h;
  at_asked = λ q u go go' h. asked_counted n w.replies q u go e h;
  same_clauses = refl;
  same_primitive = refl;
  same_outside = refl;
}

module _ (w : World) where
  abbrev RunsCounted : Runner → Type 0
  RunsCounted r = (is : List Item) (p : Place) (o : Bool) (u : Used) → Counted (length w.replies) u (r is p o u)

  taken_counted : (r : Runner) → RunsCounted r → (i : Item) (is : List Item) (p : Place) (o : Bool) (u : Used) → Counted (length w.replies) u (taken w r i is p o u)
  taken_counted r h i is p o u = go (cases_lt u.steps w.limit)
    where
      go : (u.steps < w.limit) ⊎ (w.limit ≤ u.steps) → Counted (length w.replies) u (taken w r i is p o u)
      go (inl k) =
          rw (taken_before w r i is p o u k) (λ g. let c : IsCounted (length w.replies) (one_more u) _ = item_kept (λ v a b. Counted (length w.replies) v a) w w (counted_kept w (length w.replies) refl) r r h i is p o (one_more u) g in record { within = c.within; asked = c.asked; all = c.all })
      go (inr k) = rw (taken_at_limit w r i is p o u k) (ends_counted (length w.replies) Spent tt u)

  run_counted : (d : ℕ) → RunsCounted (run w d)
  unfolding run
  run_counted zero [] p o u = λ h. record { within = h; asked = omega arith; all = λ e. cc }
  run_counted (suc d) [] p o u = λ h. record { within = h; asked = omega arith; all = λ e. cc }
  run_counted zero (i ∷ is) p o u = ends_counted (length w.replies) Spent tt u
  run_counted (suc d) (i ∷ is) p o u = taken_counted (run w d) (run_counted d) i is p o u

  abbrev as_query : Ready → (g t : Tree) → Ran
  as_query x g t = elim x as (λ y. Ran) [
    | Runs h ↦ after (run w w.limit (Goal h 1 false ∷ []) (start g t) false unused) (at_cut 1)
    | Throws b ↦ ends (Thrown (numbered b) 0) unused
  ]

  query_counted : (g t : Tree) → IsCounted (length w.replies) unused (query w g t)
  unfolding query
  query_counted g t = go (ready g)
    where
      go : (x : Ready) → IsCounted (length w.replies) unused (as_query x g t)
      go (Runs h) =
          let a : Ran = run w w.limit (Goal h 1 false ∷ []) (start g t) false unused in
          after_end (length w.replies) unused a.marks a.used a.end (at_cut 1) (run_counted w.limit (Goal h 1 false ∷ []) (start g t) false unused (omega arith)) (cut_passes 1)
          (λ x. cut_kept (λ v b c. Counted (length w.replies) v b) w w (counted_kept w (length w.replies) refl) 1 a.end x a.used)
      go (Throws b) = ends_counted (length w.replies) (Thrown (numbered b) 0) tt unused (omega arith)

-- what was counted, by the end
by_end : (n : ℕ) (a : Ran) (e : End) → a.end ≡ e → IsCounted n unused a → (e ≡ Waits → AsksOneMore n a) × (e ≢ Waits → AsksForEach n a)
by_end n a e d c = (λ h. (c.all (d ∙ h), omega (arith, c.all (d ∙ h), c.asked, ap open_at (d ∙ h))), λ h. (c.within, omega (arith, c.asked, closed e h ∙ refl, ap open_at d)))
  where
    closed : (e : End) → e ≢ Waits → open_at e ≡ 0
    closed Failed h = refl
    closed (Cut l) h = refl
    closed (Thrown b l) h = refl
    closed Waits h = absurd (h refl)
    closed Spent h = refl
    closed (Outside i) h = refl

pub prompts_take_replies : PromptsTakeReplies
prompts_take_replies w g t = by_end (length w.replies) (query w g t) (query w g t).end refl (query_counted w g t)
