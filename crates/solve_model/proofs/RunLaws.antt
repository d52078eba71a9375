-- The laws of runs: the depth doesn't matter where it is enough, a run of some items is the step over the run itself, and more steps or replies lengthen the marks.
use Rattle.std.proofs.Common.{◌≡◌, ℕ, zero, suc, ◌+◌, ◌≤◌, ◌<◌, Bool, true, false, cond, List, [], ◌∷◌, ◌++◌, nat_le, slice_get, Option, Some, None, refl, ap, arith, ◌⊎◌, inl, inr, subst, sym, append_assoc, append-nil, ◌∙◌, filter}
use Rattle.std.proofs.lemmas.Bool.{lt-ltb, le-ltb, le-leb, lt-leb, cases_lt}
use Rattle.std.proofs.lemmas.List.Elements.{filter-append}
use Rattle.term_core.specs.Tree.{Tree}
use Rattle.term_core.specs.Variables.{numbered}
use Rattle.solve_model.specs.Goals.{Ready, Runs, Throws, ready}
use Rattle.solve_model.specs.Run.{World, Item, Goal, End, Failed, Thrown, Waits, Spent, Mark, Told, Asked, marked, one_reply, if_replied, Place, Used, Ran, Runner, ends, after, at_cut, item_step, one_more, taken, run, start, unused, query, is_shown_outside, without_answers}
use Rattle.solve_model.specs.Laws.{Begins, IsStopped, widened, MoreOnlyAdds, marks_within, MarksStand}
use Rattle.solve_model.proofs.Relate.{PassesStops, NotWaits, IsKept, item_kept, cut_kept, cut_passes}

abbrev Marks : Type 0
Marks = List (ℕ × Mark)

-- ---- steps only rise, up to the limit

-- each mark is made after at least m, or at most n, steps
abbrev pub AllFrom : ℕ → Marks → Type 0
AllFrom m [] = Unit {0}
AllFrom m (x ∷ xs) = (m ≤ x.0) × AllFrom m xs

abbrev pub AllUpTo : ℕ → Marks → Type 0
AllUpTo n [] = Unit {0}
AllUpTo n (x ∷ xs) = (x.0 ≤ n) × AllUpTo n xs

from_fewer : (k m : ℕ) (xs : Marks) → k ≤ m → AllFrom m xs → AllFrom k xs
from_fewer k m [] g h = tt
from_fewer k m (x ∷ xs) g h = (omega (arith, h.0), from_fewer k m xs g h.1)

AllFrom-append : (m : ℕ) (xs ys : Marks) → AllFrom m xs → AllFrom m ys → AllFrom m (xs ++ ys)
AllFrom-append m [] ys h k = k
AllFrom-append m (x ∷ xs) ys h k = (h.0, AllFrom-append m xs ys h.1 k)

AllUpTo-append : (n : ℕ) (xs ys : Marks) → AllUpTo n xs → AllUpTo n ys → AllUpTo n (xs ++ ys)
AllUpTo-append n [] ys h k = k
AllUpTo-append n (x ∷ xs) ys h k = (h.0, AllUpTo-append n xs ys h.1 k)

-- a run that began at u, under a limit of n steps
pub record IsTimed (n : ℕ) (u : Used) (a : Ran) : Type 0 where
  pub rises : u.steps ≤ a.used.steps
  pub from : AllFrom u.steps a.marks
  pub within : u.steps ≤ n → a.used.steps ≤ n
  pub up_to : u.steps ≤ n → AllUpTo n a.marks

ends_timed : (n : ℕ) (e : End) (u : Used) → IsTimed n u (ends e u)
ends_timed n e u = record { rises = omega arith; from = tt; within = λ h. h; up_to = λ h. tt }

after_timed : (n : ℕ) (u : Used) (a : Ran) (k : End → Used → Ran) → IsTimed n u a → IsTimed n a.used (k a.end a.used) → IsTimed n u (after a k)
after_timed n u a k g h = record {
  rises = omega (arith, g.rises, h.rises);
  from = AllFrom-append u.steps a.marks _ g.from (from_fewer u.steps a.used.steps _ g.rises h.from);
  within = λ b. h.within (g.within b);
  up_to = λ b. AllUpTo-append n a.marks _ (g.up_to b) (h.up_to (g.within b));
}

-- at a stop, or else by what is done at other ends
at_stop : (P : Ran → Type 0) (k : End → Used → Ran) (e : End) (v : Used) → PassesStops k → P (ends Waits v) → (NotWaits e → P (k e v)) → P (k e v)
at_stop P k Waits v ps h g = subst P (sym (ps.waits v)) h
at_stop P k Failed v ps h g = g tt
at_stop P k (End.Cut l) v ps h g = g tt
at_stop P k (End.Thrown b l) v ps h g = g tt
at_stop P k Spent v ps h g = g tt
at_stop P k (End.Outside i) v ps h g = g tt

marked_timed : (n : ℕ) (m : Mark) (u : Used) (a : Ran) → IsTimed n u a → IsTimed n u (marked m u a)
marked_timed n m u a h = record {
  rises = h.rises;
  from = (omega arith, h.from);
  within = h.within;
  up_to = λ b. (b, h.up_to b);
}

-- a reply is no step
replied_timed : (n : ℕ) (u : Used) (a : Ran) → IsTimed n (one_reply u) a → IsTimed n u a
replied_timed n u a h = record { rises = h.rises; from = h.from; within = h.within; up_to = h.up_to }

if_replied_timed : (n : ℕ) (r : Option Tree) (u : Used) (go : Tree → Ran) → ((t : Tree) → IsTimed n (one_reply u) (go t)) → IsTimed n u (if_replied r u go)
if_replied_timed n (Some t) u go h = replied_timed n u (go t) (h t)
if_replied_timed n None u go h = ends_timed n Waits u

-- ---- the marks that a run inside another shows

abbrev is_outer : ℕ × Mark → Bool
is_outer m = is_shown_outside m.1

from_outer : (m : ℕ) (xs : Marks) → AllFrom m xs → AllFrom m (filter is_outer xs)
from_outer m [] h = tt
from_outer m (x ∷ xs) h = by (from_outer m xs h.1) (is_outer x)
  where
    by : AllFrom m (filter is_outer xs) → (b : Bool) → AllFrom m (cond b (x ∷ filter is_outer xs) (filter is_outer xs))
    by g true = (h.0, g)
    by g false = g

up_to_outer : (n : ℕ) (xs : Marks) → AllUpTo n xs → AllUpTo n (filter is_outer xs)
up_to_outer n [] h = tt
up_to_outer n (x ∷ xs) h = by (up_to_outer n xs h.1) (is_outer x)
  where
    by : AllUpTo n (filter is_outer xs) → (b : Bool) → AllUpTo n (cond b (x ∷ filter is_outer xs) (filter is_outer xs))
    by g true = (h.0, g)
    by g false = g

outer_timed : (n : ℕ) (u : Used) (a : Ran) → IsTimed n u a → IsTimed n u (without_answers a)
outer_timed n u a h = record {
  rises = h.rises;
  from = from_outer u.steps a.marks h.from;
  within = h.within;
  up_to = λ b. up_to_outer n a.marks (h.up_to b);
}

timed_kept : (w : World) (n : ℕ) → IsKept (λ u a b. IsTimed n u a) w w
timed_kept w n = record {
  at_end = λ e x u. ends_timed n e u;
  at_after = λ u a a' k k' h ps ps' step. after_timed n u a k h (at_stop (IsTimed n a.used) k a.end a.used ps (ends_timed n Waits a.used) (λ x. step a.end x a.used));
  at_told = λ t u a a' h. marked_timed n (Told t) u a h;
  at_asked = λ q u go go' h. marked_timed n (Asked q) u _ (if_replied_timed n (slice_get w.replies u.replies) u go h);
  at_answers = λ u a a' k k' h ps ps' step. after_timed n u (without_answers a) (k a.marks) (outer_timed n u a h) (at_stop (IsTimed n a.used) (k a.marks) a.end a.used (ps a.marks) (ends_timed n Waits a.used) (λ x. step a.marks a.end x a.used));
  same_clauses = refl;
  same_primitive = refl;
  same_outside = refl;
}

-- after one step more
timed_later : (n : ℕ) (u : Used) (a : Ran) → u.steps < n → IsTimed n (one_more u) a → IsTimed n u a
timed_later n u a g h = record {
  rises = omega (arith, h.rises);
  from = from_fewer u.steps (suc u.steps) a.marks (omega arith) h.from;
  within = λ b. h.within (omega (arith, g));
  up_to = λ b. h.up_to (omega (arith, g));
}

pub taken_before : (w : World) (r : Runner) (i : Item) (is : List Item) (p : Place) (o : Bool) (u : Used) → u.steps < w.limit → taken w r i is p o u ≡ item_step w r i is p o (one_more u)
unfolding taken
taken_before w r i is p o u h = ap (λ (b : Bool). elim b as (λ x. Ran) [ false ↦ ends Spent u | true ↦ item_step w r i is p o (one_more u) ]) (lt-ltb u.steps w.limit h)

pub taken_at_limit : (w : World) (r : Runner) (i : Item) (is : List Item) (p : Place) (o : Bool) (u : Used) → w.limit ≤ u.steps → taken w r i is p o u ≡ ends Spent u
unfolding taken
taken_at_limit w r i is p o u h = ap (λ (b : Bool). elim b as (λ x. Ran) [ false ↦ ends Spent u | true ↦ item_step w r i is p o (one_more u) ]) (le-ltb u.steps w.limit h)

abbrev pub RunsTimed : World → Runner → Type 0
RunsTimed w r = (is : List Item) (p : Place) (o : Bool) (u : Used) → IsTimed w.limit u (r is p o u)

item_timed : (w : World) (r : Runner) → RunsTimed w r → (i : Item) (is : List Item) (p : Place) (o : Bool) (u : Used) → IsTimed w.limit u (item_step w r i is p o u)
item_timed w r h i is p o u = item_kept (λ v a b. IsTimed w.limit v a) w w (timed_kept w w.limit) r r h i is p o u

taken_timed : (w : World) (r : Runner) → RunsTimed w r → (i : Item) (is : List Item) (p : Place) (o : Bool) (u : Used) → IsTimed w.limit u (taken w r i is p o u)
taken_timed w r h i is p o u = go (cases_lt u.steps w.limit)
  where
    go : (u.steps < w.limit) ⊎ (w.limit ≤ u.steps) → IsTimed w.limit u (taken w r i is p o u)
    go (inl k) = rw (taken_before w r i is p o u k) (timed_later w.limit u _ k (item_timed w r h i is p o (one_more u)))
    go (inr k) = rw (taken_at_limit w r i is p o u k) (ends_timed w.limit Spent u)

pub run_timed : (w : World) (d : ℕ) (is : List Item) (p : Place) (o : Bool) (u : Used) → IsTimed w.limit u (run w d is p o u)
unfolding run
run_timed w zero [] p o u = record { rises = omega arith; from = (omega arith, tt); within = λ h. h; up_to = λ h. (h, tt) }
run_timed w (suc d) [] p o u = record { rises = omega arith; from = (omega arith, tt); within = λ h. h; up_to = λ h. (h, tt) }
run_timed w zero (i ∷ is) p o u = ends_timed w.limit Spent u
run_timed w (suc d) (i ∷ is) p o u = taken_timed w (run w d) (run_timed w d) i is p o u

-- ---- with more steps or replies a run is the same or goes on

-- a stopped, in one of the ways of S, where b went on; and where a's steps were used up, b went on after more than n steps
pub record GoesOn (S : End → Type 0) (n : ℕ) (a b : Ran) : Type 0 where
  pub stopped : S a.end
  pub more : List (ℕ × Mark)
  pub is : b.marks ≡ a.marks ++ more
  pub later : a.end ≡ Spent → (n < b.used.steps) × AllFrom (suc n) more

abbrev pub IsLonger : (End → Type 0) → ℕ → Ran → Ran → Type 0
IsLonger S n a b = (a ≡ b) ⊎ GoesOn S n a b

-- the second reply is the first, or there was none, for want of which a run may stop
abbrev pub IsFurther : (End → Type 0) → Option Tree → Option Tree → Type 0
IsFurther S r r' = (r' ≡ r) ⊎ ((r ≡ None) × S Waits)

-- what is done after a run that stopped is nothing
stopped_after : (a : Ran) (k : End → Used → Ran) → PassesStops k → IsStopped a.end → ((after a k).end ≡ a.end) × ((after a k).marks ≡ a.marks)
stopped_after a k ps (inl e) =
    let q : k a.end a.used ≡ ends Waits a.used = ap (λ (x : End). k x a.used) e ∙ ps.waits a.used in
    (ap (λ (x : Ran). x.end) q ∙ sym e, ap (λ (x : Ran). a.marks ++ x.marks) q ∙ append-nil a.marks)
stopped_after a k ps (inr e) =
    let q : k a.end a.used ≡ ends Spent a.used = ap (λ (x : End). k x a.used) e ∙ ps.spent a.used in
    (ap (λ (x : Ran). x.end) q ∙ sym e, ap (λ (x : Ran). a.marks ++ x.marks) q ∙ append-nil a.marks)

-- at waiting, or else by what is done at other ends
at_waits : (P : Ran → Ran → Type 0) (k k' : End → Used → Ran) (e : End) (v : Used) → PassesStops k → PassesStops k' → P (ends Waits v) (ends Waits v) → (NotWaits e → P (k e v) (k' e v)) → P (k e v) (k' e v)
at_waits P k k' Waits v ps ps' h g =
    subst (λ (x : Ran). P x (k' Waits v)) (sym (ps.waits v)) (subst (λ (x : Ran). P (ends Waits v) x) (sym (ps'.waits v)) h)
at_waits P k k' Failed v ps ps' h g = g tt
at_waits P k k' (End.Cut l) v ps ps' h g = g tt
at_waits P k k' (End.Thrown b l) v ps ps' h g = g tt
at_waits P k k' Spent v ps ps' h g = g tt
at_waits P k k' (End.Outside i) v ps ps' h g = g tt

module _ (S : End → Type 0) (sub : (e : End) → S e → IsStopped e) (n : ℕ) where
  longer_within : (a : Ran) (k k' : End → Used → Ran) → IsLonger S n (k a.end a.used) (k' a.end a.used) → IsLonger S n (after a k) (after a k')
  longer_within a k k' (inl e) = inl (ap (λ (b : Ran). let x : Ran = record b { marks = a.marks ++ b.marks } in x) e)
  longer_within a k k' (inr g) = inr (record {
    stopped = g.stopped;
    more = g.more;
    is = ap (λ (x : Marks). a.marks ++ x) g.is ∙ sym (append_assoc a.marks (k a.end a.used).marks g.more);
    later = g.later;
  })

  longer_further : (m : ℕ) (a b : Ran) (k k' : End → Used → Ran) → GoesOn S n a b → PassesStops k → IsTimed m b.used (k' b.end b.used) → GoesOn S n (after a k) (after b k')
  longer_further m a b k k' g ps t =
      let q : ((after a k).end ≡ a.end) × ((after a k).marks ≡ a.marks) = stopped_after a k ps (sub a.end g.stopped) in
      let rest : Marks = (k' b.end b.used).marks in
      record {
        stopped = subst S (sym q.0) g.stopped;
        more = g.more ++ rest;
        is = ap (λ (x : Marks). x ++ rest) g.is ∙ append_assoc a.marks g.more rest ∙ ap (λ (x : Marks). x ++ (g.more ++ rest)) (sym q.1);
        later = λ e.
            let h : (n < b.used.steps) × AllFrom (suc n) g.more = g.later (sym q.0 ∙ e) in
            (omega (arith, h.0, t.rises), AllFrom-append (suc n) g.more rest h.1 (from_fewer (suc n) b.used.steps rest (omega (arith, h.0)) t.from));
      }

  -- of runs that began after m steps at least, where the second is under a limit of l steps
  abbrev Grows : ℕ → ℕ → Used → Ran → Ran → Type 0
  Grows l m u a b = m ≤ u.steps → IsTimed l u b × IsLonger S n a b

  grows_ends : (l m : ℕ) (e : End) (u : Used) → Grows l m u (ends e u) (ends e u)
  grows_ends l m e u h = (ends_timed l e u, inl refl)

  grows_after : (l m : ℕ) (u : Used) (a b : Ran) (k k' : End → Used → Ran) → Grows l m u a b → PassesStops k → PassesStops k' → ((e : End) → NotWaits e → (v : Used) → Grows l m v (k e v) (k' e v)) → Grows l m u (after a k) (after b k')
  grows_after l m u a b k k' h ps ps' step g =
      let both : IsTimed l b.used (k' b.end b.used) × IsLonger S n (k b.end b.used) (k' b.end b.used) =
      at_waits (Grows l m b.used) k k' b.end b.used ps ps' (grows_ends l m Waits b.used) (λ x. step b.end x b.used) (omega (arith, g, (h g).0.rises)) in
      (after_timed l u b k' (h g).0 both.0, go (h g).1 both)
    where
      go : IsLonger S n a b → IsTimed l b.used (k' b.end b.used) × IsLonger S n (k b.end b.used) (k' b.end b.used) → IsLonger S n (after a k) (after b k')
      go (inl e) both = subst (λ (x : Ran). IsLonger S n (after x k) (after b k')) (sym e) (longer_within b k k' both.1)
      go (inr s) both = inr (longer_further l a b k k' s ps both.0)

  longer_marked : (m : Mark) (u : Used) (a b : Ran) → IsLonger S n a b → IsLonger S n (marked m u a) (marked m u b)
  longer_marked m u a b (inl e) = inl (ap (marked m u) e)
  longer_marked m u a b (inr g) = inr (record {
    stopped = g.stopped;
    more = g.more;
    is = ap (λ (x : Marks). (u.steps, m) ∷ x) g.is;
    later = g.later;
  })

  grows_marked : (l m : ℕ) (k : Mark) (u : Used) (a b : Ran) → Grows l m u a b → Grows l m u (marked k u a) (marked k u b)
  grows_marked l m k u a b h g = (marked_timed l k u b (h g).0, longer_marked k u a b (h g).1)

  grows_replied : (l m : ℕ) (u : Used) (r r' : Option Tree) (go go' : Tree → Ran) → IsFurther S r r' → ((t : Tree) → Grows l m (one_reply u) (go t) (go' t)) → Grows l m u (if_replied r u go) (if_replied r' u go')
  grows_replied l m u (Some t) r' go go' (inl e) h g =
      subst (λ x. IsTimed l u (if_replied x u go') × IsLonger S n (go t) (if_replied x u go')) (sym e) (replied_timed l u (go' t) (h t g).0, (h t g).1)
  grows_replied l m u (Some t) r' go go' (inr x) h g = cc
  grows_replied l m u None None go go' x h g = (ends_timed l Waits u, inl refl)
  grows_replied l m u None (Some t) go go' (inl e) h g = cc
  grows_replied l m u None (Some t) go go' (inr x) h g = (
    replied_timed l u (go' t) (h t g).0,
    inr (record {
      stopped = x.1;
      more = (go' t).marks;
      is = refl;
      later = λ e. cc;
    }),
  )

  outer_further : (a b : Ran) → GoesOn S n a b → GoesOn S n (without_answers a) (without_answers b)
  outer_further a b g = record {
    stopped = g.stopped;
    more = filter is_outer g.more;
    is = ap (filter is_outer) g.is ∙ filter-append is_outer a.marks g.more;
    later = λ e. ((g.later e).0, from_outer (suc n) g.more (g.later e).1);
  }

  grows_answers : (l m : ℕ) (u : Used) (a b : Ran) (k k' : Marks → End → Used → Ran) → Grows l m u a b → ((ms : Marks) → PassesStops (k ms)) → ((ms : Marks) → PassesStops (k' ms)) → ((ms : Marks) (e : End) → NotWaits e → (v : Used) → Grows l m v (k ms e v) (k' ms e v)) → Grows l m u (after (without_answers a) (k a.marks)) (after (without_answers b) (k' b.marks))
  grows_answers l m u a b k k' h ps ps' step g =
      (after_timed l u (without_answers b) (k' b.marks) (outer_timed l u b (h g).0) (both b.marks).0, go (h g).1)
    where
      both : (ms : Marks) → IsTimed l b.used (k' ms b.end b.used) × IsLonger S n (k ms b.end b.used) (k' ms b.end b.used)
      both ms =
          at_waits (Grows l m b.used) (k ms) (k' ms) b.end b.used (ps ms) (ps' ms) (grows_ends l m Waits b.used) (λ x. step ms b.end x b.used) (omega (arith, g, (h g).0.rises))

      go : IsLonger S n a b → IsLonger S n (after (without_answers a) (k a.marks)) (after (without_answers b) (k' b.marks))
      go (inl e) =
          subst (λ (x : Ran). IsLonger S n (after (without_answers x) (k x.marks)) (after (without_answers b) (k' b.marks))) (sym e) (longer_within (without_answers b) (k b.marks) (k' b.marks) (both b.marks).1)
      go (inr s) = inr (longer_further l (without_answers a) (without_answers b) (k a.marks) (k' b.marks) (outer_further a b s) (ps a.marks) (both b.marks).0)

  module _ (w w' : World) (clauses : w'.clauses ≡ w.clauses) (primitives : w'.primitive ≡ w.primitive) (outsides : w'.outside ≡ w.outside) (replies : (k : ℕ) → IsFurther S (slice_get w.replies k) (slice_get w'.replies k)) (limits : w.limit ≤ w'.limit) (spent : w.limit < w'.limit → S Spent) (limit : w.limit ≡ n) where
    grows_kept : (m : ℕ) → IsKept (Grows w'.limit m) w w'
    grows_kept m = record {
      at_end = λ e x u. grows_ends w'.limit m e u;
      at_after = λ u a b k k' h ps ps' step. grows_after w'.limit m u a b k k' h ps ps' step;
      at_told = λ t u a b h. grows_marked w'.limit m (Told t) u a b h;
      at_asked = λ q u go go' h. grows_marked w'.limit m (Asked q) u _ _ (grows_replied w'.limit m u (slice_get w.replies u.replies) (slice_get w'.replies u.replies) go go' (replies u.replies) h);
      at_answers = λ u a b k k' h ps ps' step. grows_answers w'.limit m u a b k k' h ps ps' step;
      same_clauses = clauses;
      same_primitive = primitives;
      same_outside = outsides;
    }

    goes_on : (u : Used) (b : Ran) → w.limit ≤ u.steps → u.steps < w'.limit → IsTimed w'.limit (one_more u) b → GoesOn S n (ends Spent u) b
    goes_on u b g h t = record {
      stopped = spent (omega (arith, g, h));
      more = b.marks;
      is = refl;
      later = λ e. (omega (arith, g, limit, t.rises), from_fewer (suc n) (suc u.steps) b.marks (omega (arith, g, limit)) t.from);
    }

    grows_at_limit : (r' : Runner) → RunsTimed w' r' → (i : Item) (is : List Item) (p : Place) (o : Bool) (u : Used) → w.limit ≤ u.steps → IsLonger S n (ends Spent u) (taken w' r' i is p o u)
    grows_at_limit r' t i is p o u g = go (cases_lt u.steps w'.limit)
      where
        go : (u.steps < w'.limit) ⊎ (w'.limit ≤ u.steps) → IsLonger S n (ends Spent u) (taken w' r' i is p o u)
        go (inl h) = rw (taken_before w' r' i is p o u h) (inr (goes_on u _ g h (item_timed w' r' t i is p o (one_more u))))
        go (inr h) = rw (taken_at_limit w' r' i is p o u h) (inl refl)

    grows_taken : (m : ℕ) (r r' : Runner) → RunsTimed w' r' → ((is : List Item) (p : Place) (o : Bool) (u : Used) → Grows w'.limit (suc m) u (r is p o u) (r' is p o u)) → (i : Item) (is : List Item) (p : Place) (o : Bool) (u : Used) → Grows w'.limit m u (taken w r i is p o u) (taken w' r' i is p o u)
    grows_taken m r r' t h i is p o u g = (taken_timed w' r' t i is p o u, go (cases_lt u.steps w.limit))
      where
        go : (u.steps < w.limit) ⊎ (w.limit ≤ u.steps) → IsLonger S n (taken w r i is p o u) (taken w' r' i is p o u)
        go (inl k) =
            rw (taken_before w r i is p o u k, taken_before w' r' i is p o u (omega (arith, k, limits)))
            ((item_kept (Grows w'.limit (suc m)) w w' (grows_kept (suc m)) r r' h i is p o (one_more u) (omega (arith, g))).1)
        go (inr k) = rw (taken_at_limit w r i is p o u k) (grows_at_limit r' t i is p o u k)

    -- Of two runs, each deep enough for its limit, the second is the first or goes on.
    pub run_grows_on : (d d' m : ℕ) → w.limit ≤ d + m → w'.limit ≤ d' + m → (is : List Item) (p : Place) (o : Bool) (u : Used) → Grows w'.limit m u (run w d is p o u) (run w' d' is p o u)
    unfolding run
    run_grows_on zero zero m h h' [] p o u g = (run_timed w' zero [] p o u, inl refl)
    run_grows_on zero (suc d') m h h' [] p o u g = (run_timed w' zero [] p o u, inl refl)
    run_grows_on (suc d) zero m h h' [] p o u g = (run_timed w' zero [] p o u, inl refl)
    run_grows_on (suc d) (suc d') m h h' [] p o u g = (run_timed w' zero [] p o u, inl refl)
    run_grows_on zero zero m h h' (i ∷ is) p o u g = (ends_timed w'.limit Spent u, inl refl)
    run_grows_on zero (suc d') m h h' (i ∷ is) p o u g =
        (run_timed w' (suc d') (i ∷ is) p o u, grows_at_limit (run w' d') (run_timed w' d') i is p o u (omega (arith, h, g)))
    run_grows_on (suc d) zero m h h' (i ∷ is) p o u g =
        (ends_timed w'.limit Spent u, inl (taken_at_limit w (run w d) i is p o u (omega (arith, h', limits, g))))
    run_grows_on (suc d) (suc d') m h h' (i ∷ is) p o u g =
        grows_taken m (run w d) (run w' d') (run_timed w' d') (run_grows_on d d' (suc m) (omega (arith, h)) (omega (arith, h'))) i is p o u g

-- ---- the depth may be forgotten

abbrev NoEnd : End → Type 0
NoEnd e = ⊥

same_run : (n : ℕ) (a b : Ran) → IsLonger NoEnd n a b → a ≡ b
same_run n a b (inl e) = e
same_run n a b (inr g) = absurd g.stopped

-- a depth that is enough for the limit is as good as any other
pub depth_alike : (w : World) (d d' m : ℕ) → w.limit ≤ d + m → w.limit ≤ d' + m → (is : List Item) (p : Place) (o : Bool) (u : Used) → m ≤ u.steps → run w d is p o u ≡ run w d' is p o u
depth_alike w d d' m h h' is p o u g =
    same_run w.limit _ _ ((run_grows_on NoEnd (λ e x. absurd x) w.limit w w refl refl refl (λ k. inl refl) (omega arith) (λ k. absurd (omega (arith, k))) refl d d' m h h' is p o u g).1)

-- The run of a query's limit: a step is taken, and the rest is a run again. So the depth may be forgotten.
pub run_step : (w : World) (i : Item) (is : List Item) (p : Place) (o : Bool) (u : Used) → run w w.limit (i ∷ is) p o u ≡ taken w (run w w.limit) i is p o u
unfolding run
run_step w i is p o u =
    depth_alike w w.limit (suc w.limit) 0 (omega arith) (omega arith) (i ∷ is) p o u (omega arith)

-- ---- what users hear of

-- an end that isn't a failure of the query's own cut is passed on
query_longer : (S : End → Type 0) (sub : (e : End) → S e → IsStopped e) (w w' : World) → w'.clauses ≡ w.clauses → w'.primitive ≡ w.primitive → w'.outside ≡ w.outside → ((k : ℕ) → IsFurther S (slice_get w.replies k) (slice_get w'.replies k)) → w.limit ≤ w'.limit → (w.limit < w'.limit → S Spent) → (g t : Tree) → IsTimed w'.limit unused (query w' g t) × IsLonger S w.limit (query w g t) (query w' g t)
unfolding query
query_longer S sub w w' clauses primitives outsides replies limits spent g t = go (ready g)
  where
    go : (r : Ready) → IsTimed w'.limit unused (elim r as (λ x. Ran) [
      | Runs h ↦ after (run w' w'.limit (Goal h 1 false ∷ []) (start g t) false unused) (at_cut 1)
      | Throws b ↦ ends (Thrown (numbered b) 0) unused
    ]) × IsLonger S w.limit (elim r as (λ x. Ran) [
      | Runs h ↦ after (run w w.limit (Goal h 1 false ∷ []) (start g t) false unused) (at_cut 1)
      | Throws b ↦ ends (Thrown (numbered b) 0) unused
    ]) (elim r as (λ x. Ran) [
      | Runs h ↦ after (run w' w'.limit (Goal h 1 false ∷ []) (start g t) false unused) (at_cut 1)
      | Throws b ↦ ends (Thrown (numbered b) 0) unused
    ])
    go (Runs h) =
        (grows_kept S sub w.limit w w' clauses primitives outsides replies limits spent refl 0).at_after unused _ _ (at_cut 1) (at_cut 1)
        (run_grows_on S sub w.limit w w' clauses primitives outsides replies limits spent refl w.limit w'.limit 0 (omega arith) (omega arith) (Goal h 1 false ∷ []) (start g t) false unused)
        (cut_passes 1) (cut_passes 1)
        (cut_kept (Grows S sub w.limit w'.limit 0) w w' (grows_kept S sub w.limit w w' clauses primitives outsides replies limits spent refl 0) 1) (omega arith)
    go (Throws b) = (ends_timed w'.limit _ unused, inl refl)

-- with more replies behind the others
further_reply : (S : End → Type 0) (rs ts : List Tree) → S Waits → (k : ℕ) → IsFurther S (slice_get rs k) (slice_get (rs ++ ts) k)
further_reply S [] ts s k = inr (refl, s)
further_reply S (r ∷ rs) ts s zero = inl refl
further_reply S (r ∷ rs) ts s (suc k) = further_reply S rs ts s k

pub more_only_adds : MoreOnlyAdds
more_only_adds w n ts g t = go (query_longer IsStopped (λ e x. x) w (widened n ts w) refl refl refl (further_reply IsStopped w.replies ts (inl refl)) (omega arith) (λ k. inr refl) g t).1
  where
    go : IsLonger IsStopped w.limit (query w g t) (query (widened n ts w) g t) → (query (widened n ts w) g t ≡ query w g t) ⊎ (IsStopped (query w g t).end × Begins (query w g t).marks (query (widened n ts w) g t).marks)
    go (inl e) = inl (sym e)
    go (inr x) = inr (x.stopped, (x.more, x.is))

-- what passes the test of a limit
marks_within-all : (n : ℕ) (ms : Marks) → AllUpTo n ms → marks_within n ms ≡ ms
marks_within-all n [] h = refl
marks_within-all n (m ∷ ms) h =
    ap (λ (b : Bool). cond b (m ∷ marks_within n ms) (marks_within n ms)) (le-leb m.0 n h.0) ∙ ap (λ (x : Marks). m ∷ x) (marks_within-all n ms h.1)

marks_within-none : (n : ℕ) (ms : Marks) → AllFrom (suc n) ms → marks_within n ms ≡ []
marks_within-none n [] h = refl
marks_within-none n (m ∷ ms) h =
    ap (λ (b : Bool). cond b (m ∷ marks_within n ms) (marks_within n ms)) (lt-leb m.0 n (omega (arith, h.0))) ∙ marks_within-none n ms h.1

pub marks_stand : MarksStand
marks_stand w n g t =
    go (query_longer (λ e. e ≡ Spent) (λ e x. inr x) w (record w { limit = w.limit + n }) refl refl refl (λ k. inl refl) (omega arith) (λ k. refl) g t).1
    (query_longer NoEnd (λ e x. absurd x) w w refl refl refl (λ k. inl refl) (omega arith) (λ k. absurd (omega (arith, k))) g t).0
  where
    go : IsLonger (λ e. e ≡ Spent) w.limit (query w g t) (query (record w { limit = w.limit + n }) g t) → IsTimed w.limit unused (query w g t) → (query w g t).marks ≡ marks_within w.limit (query (record w { limit = w.limit + n }) g t).marks
    go (inl e) timed =
        sym (ap (λ (a : Ran). marks_within w.limit a.marks) (sym e) ∙ marks_within-all w.limit (query w g t).marks (timed.up_to (omega arith)))
    go (inr x) timed =
        sym (ap (marks_within w.limit) x.is
        ∙ filter-append (λ (m : ℕ × Mark). nat_le m.0 w.limit) (query w g t).marks x.more
        ∙ ap (λ (y : Marks). y ++ marks_within w.limit x.more) (marks_within-all w.limit (query w g t).marks (timed.up_to (omega arith)))
        ∙ ap (λ (y : Marks). (query w g t).marks ++ y) (marks_within-none w.limit x.more (x.later x.stopped).1)
        ∙ append-nil (query w g t).marks)
