-- The schedule doesn't matter: what a pengine emits begins the list that resolution defines for its acts.
use Rattle.std.proofs.Common.{◌≡◌, ℕ, zero, suc, ◌+◌, ◌-◌, ◌≤◌, ◌<◌, Bool, true, false, ◌&&◌, List, [], ◌∷◌, ◌++◌, length, take, drop, nat_le, nat_lt, if◌then◌else◌, Option, Some, None, refl, ap, sym, subst, ◌∙◌, append_assoc, append-nil, length-append, arith}
use Rattle.std.proofs.lemmas.Bool.{leb-true, leb-false}
use Rattle.std.proofs.Math.Seq.{drop-append_seam, take-append_seam}
use Rattle.term_core.specs.Tree.{Tree}
use Rattle.event_core.specs.declared.event.Event.{Event}
use Rattle.event_core.specs.declared.event.Event.TheVariants as event
use Rattle.event_core.specs.declared.request.Ask.{Ask}
use Rattle.event_core.specs.declared.request.Request.{Request}
use Rattle.event_core.specs.declared.request.Request.TheVariants as request
use Rattle.event_core.specs.declared.rest.Rest.{Rest}
use Rattle.event_core.specs.declared.rest.Rest.TheVariants as rest
use Rattle.event_core.specs.Requests.{kind_of, fit}
use Rattle.event_core.specs.Full.{Spec, Query, part_of, events_of, span, Place, Free, In, Closed, Reading, at, closes, comes_to, gives_all_at, gives_all, gives_at, gives, fitted, asks, consumes_at, consumes, reads, Strike, ByAbort, ByDestroy, ByWant, Act, strikes_at, strikes, left, full_from, full}
use Rattle.event_core.specs.Laws.{Begins}
use Rattle.event_core.proofs.Parts.{begins_trans}
use Rattle.session.specs.After as state
use Rattle.session.specs.After.{without, State, Idle, Running, Ended, Pengine, waiting, emits, ends, begins, fits, first_consumed, consumes_now, settled, Entry, Sent, Pulled, Abort, Destroy, Taken, Given, rest_at, advances, turned_at, aborted_at, destroyed_at, struck, handed_out, entered, after_entry, after, made, most_waiting}
use Rattle.session.specs.Legal.{IsRunning, IsLive, TurnsAt, IsAllowed, ArePossible, act_of, acts}
use Rattle.session.specs.Laws.{IsStill, Gives}
use Rattle.event_core.proofs.Reading.{reads_all_grows, reads_append, reads_one, reads_none, reads_closed, gives_some, gives_whole, Rests, all_stays, stays, Below, gives_on, all_on, gives_grows}

-- The requests after an ask that isn't refused, each of which fits where the query rests.
pub data Fitting (spec : Spec) (a : Ask) : List Request → Type 0 where
  allowed : spec.refusal a ≡ None → Fitting spec a []
  after_next : {rs : List Request} (c : Option ℕ) → Fitting spec a rs → (spec.part a rs).rest ≡ rest.More → Fitting spec a (rs ++ request.Next c ∷ [])
  after_respond : {rs : List Request} (t : Tree) → Fitting spec a rs → (spec.part a rs).rest ≡ rest.Prompting → Fitting spec a (rs ++ request.Respond t ∷ [])

-- An ask that isn't refused gives an event, and so does each request that fits.
pub record Lively (spec : Spec) : Type 0 where
  pub asked : (a : Ask) → spec.refusal a ≡ None → 0 < length (spec.part a []).events
  pub nexted : (a : Ask) (rs : List Request) (c : Option ℕ) → Fitting spec a rs → (spec.part a rs).rest ≡ rest.More → length (spec.part a rs).events < length (spec.part a (rs ++ request.Next c ∷ [])).events
  pub responded : (a : Ask) (rs : List Request) (t : Tree) → Fitting spec a rs → (spec.part a rs).rest ≡ rest.Prompting → length (spec.part a rs).events < length (spec.part a (rs ++ request.Respond t ∷ [])).events

-- the pengine as a reading
abbrev pub place_at : State → ℕ → Place
place_at Idle e = Free
place_at (Running q) e = In q e
place_at (state.More q) e = In q e
place_at (state.Prompting q) e = In q e
place_at Ended e = Closed

abbrev pub seen : Pengine → Reading
seen p = at (place_at p.state p.events) p.emitted

-- a query that runs has further events; one that rests has given all its events
abbrev pub SoundAt : Spec → State → ℕ → Type 0
SoundAt spec Idle e = Unit {0}
SoundAt spec (Running q) e = Fitting spec q.asked q.requests × (e < length (events_of spec q))
SoundAt spec (state.More q) e = Fitting spec q.asked q.requests × (length (events_of spec q) ≡ e) × ((part_of spec q).rest ≡ rest.More)
SoundAt spec (state.Prompting q) e = Fitting spec q.asked q.requests × (length (events_of spec q) ≡ e) × ((part_of spec q).rest ≡ rest.Prompting)
SoundAt spec Ended e = Unit {0}

-- a turn is out only while the query runs
abbrev pub TurnAt : State → Option ℕ → Type 0
TurnAt (Running q) t = Unit {0}
TurnAt s t = t ≡ None

abbrev pub OnlyEnded : State → List Request → Type 0
OnlyEnded Ended rs = Unit {0}
OnlyEnded s rs = rs ≡ []

-- The invariant: the reading y of the n requests that the pengine has consumed agrees with it, where rs are the further requests.
pub record Stands (spec : Spec) (rs : List Request) (n : ℕ) (p : Pengine) (y : Reading) : Type 0 where
  pub here : gives spec p.events y ≡ seen p
  pub below : Below p.events y.place
  pub sound : SoundAt spec p.state p.events
  pub turn : TurnAt p.state p.turn
  -- the requests in the mailbox, and those that the end of the pengine dropped
  pub dropped : List Request
  pub split : rs ≡ p.mailbox ++ dropped
  pub only_ended : OnlyEnded p.state dropped
  pub count : n ≡ p.consumed

-- a query ends
ends_stands : (spec : Spec) (b : Bool) (p : Pengine) → p.turn ≡ None → Stands spec p.mailbox p.consumed (ends b p) (closes b p.emitted)
ends_stands spec true p t = record { here = refl; below = tt; sound = tt; turn = t; dropped = p.mailbox; split = refl; only_ended = tt; count = refl }
ends_stands spec false p t = record { here = refl; below = tt; sound = tt; turn = t; dropped = []; split = sym (append-nil p.mailbox); only_ended = refl; count = refl }

-- a query that rests, whatever was said since
paused_stands : (spec : Spec) (q : Query) (p : Pengine) → SoundAt spec (state.More q) p.events → p.turn ≡ None → Stands spec p.mailbox p.consumed (record p { state = state.More q }) (at (In q p.events) p.emitted)
paused_stands spec q p s t = record {
  here = gives_whole spec q p.events p.events p.emitted (omega (arith, s.1)) ∙ subst (λ (k : ℕ). gives_all_at spec (In q k) p.emitted ≡ at (In q k) p.emitted) s.1 (all_stays spec q p.emitted (subst Rests (sym s.2) tt));
  below = omega arith;
  sound = s;
  turn = t;
  dropped = [];
  split = sym (append-nil p.mailbox);
  only_ended = refl;
  count = refl;
}

awaiting_stands : (spec : Spec) (q : Query) (p : Pengine) → SoundAt spec (state.Prompting q) p.events → p.turn ≡ None → Stands spec p.mailbox p.consumed (record p { state = state.Prompting q }) (at (In q p.events) p.emitted)
awaiting_stands spec q p s t = record {
  here = gives_whole spec q p.events p.events p.emitted (omega (arith, s.1)) ∙ subst (λ (k : ℕ). gives_all_at spec (In q k) p.emitted ≡ at (In q k) p.emitted) s.1 (all_stays spec q p.emitted (subst Rests (sym s.2) tt));
  below = omega arith;
  sound = s;
  turn = t;
  dropped = [];
  split = sym (append-nil p.mailbox);
  only_ended = refl;
  count = refl;
}

-- a query that begins or goes on
running_stands : (spec : Spec) (q : Query) (p : Pengine) → SoundAt spec (Running q) p.events → Stands spec p.mailbox p.consumed (record p { state = Running q }) (at (In q p.events) p.emitted)
running_stands spec q p s = record {
  here = stays spec q p.events p.emitted s.1;
  below = omega arith;
  sound = s;
  turn = tt;
  dropped = [];
  split = sym (append-nil p.mailbox);
  only_ended = refl;
  count = refl;
}

idle_stands : (spec : Spec) (p : Pengine) → p.turn ≡ None → Stands spec p.mailbox p.consumed (record p { state = Idle }) (at Free p.emitted)
idle_stands spec p t = record { here = refl; below = tt; sound = tt; turn = t; dropped = []; split = sym (append-nil p.mailbox); only_ended = refl; count = refl }

-- One request is consumed

asked_stands : (spec : Spec) → Lively spec → (a : Ask) (p : Pengine) → p.turn ≡ None → (v : Option _) → spec.refusal a ≡ v → Stands spec p.mailbox p.consumed (begins spec a v (record p { state = Idle })) (asks spec a v p.emitted)
asked_stands spec law a p t None w = running_stands spec (record { asked = a; requests = [] }) (record p { number = suc p.number; steps = 0; events = 0 }) (allowed w, law.asked a w)
asked_stands spec law a p t (Some e) w = ends_stands spec spec.destroys (emits (event.Error e) (record p { state = Idle; number = suc p.number; steps = 0; events = 0 })) t

fitted_as : (spec : Spec) (q : Query) (g : ℕ) (r : Request) (es : List Event) (w : Rest) → (part_of spec q).rest ≡ w → consumes_at spec r (In q g) es ≡ fitted spec q g r (fit w r) es
fitted_as spec q g r es w h = ap (λ x. fitted spec q g r (fit x r) es) h

pub fits_stands : (spec : Spec) → Lively spec → (s : State) (r : Request) (p : Pengine) → consumes_now s ≡ true → SoundAt spec s p.events → TurnAt s p.turn → Stands spec p.mailbox p.consumed (fits spec s r (record p { state = s })) (consumes_at spec r (place_at s p.events) p.emitted)
fits_stands spec law Idle (request.Ask a) p i s t = asked_stands spec law a p t (spec.refusal a) refl
fits_stands spec law Idle (request.Next c) p i s t = idle_stands spec (emits (event.Protocol (kind_of (request.Next c))) p) t
fits_stands spec law Idle request.Stop p i s t = idle_stands spec (emits (event.Protocol (kind_of request.Stop)) p) t
fits_stands spec law Idle (request.Respond x) p i s t = idle_stands spec (emits (event.Protocol (kind_of (request.Respond x))) p) t
fits_stands spec law (Running q) r p i s t = cc
fits_stands spec law (state.More q) (request.Ask a) p i s t = rw (fitted_as spec q p.events (request.Ask a) p.emitted rest.More s.2) (paused_stands spec q (emits (event.Protocol (kind_of (request.Ask a))) p) s t)
fits_stands spec law (state.More q) (request.Next c) p i s t =
    rw (fitted_as spec q p.events (request.Next c) p.emitted rest.More s.2)
    (running_stands spec (record q { requests = q.requests ++ request.Next c ∷ [] }) p (after_next c s.0 s.2, let h = law.nexted q.asked q.requests c s.0 s.2 in omega (arith, h, s.1)))
fits_stands spec law (state.More q) request.Stop p i s t = rw (fitted_as spec q p.events request.Stop p.emitted rest.More s.2) (ends_stands spec spec.destroys (emits event.Stop (record p { state = state.More q })) t)
fits_stands spec law (state.More q) (request.Respond x) p i s t = rw (fitted_as spec q p.events (request.Respond x) p.emitted rest.More s.2) (paused_stands spec q (emits (event.Protocol (kind_of (request.Respond x))) p) s t)
fits_stands spec law (state.Prompting q) (request.Ask a) p i s t = rw (fitted_as spec q p.events (request.Ask a) p.emitted rest.Prompting s.2) (awaiting_stands spec q (emits (event.Protocol (kind_of (request.Ask a))) p) s t)
fits_stands spec law (state.Prompting q) (request.Next c) p i s t = rw (fitted_as spec q p.events (request.Next c) p.emitted rest.Prompting s.2) (awaiting_stands spec q (emits (event.Protocol (kind_of (request.Next c))) p) s t)
fits_stands spec law (state.Prompting q) request.Stop p i s t = rw (fitted_as spec q p.events request.Stop p.emitted rest.Prompting s.2) (awaiting_stands spec q (emits (event.Protocol (kind_of request.Stop)) p) s t)
fits_stands spec law (state.Prompting q) (request.Respond x) p i s t =
    rw (fitted_as spec q p.events (request.Respond x) p.emitted rest.Prompting s.2)
    (running_stands spec (record q { requests = q.requests ++ request.Respond x ∷ [] }) p (after_respond x s.0 s.2, let h = law.responded q.asked q.requests x s.0 s.2 in omega (arith, h, s.1)))
fits_stands spec law Ended r p i s t = cc

-- where the pengine rests, the query has given all
pub rests_here : (spec : Spec) (s : State) (e : ℕ) (es : List Event) → consumes_now s ≡ true → SoundAt spec s e → gives_all_at spec (place_at s e) es ≡ at (place_at s e) es
rests_here spec Idle e es i s = refl
rests_here spec (Running q) e es i s = cc
rests_here spec (state.More q) e es i s = subst (λ (k : ℕ). gives_all_at spec (In q k) es ≡ at (In q k) es) s.1 (all_stays spec q es (subst Rests (sym s.2) tt))
rests_here spec (state.Prompting q) e es i s = subst (λ (k : ℕ). gives_all_at spec (In q k) es ≡ at (In q k) es) s.1 (all_stays spec q es (subst Rests (sym s.2) tt))
rests_here spec Ended e es i s = refl

at_rest : (spec : Spec) (rs : List Request) (n : ℕ) (p : Pengine) (y : Reading) → Stands spec rs n p y → consumes_now p.state ≡ true → gives_all spec y ≡ seen p
at_rest spec rs n p y h i =
    sym (all_on spec p.events y.place y.emitted h.below) ∙ ap (gives_all spec) h.here ∙ rests_here spec p.state p.events p.emitted i h.sound

stands_as : (spec : Spec) (rs rs' : List Request) (n n' : ℕ) (p : Pengine) (y y' : Reading) → rs ≡ rs' → n ≡ n' → y ≡ y' → Stands spec rs n p y → Stands spec rs' n' p y'
stands_as spec rs rs' n n' p y y' a b c h = subst (λ x. Stands spec x n' p y') a (subst (λ x. Stands spec rs x p y') b (subst (λ x. Stands spec rs n p x) c h))

-- The reading that has consumed c requests, and goes by those that the pengine has consumed besides.
pub record Agrees (spec : Spec) (rs : List Request) (c : ℕ) (x : Reading) (p : Pengine) : Type 0 where
  pub before : List Request
  pub later : List Request
  pub split : rs ≡ before ++ later
  pub stands : Stands spec later (c + length before) p (reads spec before x)

not_dropped : (s : State) (ds : List Request) → consumes_now s ≡ true → OnlyEnded s ds → ds ≡ []
not_dropped Idle ds i h = h
not_dropped (Running q) ds i h = cc
not_dropped (state.More q) ds i h = h
not_dropped (state.Prompting q) ds i h = h
not_dropped Ended ds i h = cc

first_agrees : (spec : Spec) → Lively spec → (rs : List Request) (c : ℕ) (x : Reading) (p : Pengine) → Agrees spec rs c x p → consumes_now p.state ≡ true → (ms : List Request) → p.mailbox ≡ ms → Agrees spec rs c x (first_consumed spec ms p)
first_agrees spec law rs c x p h i [] e = h
first_agrees spec law rs c x p h i (r ∷ ms) e =
    let d : h.stands.dropped ≡ [] = not_dropped p.state h.stands.dropped i h.stands.only_ended in
    let l : h.later ≡ r ∷ ms = h.stands.split ∙ ap (λ z. z ++ h.stands.dropped) e ∙ ap (λ z. (r ∷ ms) ++ z) d ∙ append-nil (r ∷ ms) in
    record {
      before = h.before ++ r ∷ [];
      later = ms;
      split = h.split ∙ ap (λ z. h.before ++ z) l ∙ sym (append_assoc h.before (r ∷ []) ms);
      stands = stands_as spec ms ms _ _ _ _ _ refl
          (omega (arith, h.stands.count, length-append h.before (r ∷ [])))
          (sym (reads_append spec h.before (r ∷ []) x ∙ reads_one spec r (reads spec h.before x) ∙ ap (consumes spec r) (at_rest spec h.later (c + length h.before) p (reads spec h.before x) h.stands i)))
          (fits_stands spec law p.state r (record p { mailbox = ms; consumed = suc p.consumed }) i h.stands.sound h.stands.turn);
    }

pub settle_agrees : (spec : Spec) → Lively spec → (n : ℕ) (rs : List Request) (c : ℕ) (x : Reading) (p : Pengine) → Agrees spec rs c x p → Agrees spec rs c x (settled spec n p)
unfolding settled
settle_agrees spec law zero rs c x p h = h
settle_agrees spec law (suc n) rs c x p h = go (settle_agrees spec law n rs c x (first_consumed spec p.mailbox p)) (consumes_now p.state) refl (nat_lt (waiting p) most_waiting)
  where
    go : (Agrees spec rs c x (first_consumed spec p.mailbox p) → Agrees spec rs c x (settled spec n (first_consumed spec p.mailbox p))) → (a : Bool) → consumes_now p.state ≡ a → (b : Bool) → Agrees spec rs c x (elim (a && b) as (λ z. Pengine) [ true ↦ settled spec n (first_consumed spec p.mailbox p) | false ↦ p ])
    go ih true e true = ih (first_agrees spec law rs c x p h e p.mailbox refl)
    go ih true e false = h
    go ih false e b = h

-- Entries

-- what an entry is read as, and the pengine after it
pub record Enters (spec : Spec) (e : Entry) (p : Pengine) (rs : List Request) (c : ℕ) (x : Reading) : Type 0 where
  pub still : List Request
  pub done : ℕ
  pub reading : Reading
  pub read : (more : List Act) → full_from spec (act_of e p more) rs c x ≡ full_from spec more still done reading
  pub agrees : Agrees spec still done reading (entered spec e p)

taken_before : (rs before later : List Request) (c n : ℕ) → rs ≡ before ++ later → c + length before ≡ n → take (n - c) rs ≡ before
taken_before rs before later c n s k = let m : n - c ≡ length before = omega (arith, k) in rw (s, m) (take-append_seam before later)

dropped_before : (rs before later : List Request) (c n : ℕ) → rs ≡ before ++ later → c + length before ≡ n → drop (n - c) rs ≡ later
dropped_before rs before later c n s k = let m : n - c ≡ length before = omega (arith, k) in rw (s, m) (drop-append_seam before later)

-- a strike is read where the pengine stands
struck_agrees : (spec : Spec) (k : Strike) (n e : ℕ) (rs : List Request) (c : ℕ) (x : Reading) (p q : Pengine) (h : Agrees spec rs c x p) (z : Reading) → gives spec e (reads spec h.before x) ≡ z → Stands spec (left k h.later) p.consumed q (strikes spec k z) → Agrees spec (left k (drop (p.consumed - c) rs)) p.consumed (strikes spec k (gives spec e (reads spec (take (p.consumed - c) rs) x))) q
unfolding reads
struck_agrees spec k n e rs c x p q h z g s = record {
  before = [];
  later = left k (drop (p.consumed - c) rs);
  split = refl;
  stands = stands_as spec _ _ _ _ q _ _
      (ap (left k) (sym (dropped_before rs h.before h.later c p.consumed h.split h.stands.count)))
      (omega arith)
      (ap (strikes spec k) (sym g ∙ ap (λ ss. gives spec e (reads spec ss x)) (sym (taken_before rs h.before h.later c p.consumed h.split h.stands.count))))
      s;
}

abort_stands : (spec : Spec) (s : State) (p : Pengine) → Stands spec [] p.consumed (aborted_at spec s (struck (record p { state = s }))) (strikes_at spec ByAbort (place_at s p.events) p.emitted)
abort_stands spec Idle p = idle_stands spec (struck p) refl
abort_stands spec (Running q) p = ends_stands spec spec.destroys (emits event.Abort (struck (record p { state = Running q }))) refl
abort_stands spec (state.More q) p = ends_stands spec spec.destroys (emits event.Abort (struck (record p { state = state.More q }))) refl
abort_stands spec (state.Prompting q) p = ends_stands spec spec.destroys (emits event.Abort (struck (record p { state = state.Prompting q }))) refl
abort_stands spec Ended p = record { here = refl; below = tt; sound = tt; turn = refl; dropped = []; split = refl; only_ended = tt; count = refl }

destroy_stands : (spec : Spec) (rs : List Request) (s : State) (p : Pengine) → Stands spec rs p.consumed (handed_out (destroyed_at s (struck (record p { state = s })))) (strikes_at spec ByDestroy (place_at s p.events) p.emitted)
destroy_stands spec rs Idle p = record { here = refl; below = tt; sound = tt; turn = refl; dropped = rs; split = refl; only_ended = tt; count = refl }
destroy_stands spec rs (Running q) p = record { here = refl; below = tt; sound = tt; turn = refl; dropped = rs; split = refl; only_ended = tt; count = refl }
destroy_stands spec rs (state.More q) p = record { here = refl; below = tt; sound = tt; turn = refl; dropped = rs; split = refl; only_ended = tt; count = refl }
destroy_stands spec rs (state.Prompting q) p = record { here = refl; below = tt; sound = tt; turn = refl; dropped = rs; split = refl; only_ended = tt; count = refl }
destroy_stands spec rs Ended p = record { here = refl; below = tt; sound = tt; turn = refl; dropped = rs; split = refl; only_ended = tt; count = refl }

-- Turns

below_more : (e f : ℕ) (p : Place) → e ≤ f → Below e p → Below f p
below_more e f Free h k = tt
below_more e f (In q g) h k = omega arith
below_more e f Closed h k = tt

-- what the reading gives up to the f-th event, where the pengine has given e
runs_on : (spec : Spec) (q : Query) (rs : List Request) (n f : ℕ) (p : Pengine) (y : Reading) → Stands spec rs n (record p { state = Running q }) y → p.events ≤ f → gives spec f y ≡ gives_at spec f (In q p.events) p.emitted
runs_on spec q rs n f p y h k = sym (gives_on spec p.events f y.place y.emitted h.below k) ∙ ap (gives spec f) h.here

come_stands : (spec : Spec) (q : Query) (rs : List Request) (n : ℕ) (p : Pengine) (y : Reading) (w : Rest) → (part_of spec q).rest ≡ w → gives spec p.events y ≡ comes_to spec q w p.emitted → Below p.events y.place → rs ≡ p.mailbox → n ≡ p.consumed → p.turn ≡ None → Fitting spec q.asked q.requests → length (events_of spec q) ≡ p.events → Stands spec rs n (rest_at spec q w p) y
come_stands spec q rs n p y rest.More e g b s c t v l = record {
  here = g ∙ ap (λ k. at (In q k) p.emitted) l;
  below = b;
  sound = (v, l, e);
  turn = t;
  dropped = [];
  split = s ∙ sym (append-nil p.mailbox);
  only_ended = refl;
  count = c;
}
come_stands spec q rs n p y rest.Prompting e g b s c t v l = record {
  here = g ∙ ap (λ k. at (In q k) p.emitted) l;
  below = b;
  sound = (v, l, e);
  turn = t;
  dropped = [];
  split = s ∙ sym (append-nil p.mailbox);
  only_ended = refl;
  count = c;
}
come_stands spec q rs n p y rest.Over e g b s c t v l = go spec.destroys g
  where
    go : (d : Bool) → gives spec p.events y ≡ closes d p.emitted → Stands spec rs n (ends d p) y
    go true g = record { here = g; below = b; sound = tt; turn = t; dropped = rs; split = refl; only_ended = tt; count = c }
    go false g = record { here = g; below = b; sound = tt; turn = t; dropped = []; split = s ∙ sym (append-nil p.mailbox); only_ended = refl; count = c }

turn_stands : (spec : Spec) (q : Query) (rs : List Request) (m n e : ℕ) (p : Pengine) (y : Reading) → Stands spec rs m (record p { state = Running q }) y → p.events ≤ e → e ≤ length (events_of spec q) → Stands spec rs m (advances spec q n e false (record p { state = Running q; turn = None })) y
turn_stands spec q rs m n e p y h k l = go (nat_le (length (events_of spec q)) e) refl
  where
    r : Pengine
    r = record p { state = Running q; turn = None; steps = n; events = e; emitted = p.emitted ++ span spec q p.events e }

    s : rs ≡ p.mailbox
    s = h.split ∙ ap (λ z. p.mailbox ++ z) h.only_ended ∙ append-nil p.mailbox

    go : (b : Bool) → nat_le (length (events_of spec q)) e ≡ b → Stands spec rs m (if b then rest_at spec q (part_of spec q).rest r else r) y
    go true w =
        let o : length (events_of spec q) ≤ e = leb-true _ _ w in
        let v : length (events_of spec q) ≡ e = omega (arith, o, l) in
        come_stands spec q rs m r y (part_of spec q).rest refl
        (runs_on spec q rs m e p y h k ∙ gives_whole spec q p.events e p.emitted o ∙ ap (λ j. comes_to spec q (part_of spec q).rest (p.emitted ++ span spec q p.events j)) v)
        (below_more p.events e y.place k h.below) s h.count refl h.sound.0 v
    go false w =
        let o : e < length (events_of spec q) = leb-false _ _ w in
        record {
          here = runs_on spec q rs m e p y h k ∙ gives_some spec q p.events e p.emitted o;
          below = below_more p.events e y.place k h.below;
          sound = (h.sound.0, o);
          turn = tt;
          dropped = [];
          split = s ∙ sym (append-nil p.mailbox);
          only_ended = refl;
          count = h.count;
        }

starve_stands : (spec : Spec) (q : Query) (rs : List Request) (m n e : ℕ) (p : Pengine) (y : Reading) → Stands spec rs m (record p { state = Running q }) y → Stands spec rs p.consumed (advances spec q n e true (record p { state = Running q; turn = None })) (strikes spec ByWant (at (In q e) (p.emitted ++ span spec q p.events e)))
starve_stands spec q rs m n e p y h =
    let r : Pengine = record p { state = Running q; turn = None; steps = n; events = e; emitted = p.emitted ++ span spec q p.events e } in
    let s : rs ≡ p.mailbox = h.split ∙ ap (λ z. p.mailbox ++ z) h.only_ended ∙ append-nil p.mailbox in
    stands_as spec p.mailbox rs _ _ (ends spec.destroys (emits event.Memory r)) _ _ (sym s) refl refl (ends_stands spec spec.destroys (emits event.Memory r) refl)

-- Each entry

send_stands : (spec : Spec) (rs : List Request) (n : ℕ) (r : Request) (s : State) (p : Pengine) (y : Reading) → IsLive s → Stands spec rs n (record p { state = s }) y → Stands spec (rs ++ r ∷ []) n (record p { state = s; mailbox = p.mailbox ++ r ∷ [] }) y
send_stands spec rs n r s p y l h = record {
  here = h.here;
  below = h.below;
  sound = h.sound;
  turn = h.turn;
  dropped = [];
  split = ap (λ z. z ++ r ∷ []) (h.split ∙ ap (λ z. p.mailbox ++ z) (none s l h.dropped h.only_ended) ∙ append-nil p.mailbox) ∙ sym (append-nil (p.mailbox ++ r ∷ []));
  only_ended = empty s l;
  count = h.count;
}
  where
    none : (s : State) → IsLive s → (ds : List Request) → OnlyEnded s ds → ds ≡ []
    none Idle l ds h = h
    none (Running q) l ds h = h
    none (state.More q) l ds h = h
    none (state.Prompting q) l ds h = h
    none Ended l ds h = absurd l

    empty : (s : State) → IsLive s → OnlyEnded s []
    empty Idle l = refl
    empty (Running q) l = refl
    empty (state.More q) l = refl
    empty (state.Prompting q) l = refl
    empty Ended l = tt

take_turn : (s : State) (t : Option ℕ) → IsRunning s → TurnAt s t
take_turn Idle t h = absurd h
take_turn (Running q) t h = tt
take_turn (state.More q) t h = absurd h
take_turn (state.Prompting q) t h = absurd h
take_turn Ended t h = absurd h

lost : (spec : Spec) (k : ℕ) (rs : List Request) (n : ℕ) (p : Pengine) (y : Reading) → Stands spec rs n p y → Stands spec rs n (record p { lost = without k p.lost }) y
lost spec k rs n p y v = record { here = v.here; below = v.below; sound = v.sound; turn = v.turn; dropped = v.dropped; split = v.split; only_ended = v.only_ended; count = v.count }

pub turn : (spec : Spec) (budget n e : ℕ) (rs : List Request) (m : ℕ) (p : Pengine) (y : Reading) (s : State) (t : Option ℕ) → TurnsAt spec budget s t p n e false → Stands spec rs m (record p { state = s }) y → Stands spec rs m (turned_at spec n e false s (record p { state = s; turn = None })) y
turn spec budget n e rs m p y (Running q) (Some room) l h = turn_stands spec q rs m (p.steps + n) (p.events + e) p y h (omega arith) l.within
turn spec budget n e rs m p y Idle t l h = absurd l
turn spec budget n e rs m p y (Running q) None l h = absurd l
turn spec budget n e rs m p y (state.More q) t l h = absurd l
turn spec budget n e rs m p y (state.Prompting q) t l h = absurd l
turn spec budget n e rs m p y Ended t l h = absurd l

-- a turn that starved is read as a strike
starve : (spec : Spec) (budget n e : ℕ) (rs : List Request) (c : ℕ) (x : Reading) (p : Pengine) (h : Agrees spec rs c x p) (s : State) (t : Option ℕ) → TurnsAt spec budget s t p n e true → Stands spec h.later (c + length h.before) (record p { state = s }) (reads spec h.before x) → Agrees spec (drop (p.consumed - c) rs) p.consumed (strikes spec ByWant (gives spec (p.events + e) (reads spec (take (p.consumed - c) rs) x))) (turned_at spec n e true s (record p { state = s; turn = None }))
starve spec budget n e rs c x p h (Running q) (Some room) l v =
    struck_agrees spec ByWant (p.steps + n) (p.events + e) rs c x p _ h (at (In q (p.events + e)) (p.emitted ++ span spec q p.events (p.events + e)))
    (runs_on spec q h.later (c + length h.before) (p.events + e) p (reads spec h.before x) v (omega arith) ∙ gives_some spec q p.events (p.events + e) p.emitted l.unfinished)
    (starve_stands spec q h.later (c + length h.before) (p.steps + n) (p.events + e) p (reads spec h.before x) v)
starve spec budget n e rs c x p h Idle t l v = absurd l
starve spec budget n e rs c x p h (Running q) None l v = absurd l
starve spec budget n e rs c x p h (state.More q) t l v = absurd l
starve spec budget n e rs c x p h (state.Prompting q) t l v = absurd l
starve spec budget n e rs c x p h Ended t l v = absurd l

pub entry_enters : (spec : Spec) (budget : ℕ) (e : Entry) (p : Pengine) (rs : List Request) (c : ℕ) (x : Reading) → IsAllowed spec budget e p → Agrees spec rs c x p → Enters spec e p rs c x
unfolding full_from
entry_enters spec budget (Sent r) p rs c x l h = record {
  still = rs ++ r ∷ [];
  done = c;
  reading = x;
  read = λ more. refl;
  agrees = record {
    before = h.before;
    later = h.later ++ r ∷ [];
    split = ap (λ z. z ++ r ∷ []) h.split ∙ append_assoc h.before h.later (r ∷ []);
    stands = send_stands spec h.later (c + length h.before) r p.state p (reads spec h.before x) l.0 h.stands;
  };
}
entry_enters spec budget (Pulled m) p rs c x l h = record {
  still = rs;
  done = c;
  reading = x;
  read = λ more. refl;
  agrees = record { before = h.before; later = h.later; split = h.split; stands = same h.stands };
}
  where
    same : (v : Stands spec h.later (c + length h.before) p (reads spec h.before x)) → Stands spec h.later (c + length h.before) (record p { pulled = p.pulled + m }) (reads spec h.before x)
    same v = record { here = v.here; below = v.below; sound = v.sound; turn = v.turn; dropped = v.dropped; split = v.split; only_ended = v.only_ended; count = v.count }
entry_enters spec budget Abort p rs c x l h = record {
  still = [];
  done = p.consumed;
  reading = strikes spec ByAbort (gives spec p.events (reads spec (take (p.consumed - c) rs) x));
  read = λ more. refl;
  agrees = struck_agrees spec ByAbort p.steps p.events rs c x p _ h (seen p) h.stands.here (abort_stands spec p.state p);
}
entry_enters spec budget Destroy p rs c x l h = record {
  still = drop (p.consumed - c) rs;
  done = p.consumed;
  reading = strikes spec ByDestroy (gives spec p.events (reads spec (take (p.consumed - c) rs) x));
  read = λ more. refl;
  agrees = struck_agrees spec ByDestroy p.steps p.events rs c x p _ h (seen p) h.stands.here (destroy_stands spec h.later p.state p);
}
entry_enters spec budget Taken p rs c x l h = record {
  still = rs;
  done = c;
  reading = x;
  read = λ more. refl;
  agrees = record { before = h.before; later = h.later; split = h.split; stands = same h.stands };
}
  where
    same : (v : Stands spec h.later (c + length h.before) p (reads spec h.before x)) → Stands spec h.later (c + length h.before) (record p { turn = Some (most_waiting - waiting p) }) (reads spec h.before x)
    same v = record { here = v.here; below = v.below; sound = v.sound; turn = take_turn p.state _ l.0; dropped = v.dropped; split = v.split; only_ended = v.only_ended; count = v.count }
entry_enters spec budget (Given k n e true false) p rs c x l h = record {
  still = rs;
  done = c;
  reading = x;
  read = λ more. refl;
  agrees = record { before = h.before; later = h.later; split = h.split; stands = lost spec k h.later _ p _ h.stands };
}
entry_enters spec budget (Given k n e false false) p rs c x l h = record {
  still = rs;
  done = c;
  reading = x;
  read = λ more. refl;
  agrees = record { before = h.before; later = h.later; split = h.split; stands = lost spec k h.later _ p _ h.stands };
}
entry_enters spec budget (Given k n e true true) p rs c x l h = record {
  still = drop (p.consumed - c) rs;
  done = p.consumed;
  reading = strikes spec ByWant (gives spec (p.events + e) (reads spec (take (p.consumed - c) rs) x));
  read = λ more. refl;
  agrees = starve spec budget n e rs c x p h p.state p.turn l.1 h.stands;
}
entry_enters spec budget (Given k n e false true) p rs c x l h = record {
  still = rs;
  done = c;
  reading = x;
  read = λ more. refl;
  agrees = record { before = h.before; later = h.later; split = h.split; stands = turn spec budget n e h.later _ p _ p.state p.turn l.1 h.stands };
}

-- The law

now_begins : (spec : Spec) (rs : List Request) (c : ℕ) (x : Reading) (p : Pengine) → Agrees spec rs c x p → Begins p.emitted (gives_all spec (reads spec rs x)).emitted
now_begins spec rs c x p h =
    let y : Reading = reads spec h.before x in
    let a : Begins (gives spec p.events y).emitted (gives_all spec y).emitted = gives_grows spec p.events y.place y.emitted h.stands.below in
    let b : Begins p.emitted (gives_all spec y).emitted = subst (λ (z : Reading). Begins z.emitted (gives_all spec y).emitted) h.stands.here a in
    let d : Begins (gives_all spec y).emitted (gives_all spec (reads spec h.later y)).emitted = reads_all_grows spec h.later y in
    rw (h.split, reads_append) (begins_trans _ _ _ b d)

closed_all : (spec : Spec) (y : Reading) (es : List Event) → gives_all spec y ≡ at Closed es → (ds : List Request) → gives_all spec (reads spec ds y) ≡ at Closed es
unfolding reads
closed_all spec y es h [] = h
closed_all spec y es h (r ∷ ds) = ap (λ z. gives_all spec (reads spec ds (consumes spec r z))) h ∙ ap (gives_all spec) (reads_closed spec ds es)

now_all : (spec : Spec) (rs : List Request) (c : ℕ) (x : Reading) (p : Pengine) → Agrees spec rs c x p → IsStill p.state → p.mailbox ≡ [] → (gives_all spec (reads spec rs x)).emitted ≡ p.emitted
now_all spec rs c x p h i m =
    let y : Reading = reads spec h.before x in
    let l : h.later ≡ h.stands.dropped = h.stands.split ∙ ap (λ z. z ++ h.stands.dropped) m in
    rw (h.split, reads_append, l) (go y p.state h.stands.dropped h.stands.only_ended i h.stands.sound (all_on spec p.events y.place y.emitted h.stands.below) h.stands.here)
  where
    go : (y : Reading) (s : State) (ds : List Request) → OnlyEnded s ds → IsStill s → SoundAt spec s p.events → gives_all spec (gives spec p.events y) ≡ gives_all spec y → gives spec p.events y ≡ at (place_at s p.events) p.emitted → (gives_all spec (reads spec ds y)).emitted ≡ p.emitted
    go y Ended ds o i s a g = ap (λ (z : Reading). z.emitted) (closed_all spec y p.emitted (sym a ∙ ap (gives_all spec) g) ds)
    go y (Running q) ds o i s a g = absurd i
    go y Idle ds o i s a g = rw (o, reads_none) (ap (λ (z : Reading). z.emitted) (sym a ∙ ap (gives_all spec) g))
    go y (state.More q) ds o i s a g = rw (o, reads_none) (ap (λ (z : Reading). z.emitted) (sym a ∙ ap (gives_all spec) g ∙ rests_here spec (state.More q) p.events p.emitted refl s))
    go y (state.Prompting q) ds o i s a g = rw (o, reads_none) (ap (λ (z : Reading). z.emitted) (sym a ∙ ap (gives_all spec) g ∙ rests_here spec (state.Prompting q) p.events p.emitted refl s))

schedule_from : (spec : Spec) → Lively spec → (es : List Entry) (rs : List Request) (c : ℕ) (x : Reading) (p : Pengine) → ArePossible spec es p → Agrees spec rs c x p → Gives (after spec es p) (full_from spec (acts spec es p) rs c x)
unfolding full_from after acts ArePossible
schedule_from spec law [] rs c x p l h = record { begins = now_begins spec rs c x p h; whole = λ i m. now_all spec rs c x p h i m }
schedule_from spec law (e ∷ es) rs c x p l h =
    let t : Enters spec e p rs c x = entry_enters spec l.0.0 e p rs c x l.0.1 h in
    let q : Pengine = entered spec e p in
    rw (t.read (acts spec es (after_entry spec e p)))
    (schedule_from spec law es t.still t.done t.reading (after_entry spec e p) l.1 (settle_agrees spec law (length q.mailbox) t.still t.done t.reading q t.agrees))

pub made_agrees : (spec : Spec) → Agrees spec [] 0 (at Free (event.Create ∷ [])) made
unfolding reads
made_agrees spec = record { before = []; later = []; split = refl; stands = record { here = refl; below = tt; sound = tt; turn = refl; dropped = []; split = refl; only_ended = refl; count = refl } }

-- For every list of entries that a pengine can have, the events emitted begin the list that resolution defines for its acts, and are all of it where the pengine doesn't run and its mailbox is empty.
pub schedule : (spec : Spec) → Lively spec → (es : List Entry) → ArePossible spec es made → Gives (after spec es made) (full spec (acts spec es made))
schedule spec law es l = schedule_from spec law es [] 0 (at Free (event.Create ∷ [])) made l (made_agrees spec)
