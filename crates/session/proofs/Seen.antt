-- What the code does to a pengine, and what the definition does, look the same.
use Rattle.std.proofs.Common.{◌≡◌, ◌≢◌, ℕ, zero, suc, ◌+◌, ◌-◌, ◌≤◌, ◌<◌, ◌^◌, min, Bool, true, false, ◌&&◌, List, [], ◌∷◌, ◌++◌, map, length, take, drop, slice_get, nat_lt, nat_le, if◌then◌else◌, Option, Some, None, All, refl, ap, sym, subst, ◌∙◌, append_assoc, append-nil, length-append, length-take, IsTrue, arith}
use Rattle.std.proofs.Math.Seq.{drop-append_seam}
use Rattle.std.proofs.lemmas.List.{map-append, length-map, take-append-drop}
use Rattle.std.proofs.lemmas.List.Elements.{All-push, All-nil, All-rest, All-head, All-drop}
use Rattle.std.proofs.lemmas.Bool.{ltb-true, lt-ltb}
use Rattle.circular_buffer.specs.Buffer.{buffer}
use Rattle.term_core.specs.Tree.{Tree}
use Rattle.event_core.specs.declared.event.Event.{Event}
use Rattle.event_core.specs.declared.event.Event.TheVariants as event
use Rattle.event_core.specs.declared.fit.Fit.{Fit}
use Rattle.event_core.specs.declared.fit.Fit.TheVariants.{GoesOn, Stops, Misfit}
use Rattle.event_core.specs.declared.request.Ask.{Ask}
use Rattle.event_core.specs.declared.request.Request.{Request}
use Rattle.event_core.specs.declared.request.Request.TheVariants as request
use Rattle.event_core.specs.declared.rest.Rest.{Rest}
use Rattle.event_core.specs.declared.rest.Rest.TheVariants as rest
use Rattle.event_core.specs.Requests.{kind_of, fit}
use Rattle.program.specs.Loaded.{Loaded}
use Rattle.event_core.specs.declared.settings.Settings.{Settings}
use Rattle.event_core.specs.Standing.{spec_of}
use Rattle.event_core.specs.Full.{Spec, Query, part_of, events_of, span}
use Rattle.session.specs.declared.query.Query as kept
use Rattle.session.specs.declared.turn.Gone as kept_turn
use Rattle.session.specs.declared.letter.Letter.{Letter}
use Rattle.session.specs.declared.state.State.{State as Place}
use Rattle.session.specs.declared.state.State.TheVariants as at
use Rattle.session.specs.declared.automaton.Automaton.{Automaton}
use Rattle.session.specs.After as state
use Rattle.session.specs.After.{State, Pengine, waiting, emits, ends, begins, fits, first_consumed, consumes_now, settled, aborted_at, destroyed_at, handed_out, rest_at, advances, turned_at, struck, most_waiting, after_entry, after, made, Entry, without, Sent, Pulled, Abort, Taken, Given, Destroy}
use Rattle.session.specs.Views.{Look, Idle, Running, Out, More, Prompting, Ended, View, IsLook, IsKept, IsSeen, spec_seen, Does, Enters, out, taken}
use Rattle.event_core.specs.declared.spec.Spec as wanted
use Rattle.session.specs.Begun.{first_of, IsBegun}
use Rattle.session.specs.Answers.{is_turn, takes, takes_at, last_of}
use Rattle.session.specs.Kept.{query_of, look_of, requests_of, view_of, resting, rests, rests_now, is_busy, MayWait, further_of, Refuses, IsLetter, IsSound, IsBack, Tells, TakesBack, says, closed}

-- one event more
pub said : (v : View) (p : Pengine) (e : Event) → IsKept v p → IsKept (record v { queue = v.queue ++ e ∷ [] }) (emits e p)
said v p e h = record {
  mailbox = h.mailbox;
  number = h.number;
  steps = h.steps;
  events = h.events;
  pulled = h.pulled;
  before = h.before;
  handed = h.handed;
  emitted = ap (λ es. es ++ e ∷ []) h.emitted ∙ append_assoc h.before v.queue (e ∷ []);
}

-- the same elsewhere
pub moved : (v : View) (p : Pengine) (l : Look) (s : State) (t : Option ℕ) → IsKept v p → IsKept (record v { look = l }) (record p { state = s; turn = t })
moved v p l s t h = record {
  mailbox = h.mailbox;
  number = h.number;
  steps = h.steps;
  events = h.events;
  pulled = h.pulled;
  before = h.before;
  handed = h.handed;
  emitted = h.emitted;
}

-- A query ends

pub closed_seen : (b : Bool) (a : Automaton) (p : Pengine) → p.turn ≡ None → IsKept (view_of a) p → IsSeen (view_of (closed b a)) (ends b p)
closed_seen true a p t h =
    let k : IsKept (record (view_of a) { queue = a.queue.items ++ event.Destroy ∷ [] }) (emits event.Destroy p) = said (view_of a) p event.Destroy h in
    record {
      look = (refl, t);
      kept = record {
        mailbox = refl;
        number = k.number;
        steps = k.steps;
        events = k.events;
        pulled = k.pulled;
        before = k.before;
        handed = k.handed;
        emitted = k.emitted;
      };
    }
closed_seen false a p t h = record { look = (refl, t); kept = moved (view_of a) p Idle state.Idle p.turn h }

-- what holds wherever the pengine stands, before a query ends
pub record IsFair (a : Automaton) : Type 0 where
  pub queue_room : a.queue.capacity ≡ 66
  pub mailbox_room : a.mailbox.capacity ≡ 64
  pub waits : length a.queue.items ≤ 65
  pub box : length a.mailbox.items ≤ 64
  pub count : a.number + length a.mailbox.items ≤ a.accepted
  pub bound : a.accepted ≤ 2 ^ 62
  pub letters : All (IsLetter a.program.value a.settings) a.mailbox.items

longer : {A : Type 0} (xs : List A) (x : A) → length (xs ++ x ∷ []) ≡ suc (length xs)
longer xs x = length-append xs (x ∷ []) ∙ one (length xs)
  where
    one : (n : ℕ) → n + 1 ≡ suc n
    one n = omega arith

pub closed_sound : (b : Bool) (a : Automaton) → IsFair a → IsSound (closed b a)
closed_sound true a h = record {
  queue_room = h.queue_room;
  mailbox_room = h.mailbox_room;
  waits = omega (arith, h.waits, longer a.queue.items event.Destroy);
  box = omega arith;
  count = omega (arith, h.count);
  bound = h.bound;
  letters = All-nil (IsLetter a.program.value a.settings);
  program = tt;
}
closed_sound false a h = record {
  queue_room = h.queue_room;
  mailbox_room = h.mailbox_room;
  waits = h.waits;
  box = h.box;
  count = omega (arith, h.count);
  bound = h.bound;
  letters = h.letters;
  program = tt;
}

-- A query begins

abbrev pub counted : Automaton → Automaton
counted a = record a { number = a.number + 1; steps = 0; events = 0 }

counted_kept : (a : Automaton) (p : Pengine) → IsKept (view_of a) p → IsKept (view_of (counted a)) (record p { number = suc p.number; steps = 0; events = 0 })
counted_kept a p h = record {
  mailbox = h.mailbox;
  number = omega (arith, h.number);
  steps = refl;
  events = refl;
  pulled = h.pulled;
  before = h.before;
  handed = h.handed;
  emitted = h.emitted;
}

pub begun_seen : (spec : Spec) (q : kept.Query) (a : Automaton) (p : Pengine) → q.requests ≡ [] → p.turn ≡ None → IsKept (view_of a) p → IsSeen (view_of (record (counted a) { state = at.Running q })) (begins spec q.ask None p)
begun_seen spec q a p e t h = record {
  look = (ap (λ rs. state.Running (record { asked = q.ask; requests = rs })) (sym e), t);
  kept = moved (view_of (counted a)) (record p { number = suc p.number; steps = 0; events = 0 }) (Running (query_of q)) (state.Running (record { asked = q.ask; requests = [] })) p.turn (counted_kept a p h);
}

pub refused_seen : (spec : Spec) (ask : Ask) (t : Tree) (a : Automaton) (p : Pengine) → p.turn ≡ None → IsKept (view_of a) p → IsSeen (view_of (closed spec.destroys (says (event.Error t) (counted a)))) (begins spec ask (Some t) p)
refused_seen spec ask t a p n h =
    closed_seen spec.destroys (says (event.Error t) (counted a)) (emits (event.Error t) (record p { number = suc p.number; steps = 0; events = 0 })) n
    (said (view_of (counted a)) (record p { number = suc p.number; steps = 0; events = 0 }) (event.Error t) (counted_kept a p h))

-- A request is consumed

-- not an ask
abbrev pub IsFurther : Request → Type 0
IsFurther (request.Ask a) = ⊥
IsFurther r = Unit {0}

pub fits_idle : (spec : Spec) (s : State) (r : Request) (p : Pengine) → s ≡ state.Idle → IsFurther r → fits spec s r p ≡ emits (event.Protocol (kind_of r)) p
fits_idle spec s r p e f = subst (λ z. fits spec z r p ≡ emits (event.Protocol (kind_of r)) p) (sym e) (go r f)
  where
    go : (r : Request) → IsFurther r → fits spec state.Idle r p ≡ emits (event.Protocol (kind_of r)) p
    go (request.Ask a) f = absurd f
    go (request.Next c) f = refl
    go request.Stop f = refl
    go (request.Respond x) f = refl

pub fits_ask : (spec : Spec) (s : State) (a : Ask) (p : Pengine) → s ≡ state.Idle → fits spec s (request.Ask a) p ≡ begins spec a (spec.refusal a) p
fits_ask spec s a p e = subst (λ z. fits spec z (request.Ask a) p ≡ begins spec a (spec.refusal a) p) (sym e) refl

-- what a request does where a query rests
abbrev pub fitted : Spec → Query → Request → Fit → Pengine → Pengine
fitted spec q r GoesOn p = record p { state = state.Running (record q { requests = q.requests ++ r ∷ [] }) }
fitted spec q r Stops p = ends spec.destroys (emits event.Stop p)
fitted spec q r Misfit p = emits (event.Protocol (kind_of r)) p

pub fits_resting : (spec : Spec) (k : Rest) (q : Query) (r : Request) (p : Pengine) → k ≢ rest.Over → IsLook (resting k q) p.state p.turn → fits spec p.state r p ≡ fitted spec q r (fit k r) p
fits_resting spec rest.More q r p n l = subst (λ z. fits spec z r p ≡ fitted spec q r (fit rest.More r) p) (sym l.0) (go r)
  where
    go : (r : Request) → fits spec (state.More q) r p ≡ fitted spec q r (fit rest.More r) p
    go (request.Ask a) = refl
    go (request.Next c) = refl
    go request.Stop = refl
    go (request.Respond x) = refl
fits_resting spec rest.Prompting q r p n l = subst (λ z. fits spec z r p ≡ fitted spec q r (fit rest.Prompting r) p) (sym l.0) (go r)
  where
    go : (r : Request) → fits spec (state.Prompting q) r p ≡ fitted spec q r (fit rest.Prompting r) p
    go (request.Ask a) = refl
    go (request.Next c) = refl
    go request.Stop = refl
    go (request.Respond x) = refl
fits_resting spec rest.Over q r p n l = absurd (n refl)

-- no turn is out where a query rests
pub resting_turn : (k : Rest) (q : Query) (s : State) (t : Option ℕ) → IsLook (resting k q) s t → t ≡ None
resting_turn rest.More q s t l = l.1
resting_turn rest.Prompting q s t l = l.1
resting_turn rest.Over q s t l = l.1

pub went_on_seen : (q : kept.Query) (r : Request) (a : Automaton) (p : Pengine) → p.turn ≡ None → IsKept (view_of a) p →
    IsSeen (view_of (record a { state = at.Running (record q { requests = q.requests ++ r ∷ [] }) })) (record p { state = state.Running (record { asked = q.ask; requests = q.requests ++ r ∷ [] }) })
went_on_seen q r a p t h = record {
  look = (refl, t);
  kept = moved (view_of a) p (Running (record { asked = q.ask; requests = q.requests ++ r ∷ [] })) (state.Running (record { asked = q.ask; requests = q.requests ++ r ∷ [] })) p.turn h;
}

-- a misfit leaves the query where it rests
pub misfit_seen : (k : Rest) (q : kept.Query) (e : Event) (a : Automaton) (p : Pengine) → IsLook (resting k (query_of q)) p.state p.turn → IsKept (view_of a) p → IsSeen (view_of (record (says e a) { state = rests k q })) (emits e p)
misfit_seen rest.More q e a p l h = record { look = l; kept = moved (view_of (says e a)) (emits e p) (More (query_of q)) p.state p.turn (said (view_of a) p e h) }
misfit_seen rest.Prompting q e a p l h = record { look = l; kept = moved (view_of (says e a)) (emits e p) (Prompting (query_of q)) p.state p.turn (said (view_of a) p e h) }
misfit_seen rest.Over q e a p l h = record { look = l; kept = moved (view_of (says e a)) (emits e p) Idle p.state p.turn (said (view_of a) p e h) }

pub rests_sound : (k : Rest) (q : kept.Query) (a : Automaton) → IsFair a → length a.queue.items ≤ 64 → a.number + length q.requests + length a.mailbox.items ≤ a.accepted → q.program.value ≡ a.program.value → IsSound (record a { state = rests k q })
rests_sound rest.More q a h w n c = record { queue_room = h.queue_room; mailbox_room = h.mailbox_room; waits = w; box = h.box; count = n; bound = h.bound; letters = h.letters; program = c }
rests_sound rest.Prompting q a h w n c = record { queue_room = h.queue_room; mailbox_room = h.mailbox_room; waits = w; box = h.box; count = n; bound = h.bound; letters = h.letters; program = c }
rests_sound rest.Over q a h w n c = record { queue_room = h.queue_room; mailbox_room = h.mailbox_room; waits = h.waits; box = h.box; count = omega (arith, h.count); bound = h.bound; letters = h.letters; program = tt }

-- Requests are consumed

unfolded : (spec : Spec) (n : ℕ) (p : Pengine) (b : Bool) → consumes_now p.state && nat_lt (waiting p) most_waiting ≡ b → settled spec (suc n) p ≡ elim b as (λ z. Pengine) [ true ↦ settled spec n (first_consumed spec p.mailbox p) | false ↦ p ]
unfolding settled
unfolded spec n p b e = ap (λ z. elim z as (λ z. Pengine) [ true ↦ settled spec n (first_consumed spec p.mailbox p) | false ↦ p ]) e

pub settled_none : (spec : Spec) (p : Pengine) → settled spec 0 p ≡ p
unfolding settled
settled_none spec p = refl

pub stays : (spec : Spec) (n : ℕ) (p : Pengine) → consumes_now p.state && nat_lt (waiting p) most_waiting ≡ false → settled spec n p ≡ p
stays spec zero p e = settled_none spec p
stays spec (suc n) p e = unfolded spec n p false e

pub goes : (spec : Spec) (n : ℕ) (p : Pengine) → consumes_now p.state && nat_lt (waiting p) most_waiting ≡ true → settled spec (suc n) p ≡ settled spec n (first_consumed spec p.mailbox p)
goes spec n p e = unfolded spec n p true e

pub rests_as : (s : Place) (t : State) (o : Option ℕ) → IsLook (look_of s) t o → consumes_now t ≡ rests_now s
rests_as at.Idle t o l = ap consumes_now l.0
rests_as (at.Running q) t o l = ap consumes_now l.0
rests_as (at.Out room further) t o l = ap consumes_now l.0.1
rests_as (at.More q) t o l = ap consumes_now l.0
rests_as (at.Prompting q) t o l = ap consumes_now l.0
rests_as at.Ended t o l = ap consumes_now l.0

pub waits_as : (v : View) (p : Pengine) → IsKept v p → waiting p ≡ length v.queue
waits_as v p h =
    let e : length p.emitted ≡ length h.before + length v.queue = ap (λ (es : List Event). length es) h.emitted ∙ length-append h.before v.queue in
    omega (arith, e, h.handed)

-- the first request was taken out
pub opened_seen : (a : Automaton) (l : Letter) (ls : List Letter) (p : Pengine) → a.mailbox.items ≡ l ∷ ls → IsSeen (view_of a) p → IsSeen (view_of (record a { mailbox = buffer ls a.mailbox.capacity })) (record p { mailbox = requests_of ls; consumed = suc p.consumed })
opened_seen a l ls p e h = record {
  look = h.look;
  kept = record {
    mailbox = refl;
    number = h.kept.number;
    steps = h.kept.steps;
    events = h.kept.events;
    pulled = h.kept.pulled;
    before = h.kept.before;
    handed = h.kept.handed;
    emitted = h.kept.emitted;
  };
}

pub opened : (spec : Spec) (a : Automaton) (l : Letter) (ls : List Letter) (p : Pengine) → a.mailbox.items ≡ l ∷ ls → IsSeen (view_of a) p → first_consumed spec p.mailbox p ≡ fits spec p.state l.node (record p { mailbox = requests_of ls; consumed = suc p.consumed })
opened spec a l ls p e h = ap (λ ms. first_consumed spec ms p) (sym h.kept.mailbox ∙ ap requests_of e)

pub emptied : (spec : Spec) (a : Automaton) (p : Pengine) → a.mailbox.items ≡ [] → IsSeen (view_of a) p → first_consumed spec p.mailbox p ≡ p
emptied spec a p e h = ap (λ ms. first_consumed spec ms p) (sym h.kept.mailbox ∙ ap requests_of e)

-- An abort

pub struck_kept : (a : Automaton) (p : Pengine) → IsKept (view_of a) p → IsKept (view_of (record a { mailbox = buffer [] a.mailbox.capacity })) (struck p)
struck_kept a p h = record {
  mailbox = refl;
  number = h.number;
  steps = h.steps;
  events = h.events;
  pulled = h.pulled;
  before = h.before;
  handed = h.handed;
  emitted = h.emitted;
}

pub breaks_off : (spec : Spec) (s : Place) (t : State) (o : Option ℕ) (p : Pengine) → is_busy s ≡ true → IsLook (look_of s) t o → aborted_at spec t p ≡ ends spec.destroys (emits event.Abort p)
breaks_off spec at.Idle t o p b l = cc
breaks_off spec (at.Running q) t o p b l = ap (λ z. aborted_at spec z p) l.0
breaks_off spec (at.Out room further) t o p b l = ap (λ z. aborted_at spec z p) l.0.1
breaks_off spec (at.More q) t o p b l = ap (λ z. aborted_at spec z p) l.0
breaks_off spec (at.Prompting q) t o p b l = ap (λ z. aborted_at spec z p) l.0
breaks_off spec at.Ended t o p b l = cc

-- A take

pub still : (spec : Spec) (n : ℕ) (p : Pengine) → consumes_now p.state ≡ false → settled spec n p ≡ p
still spec n p e = stays spec n p (ap (λ b. b && nat_lt (waiting p) most_waiting) e)

is_taken : (v : View) (l : Look) → v.look ≡ l → IsTrue (is_turn (takes_at v l)) → Does (after_entry (spec_seen v) Taken) v (record v { look = out l (most_waiting - length v.queue) })
is_taken v Idle e h = cc
is_taken v (Running q) e h = record {
  program = refl;
  settings = refl;
  seen = λ p s.
      let l : IsLook (Running q) p.state p.turn = subst (λ z. IsLook z p.state p.turn) e s.look in
      subst (λ (z : Pengine). IsSeen (record v { look = Out (most_waiting - length v.queue) (length q.requests) }) z) (sym (still (spec_seen v) (length p.mailbox) (record p { turn = Some (most_waiting - waiting p) }) (ap consumes_now l.0)))
      (record {
        look = ((q, l.0, refl), ap (λ k. Some (most_waiting - k)) (waits_as v p s.kept));
        kept = moved v p (Out (most_waiting - length v.queue) (length q.requests)) p.state (Some (most_waiting - waiting p)) s.kept;
      });
}
is_taken v (Out room further) e h = cc
is_taken v (More q) e h = cc
is_taken v (Prompting q) e h = cc
is_taken v Ended e h = cc

pub taken_enters : (v : View) → IsTrue (is_turn (takes v)) → Enters Taken v (taken v)
taken_enters v h = is_taken v v.look refl h

-- A pull

pub pulled_seen : (a : Automaton) (e : Event) (es : List Event) (p : Pengine) → a.queue.items ≡ e ∷ es → IsSeen (view_of a) p → IsSeen (view_of (record a { queue = buffer es a.queue.capacity; pulled = min (a.pulled + 1) (2 ^ 64 - 1) })) (record p { pulled = suc p.pulled })
pulled_seen a e es p w h = record {
  look = h.look;
  kept = record {
    mailbox = h.kept.mailbox;
    number = h.kept.number;
    steps = h.kept.steps;
    events = h.kept.events;
    pulled = (let k : a.pulled ≡ min p.pulled (2 ^ 64 - 1) = h.kept.pulled in omega (arith, k));
    before = h.kept.before ++ e ∷ [];
    handed = (let k : length (h.kept.before ++ e ∷ []) ≡ suc (length h.kept.before) = longer h.kept.before e in omega (arith, k, h.kept.handed));
    emitted = h.kept.emitted ∙ ap (λ l. h.kept.before ++ l) w ∙ sym (append_assoc h.kept.before (e ∷ []) es);
  };
}

-- A request is accepted

pub sent_seen : (a : Automaton) (l : Letter) (n : ℕ) (p : Pengine) → IsSeen (view_of a) p → IsSeen (view_of (record a { mailbox = buffer (a.mailbox.items ++ l ∷ []) a.mailbox.capacity; accepted = n })) (record p { mailbox = p.mailbox ++ l.node ∷ [] })
sent_seen a l n p h = record {
  look = h.look;
  kept = record {
    mailbox = map-append (λ (x : Letter). x.node) a.mailbox.items (l ∷ []) ∙ ap (λ rs. rs ++ l.node ∷ []) h.kept.mailbox;
    number = h.kept.number;
    steps = h.kept.steps;
    events = h.kept.events;
    pulled = h.kept.pulled;
    before = h.kept.before;
    handed = h.kept.handed;
    emitted = h.kept.emitted;
  };
}

pub sent_sound : (a : Automaton) (l : Letter) → IsSound a → length a.mailbox.items < 64 → a.accepted < 2 ^ 62 → IsLetter a.program.value a.settings l → IsSound (record a { mailbox = buffer (a.mailbox.items ++ l ∷ []) a.mailbox.capacity; accepted = a.accepted + 1 })
sent_sound a l h r b k =
    let m : length (a.mailbox.items ++ l ∷ []) ≡ suc (length a.mailbox.items) = longer a.mailbox.items l in
    record {
      queue_room = h.queue_room;
      mailbox_room = h.mailbox_room;
      waits = h.waits;
      box = omega (arith, m, r);
      count = omega (arith, m, h.count);
      bound = omega (arith, b);
      letters = All-push (IsLetter a.program.value a.settings) a.mailbox.items l h.letters k;
      program = h.program;
    }

-- A turn is kept

abbrev pub advanced : kept_turn.Gone → Automaton → Automaton
advanced g a = record a { steps = a.steps + g.steps; events = a.events + length g.events; queue = buffer (a.queue.items ++ map (λ x. x.1) g.events) a.queue.capacity }

abbrev pub gave : Spec → Query → kept_turn.Gone → Pengine → Pengine
gave spec q g p = record p { steps = p.steps + g.steps; events = p.events + length g.events; emitted = p.emitted ++ span spec q p.events (p.events + length g.events) }

pub gave_kept : (spec : Spec) (q : Query) (g : kept_turn.Gone) (a : Automaton) (p : Pengine) → Tells spec q a.events g → IsKept (view_of a) p → IsKept (view_of (advanced g a)) (gave spec q g p)
gave_kept spec q g a p t h =
    let m : map (λ x. x.1) g.events ≡ span spec q p.events (p.events + length g.events) =
    ap (λ es. map (λ x. x.1) es) t.made ∙ ap (λ k. span spec q k (k + length g.events)) h.events in
    record {
      mailbox = h.mailbox;
      number = h.number;
      steps = ap (λ k. k + g.steps) h.steps;
      events = ap (λ k. k + length g.events) h.events;
      pulled = h.pulled;
      before = h.before;
      handed = h.handed;
      emitted = ap (λ es. es ++ span spec q p.events (p.events + length g.events)) h.emitted ∙ append_assoc h.before a.queue.items (span spec q p.events (p.events + length g.events)) ∙ ap (λ es. h.before ++ (a.queue.items ++ es)) (sym m);
    }

-- What the calls of the code do

closed_clauses : (b : Bool) (a : Automaton) → (view_of (closed b a)).program ≡ a.program.value
closed_clauses true a = refl
closed_clauses false a = refl

closed_settings : (b : Bool) (a : Automaton) → (view_of (closed b a)).settings ≡ a.settings
closed_settings true a = refl
closed_settings false a = refl

idle_turn : (s : Place) (t : State) (o : Option ℕ) → s ≡ at.Idle → IsLook (look_of s) t o → (t ≡ state.Idle) × (o ≡ None)
idle_turn s t o e l = subst (λ z. IsLook (look_of z) t o) e l

pub refused_does : (a : Automaton) (ask : Ask) (t : Tree) → a.state ≡ at.Idle → Does (begins (spec_seen (view_of a)) ask (Some t)) (view_of a) (view_of (closed a.settings.destroys (says (event.Error t) (counted a))))
refused_does a ask t e = record {
  program = closed_clauses a.settings.destroys (says (event.Error t) (counted a));
  settings = closed_settings a.settings.destroys (says (event.Error t) (counted a));
  seen = λ p h. refused_seen (spec_seen (view_of a)) ask t a p (idle_turn a.state p.state p.turn e h.look).1 h.kept;
}

pub further_of_not : (r : Request) → ((x : Ask) → r ≡ request.Ask x → ⊥) → IsFurther r
further_of_not (request.Ask x) n = n x refl
further_of_not (request.Next c) n = tt
further_of_not request.Stop n = tt
further_of_not (request.Respond x) n = tt

pub other_does : (a : Automaton) (r : Request) → a.state ≡ at.Idle → IsFurther r → Does (λ p. fits (spec_seen (view_of a)) p.state r p) (view_of a) (view_of (says (event.Protocol (kind_of r)) a))
other_does a r e f = record {
  program = refl;
  settings = refl;
  seen = λ p h.
      let i : (p.state ≡ state.Idle) × (p.turn ≡ None) = idle_turn a.state p.state p.turn e h.look in
      subst (λ (z : Pengine). IsSeen (view_of (says (event.Protocol (kind_of r)) a)) z) (sym (fits_idle (spec_seen (view_of a)) p.state r p i.0 f))
      (record { look = h.look; kept = said (view_of a) p (event.Protocol (kind_of r)) h.kept });
}

pub says_sound : (e : Event) (a : Automaton) → IsSound a → a.state ≡ at.Idle → length a.queue.items < 64 → IsSound (says e a)
says_sound e a h i r = record {
  queue_room = h.queue_room;
  mailbox_room = h.mailbox_room;
  waits = subst (λ z. MayWait z (length (a.queue.items ++ e ∷ []))) (sym i) (omega (arith, longer a.queue.items e, r));
  box = h.box;
  count = h.count;
  bound = h.bound;
  letters = h.letters;
  program = h.program;
}

pub says_fair : (e : Event) (a : Automaton) → IsSound a → length a.queue.items ≤ 64 → IsFair (says e a)
says_fair e a h r = record {
  queue_room = h.queue_room;
  mailbox_room = h.mailbox_room;
  waits = omega (arith, longer a.queue.items e, r);
  box = h.box;
  count = omega (arith, h.count);
  bound = h.bound;
  letters = h.letters;
}

-- as it looks where the query rests
rested : (a : Automaton) (l : Look) (p : Pengine) → IsKept (record (view_of a) { look = l }) p → IsKept (view_of a) p
rested a l p h = moved (record (view_of a) { look = l }) p (look_of a.state) p.state p.turn h

pub stops_does : (a : Automaton) (k : Rest) (q : kept.Query) (r : Request) → k ≢ rest.Over → fit k r ≡ Stops →
    Does (λ p. fits (spec_seen (view_of a)) p.state r p) (record (view_of a) { look = resting k (query_of q) }) (view_of (closed a.settings.destroys (says event.Stop a)))
stops_does a k q r n e = record {
  program = closed_clauses a.settings.destroys (says event.Stop a);
  settings = closed_settings a.settings.destroys (says event.Stop a);
  seen = λ p h.
      subst (λ (z : Pengine). IsSeen (view_of (closed a.settings.destroys (says event.Stop a))) z)
      (sym (fits_resting (spec_seen (view_of a)) k (query_of q) r p n h.look ∙ ap (λ f. fitted (spec_seen (view_of a)) (query_of q) r f p) e))
      (closed_seen a.settings.destroys (says event.Stop a) (emits event.Stop p) (resting_turn k (query_of q) p.state p.turn h.look) (said (view_of a) p event.Stop (rested a (resting k (query_of q)) p h.kept)));
}

pub misfit_does : (a : Automaton) (k : Rest) (q : kept.Query) (r : Request) → k ≢ rest.Over → fit k r ≡ Misfit →
    Does (λ p. fits (spec_seen (view_of a)) p.state r p) (record (view_of a) { look = resting k (query_of q) }) (view_of (record (says (event.Protocol (kind_of r)) a) { state = rests k q }))
misfit_does a k q r n e = record {
  program = refl;
  settings = refl;
  seen = λ p h.
      subst (λ (z : Pengine). IsSeen (view_of (record (says (event.Protocol (kind_of r)) a) { state = rests k q })) z)
      (sym (fits_resting (spec_seen (view_of a)) k (query_of q) r p n h.look ∙ ap (λ f. fitted (spec_seen (view_of a)) (query_of q) r f p) e))
      (misfit_seen k q (event.Protocol (kind_of r)) a p h.look (rested a (resting k (query_of q)) p h.kept));
}

pub misfit_of : (f : Fit) → (f ≡ GoesOn → ⊥) → (f ≡ Stops → ⊥) → f ≡ Misfit
misfit_of GoesOn n m = absurd (n refl)
misfit_of Stops n m = absurd (m refl)
misfit_of Misfit n m = refl

-- Requests are consumed, one after the other

pub record Settling (spec : Spec) (n : ℕ) (p : Pengine) (a : Automaton) (m : ℕ) : Type 0 where
  pub next : Pengine
  pub seen : IsSeen (view_of a) next
  pub same : settled spec n p ≡ settled spec m next

pub at_rest : (spec : Spec) (n m : ℕ) (p : Pengine) (a : Automaton) → Settling spec n p a m → (IsTrue (rests_now a.state) × (length a.queue.items < 64) → ⊥) → IsSeen (view_of a) (settled spec n p)
at_rest spec n m p a h idle =
    subst (λ (z : Pengine). IsSeen (view_of a) z) (sym (h.same ∙ stays spec m h.next (closed_now (rests_now a.state) (length a.queue.items) (rests_as a.state h.next.state h.next.turn h.seen.look) (waits_as (view_of a) h.next h.seen.kept) idle))) h.seen
  where
    tests : (b : Bool) (k : ℕ) → (IsTrue b × (k < 64) → ⊥) → b && nat_lt k most_waiting ≡ false
    tests false k idle = refl
    tests true k idle = go (nat_lt k 64) refl
      where
        go : (c : Bool) → nat_lt k 64 ≡ c → c ≡ false
        go false e = refl
        go true e = absurd (idle (refl, ltb-true k 64 e))

    closed_now : (b : Bool) (k : ℕ) → consumes_now h.next.state ≡ b → waiting h.next ≡ k → (IsTrue b × (k < 64) → ⊥) → consumes_now h.next.state && nat_lt (waiting h.next) most_waiting ≡ false
    closed_now b k e w idle = ap (λ z. z && nat_lt (waiting h.next) most_waiting) e ∙ ap (λ z. b && nat_lt z most_waiting) w ∙ tests b k idle

pub all_done : (spec : Spec) (n : ℕ) (p : Pengine) (a : Automaton) (m : ℕ) → Settling spec n p a m → m ≡ 0 → IsSeen (view_of a) (settled spec n p)
all_done spec n p a m h e = subst (λ (z : Pengine). IsSeen (view_of a) z) (sym (h.same ∙ ap (λ k. settled spec k h.next) e ∙ settled_none spec h.next)) h.seen

may_go : (a : Automaton) (p : Pengine) → IsSeen (view_of a) p → IsTrue (rests_now a.state) → length a.queue.items < 64 → consumes_now p.state && nat_lt (waiting p) most_waiting ≡ true
may_go a p h r l = ap (λ z. z && nat_lt (waiting p) most_waiting) (rests_as a.state p.state p.turn h.look ∙ r) ∙ ap (λ z. nat_lt z most_waiting) (waits_as (view_of a) p h.kept) ∙ lt-ltb (length a.queue.items) 64 l

pub popped : {A : Type 0} (xs : List A) (x : A) → slice_get xs 0 ≡ Some x → xs ≡ x ∷ drop 1 xs
popped [] x e = cc
popped (y ∷ ys) x e = cc

pub popped_none : {A : Type 0} (xs : List A) → slice_get xs 0 ≡ None → xs ≡ []
popped_none [] e = refl
popped_none (y ∷ ys) e = cc

pub different : (b : Bool) → b ≡ false → b ≡ true → ⊥
different true f t = cc
different false f t = cc

pub said_room : (a : Automaton) (e : Event) → length a.queue.items < 64 → length (says e a).queue.items ≤ 64
said_room a e r = omega (arith, longer a.queue.items e, r)

pub said_most : (a : Automaton) (e : Event) → length a.queue.items ≤ 64 → length (says e a).queue.items ≤ 65
said_most a e r = omega (arith, longer a.queue.items e, r)

pub fair_more : (e : Event) (a : Automaton) → IsFair a → length a.queue.items ≤ 64 → IsFair (says e a)
fair_more e a h r = record { queue_room = h.queue_room; mailbox_room = h.mailbox_room; waits = said_most a e r; box = h.box; count = h.count; bound = h.bound; letters = h.letters }

-- A destroy

ended_all : (v : View) (p : Pengine) → IsKept v p → (d : List Event) → (q : Pengine) → q.emitted ≡ p.emitted ++ d → drop p.pulled q.emitted ≡ v.queue ++ d
ended_all v p h d q e =
    ap (λ (es : List Event). drop p.pulled es) (e ∙ ap (λ (es : List Event). es ++ d) h.emitted ∙ append_assoc h.before v.queue d)
    ∙ ap (λ k. drop k (h.before ++ (v.queue ++ d))) (sym h.handed) ∙ drop-append_seam h.before (v.queue ++ d)

destroyed_emits : (s : Place) (t : State) (o : Option ℕ) (p : Pengine) → IsLook (look_of s) t o → (destroyed_at t (struck p)).emitted ≡ p.emitted ++ last_of (look_of s)
destroyed_emits at.Idle t o p l = ap (λ z. (destroyed_at z (struck p)).emitted) l.0
destroyed_emits (at.Running q) t o p l = ap (λ z. (destroyed_at z (struck p)).emitted) l.0
destroyed_emits (at.Out room further) t o p l = ap (λ z. (destroyed_at z (struck p)).emitted) l.0.1
destroyed_emits (at.More q) t o p l = ap (λ z. (destroyed_at z (struck p)).emitted) l.0
destroyed_emits (at.Prompting q) t o p l = ap (λ z. (destroyed_at z (struck p)).emitted) l.0
destroyed_emits at.Ended t o p l = ap (λ z. (destroyed_at z (struck p)).emitted) l.0 ∙ sym (append-nil p.emitted)

destroyed_box : (t : State) (p : Pengine) → (destroyed_at t (struck p)).mailbox ≡ []
destroyed_box state.Idle p = refl
destroyed_box (state.Running q) p = refl
destroyed_box (state.More q) p = refl
destroyed_box (state.Prompting q) p = refl
destroyed_box state.Ended p = refl

pub destroyed : (a : Automaton) (p : Pengine) → IsSeen (view_of a) p → drop p.pulled (after_entry (spec_seen (view_of a)) Destroy p).emitted ≡ a.queue.items ++ last_of (look_of a.state)
destroyed a p h =
    let q : Pengine = handed_out (destroyed_at p.state (struck p)) in
    let n : settled (spec_seen (view_of a)) (length q.mailbox) q ≡ q = ap (λ (ms : List Request). settled (spec_seen (view_of a)) (length ms) q) (destroyed_box p.state p) ∙ settled_none (spec_seen (view_of a)) q in
    ap (λ (z : Pengine). drop p.pulled z.emitted) n
    ∙ ended_all (view_of a) p h.kept (last_of (look_of a.state)) (destroyed_at p.state (struck p)) (destroyed_emits a.state p.state p.turn p h.look)

-- What keeping a turn does

pub advanced_room : (a : Automaton) (q : kept.Query) (g : kept_turn.Gone) → IsSound a → IsBack a q g → length (advanced g a).queue.items ≤ 64
advanced_room a q g h b =
    let k : length (a.queue.items ++ map (λ x. x.1) g.events) ≡ length a.queue.items + length g.events = length-append a.queue.items (map (λ x. x.1) g.events) ∙ ap (λ n. length a.queue.items + n) (length-map g.events (λ x. x.1)) in
    let w : length a.queue.items + b.room ≤ 64 = subst (λ z. MayWait z (length a.queue.items)) b.is_out h.waits in
    omega (arith, k, w, b.events)

pub advanced_fair : (a : Automaton) (q : kept.Query) (g : kept_turn.Gone) → IsSound a → IsBack a q g → IsFair (advanced g a)
advanced_fair a q g h b = record {
  queue_room = h.queue_room;
  mailbox_room = h.mailbox_room;
  waits = (let k : length (advanced g a).queue.items ≤ 64 = advanced_room a q g h b in omega (arith, k));
  box = h.box;
  count = omega (arith, h.count);
  bound = h.bound;
  letters = h.letters;
}

pub advanced_count : (a : Automaton) (q : kept.Query) (g : kept_turn.Gone) → IsSound a → IsBack a q g → a.number + length q.requests + length a.mailbox.items ≤ a.accepted
advanced_count a q g h b =
    let c : a.number + b.further + length a.mailbox.items ≤ a.accepted = subst (λ z. a.number + further_of z + length a.mailbox.items ≤ a.accepted) b.is_out h.count in
    omega (arith, c, b.requests)

pub running_sound : (q : kept.Query) (a : Automaton) → IsFair a → length a.queue.items ≤ 64 → a.number + length q.requests + length a.mailbox.items ≤ a.accepted → q.program.value ≡ a.program.value → IsSound (record a { state = at.Running q })
running_sound q a h w n c = record { queue_room = h.queue_room; mailbox_room = h.mailbox_room; waits = w; box = h.box; count = n; bound = h.bound; letters = h.letters; program = c }

turned_is : (spec : Spec) (q : Query) (g : kept_turn.Gone) (s : State) (p : Pengine) → s ≡ state.Running q → turned_at spec g.steps (length g.events) g.starved s p ≡ advances spec q (p.steps + g.steps) (p.events + length g.events) g.starved p
turned_is spec q g s p e = ap (λ z. turned_at spec g.steps (length g.events) g.starved z p) e

back_kept : (a : Automaton) (p : Pengine) → IsKept (view_of a) p → IsKept (view_of a) (record p { turn = None })
back_kept a p h = moved (view_of a) p (look_of a.state) p.state None h

pub starved_turns : (a : Automaton) (q : kept.Query) (g : kept_turn.Gone) → g.starved ≡ true → TakesBack q g (view_of a) (view_of (closed a.settings.destroys (says event.Memory (advanced g a))))
starved_turns a q g e = record {
  program = closed_clauses a.settings.destroys (says event.Memory (advanced g a));
  settings = closed_settings a.settings.destroys (says event.Memory (advanced g a));
  seen = λ p s t h.
      let spec : Spec = spec_seen (view_of a) in
      let r : Pengine = gave spec (query_of q) g (record p { turn = None }) in
      subst (λ (z : Pengine). IsSeen (view_of (closed a.settings.destroys (says event.Memory (advanced g a)))) z)
      (sym (turned_is spec (query_of q) g p.state (record p { turn = None }) s ∙ ap (λ b. advances spec (query_of q) (p.steps + g.steps) (p.events + length g.events) b (record p { turn = None })) e))
      (closed_seen a.settings.destroys (says event.Memory (advanced g a)) (emits event.Memory r) refl
      (said (view_of (advanced g a)) r event.Memory (gave_kept spec (query_of q) g a (record p { turn = None }) t (back_kept a p h.kept))));
}

-- where the query rests, or that it goes on
abbrev pub rested_at : Spec → Query → Option Rest → Pengine → Pengine
rested_at spec q None p = p
rested_at spec q (Some k) p = rest_at spec q k p

fed_is : (spec : Spec) (q : Query) (g : kept_turn.Gone) (k : ℕ) (p : Pengine) → Tells spec q k g → k ≡ p.events → g.starved ≡ false →
    advances spec q (p.steps + g.steps) (p.events + length g.events) g.starved p ≡ rested_at spec q g.rest (gave spec q g p)
fed_is spec q g k p t e f =
    ap (λ b. advances spec q (p.steps + g.steps) (p.events + length g.events) b p) f
    ∙ chosen (nat_le (length (events_of spec q)) (p.events + length g.events))
    ∙ ap (λ o. rested_at spec q o (gave spec q g p)) (sym (t.rest f ∙ ap (λ n. if nat_le (length (events_of spec q)) (n + length g.events) then Some (part_of spec q).rest else None) e))
  where
    chosen : (b : Bool) → (if b then rest_at spec q (part_of spec q).rest (gave spec q g p) else gave spec q g p) ≡ rested_at spec q (if b then Some (part_of spec q).rest else None) (gave spec q g p)
    chosen true = refl
    chosen false = refl

module _ (a : Automaton) (q : kept.Query) (g : kept_turn.Gone) (f : g.starved ≡ false) where
  abbrev back : Pengine → Pengine
  back p = gave (spec_seen (view_of a)) (query_of q) g (record p { turn = None })

  fed : (o : Option Rest) → g.rest ≡ o → (p : Pengine) → p.state ≡ state.Running (query_of q) → Tells (spec_seen (view_of a)) (query_of q) a.events g → IsSeen (view_of a) p →
      turned_at (spec_seen (view_of a)) g.steps (length g.events) g.starved p.state (record p { turn = None }) ≡ rested_at (spec_seen (view_of a)) (query_of q) o (back p)
  fed o e p s t h =
      turned_is (spec_seen (view_of a)) (query_of q) g p.state (record p { turn = None }) s
      ∙ fed_is (spec_seen (view_of a)) (query_of q) g a.events (record p { turn = None }) t h.kept.events f
      ∙ ap (λ z. rested_at (spec_seen (view_of a)) (query_of q) z (back p)) e

  back_seen : (p : Pengine) → Tells (spec_seen (view_of a)) (query_of q) a.events g → IsSeen (view_of a) p → IsKept (view_of (advanced g a)) (back p)
  back_seen p t h = gave_kept (spec_seen (view_of a)) (query_of q) g a (record p { turn = None }) t (back_kept a p h.kept)

  pub runs_on : g.rest ≡ None → TakesBack q g (view_of a) (view_of (record (advanced g a) { state = at.Running q }))
  runs_on e = record {
    program = refl;
    settings = refl;
    seen = λ p s t h. subst (λ (z : Pengine). IsSeen (view_of (record (advanced g a) { state = at.Running q })) z) (sym (fed None e p s t h))
        (record { look = (s, refl); kept = moved (view_of (advanced g a)) (back p) (Running (query_of q)) p.state None (back_seen p t h) });
  }

  pub rests_more : g.rest ≡ Some rest.More → TakesBack q g (view_of a) (view_of (record (advanced g a) { state = at.More q }))
  rests_more e = record {
    program = refl;
    settings = refl;
    seen = λ p s t h. subst (λ (z : Pengine). IsSeen (view_of (record (advanced g a) { state = at.More q })) z) (sym (fed (Some rest.More) e p s t h))
        (record { look = (refl, refl); kept = moved (view_of (advanced g a)) (back p) (More (query_of q)) (state.More (query_of q)) None (back_seen p t h) });
  }

  pub rests_prompting : g.rest ≡ Some rest.Prompting → TakesBack q g (view_of a) (view_of (record (advanced g a) { state = at.Prompting q }))
  rests_prompting e = record {
    program = refl;
    settings = refl;
    seen = λ p s t h. subst (λ (z : Pengine). IsSeen (view_of (record (advanced g a) { state = at.Prompting q })) z) (sym (fed (Some rest.Prompting) e p s t h))
        (record { look = (refl, refl); kept = moved (view_of (advanced g a)) (back p) (Prompting (query_of q)) (state.Prompting (query_of q)) None (back_seen p t h) });
  }

  pub over : g.rest ≡ Some rest.Over → TakesBack q g (view_of a) (view_of (closed a.settings.destroys (advanced g a)))
  over e = record {
    program = closed_clauses a.settings.destroys (advanced g a);
    settings = closed_settings a.settings.destroys (advanced g a);
    seen = λ p s t h. subst (λ (z : Pengine). IsSeen (view_of (closed a.settings.destroys (advanced g a))) z) (sym (fed (Some rest.Over) e p s t h))
        (closed_seen a.settings.destroys (advanced g a) (back p) refl (back_seen p t h));
  }

-- Whole entries: what one does first, and then what is consumed

pub same_spec : (cs ds : Loaded) (s t : Settings) → cs ≡ ds → s ≡ t → spec_of cs s ≡ spec_of ds t
same_spec cs ds s t e f = ap (λ z. spec_of z s) e ∙ ap (λ z. spec_of ds z) f

abbrev pub Settles : View → View → Type 0
Settles v w = Does (λ p. settled (spec_seen v) (length p.mailbox) p) v w

pub sent_does : (a : Automaton) (l : Letter) (n : ℕ) (w : View) → Settles (view_of (record a { mailbox = buffer (a.mailbox.items ++ l ∷ []) a.mailbox.capacity; accepted = n })) w → Enters (Sent l.node) (view_of a) w
sent_does a l n w d = record { program = d.program; settings = d.settings; seen = λ p h. d.seen (record p { mailbox = p.mailbox ++ l.node ∷ [] }) (sent_seen a l n p h) }

one_more : (k : ℕ) → suc k ≡ k + 1
one_more k = omega arith

pub pulled_does : (a : Automaton) (e : Event) (es : List Event) (w : View) → a.queue.items ≡ e ∷ es → Settles (view_of (record a { queue = buffer es a.queue.capacity; pulled = min (a.pulled + 1) (2 ^ 64 - 1) })) w → Enters (Pulled 1) (view_of a) w
pulled_does a e es w i d = record { program = d.program; settings = d.settings; seen = λ p h. subst (λ (k : ℕ). IsSeen w (settled (spec_seen (view_of a)) (length p.mailbox) (record p { pulled = k }))) (one_more p.pulled) (d.seen (record p { pulled = suc p.pulled }) (pulled_seen a e es p i h)) }

-- several events are pulled together
pulled_many_seen : (a : Automaton) (k : ℕ) (p : Pengine) → k ≤ length a.queue.items → IsSeen (view_of a) p → IsSeen (view_of (record a { queue = buffer (drop k a.queue.items) a.queue.capacity; pulled = min (a.pulled + k) (2 ^ 64 - 1) })) (record p { pulled = p.pulled + k })
pulled_many_seen a k p l h = record {
  look = h.look;
  kept = record {
    mailbox = h.kept.mailbox;
    number = h.kept.number;
    steps = h.kept.steps;
    events = h.kept.events;
    pulled = (let m : a.pulled ≡ min p.pulled (2 ^ 64 - 1) = h.kept.pulled in omega (arith, m));
    before = h.kept.before ++ take k a.queue.items;
    handed = (let m : length (h.kept.before ++ take k a.queue.items) ≡ length h.kept.before + length (take k a.queue.items) = length-append h.kept.before (take k a.queue.items) in
        let n : length (take k a.queue.items) ≡ min k (length a.queue.items) = length-take k a.queue.items in omega (arith, m, n, l, h.kept.handed));
    emitted = h.kept.emitted ∙ ap (λ (x : List Event). h.kept.before ++ x) (sym (take-append-drop k a.queue.items)) ∙ sym (append_assoc h.kept.before (take k a.queue.items) (drop k a.queue.items));
  };
}

pub pulled_many_does : (a : Automaton) (k : ℕ) (w : View) → k ≤ length a.queue.items → Settles (view_of (record a { queue = buffer (drop k a.queue.items) a.queue.capacity; pulled = min (a.pulled + k) (2 ^ 64 - 1) })) w → Enters (Pulled k) (view_of a) w
pulled_many_does a k w l d = record { program = d.program; settings = d.settings; seen = λ p h. d.seen (record p { pulled = p.pulled + k }) (pulled_many_seen a k p l h) }

abbrev pub cleared : Automaton → Automaton
cleared a = record a { mailbox = buffer [] a.mailbox.capacity }

pub busy_breaks : (a : Automaton) → is_busy a.state ≡ true → Does (λ p. aborted_at (spec_seen (view_of a)) p.state (struck p)) (view_of a) (view_of (closed a.settings.destroys (says event.Abort (record (cleared a) { state = at.Idle }))))
busy_breaks a b = record {
  program = closed_clauses a.settings.destroys (says event.Abort (record (cleared a) { state = at.Idle }));
  settings = closed_settings a.settings.destroys (says event.Abort (record (cleared a) { state = at.Idle }));
  seen = λ p h.
      let k : IsKept (view_of (record (cleared a) { state = at.Idle })) (struck p) = moved (view_of (cleared a)) (struck p) Idle p.state None (struck_kept a p h.kept) in
      let e : aborted_at (spec_seen (view_of a)) p.state (struck p) ≡ ends a.settings.destroys (emits event.Abort (struck p)) = breaks_off (spec_seen (view_of a)) a.state p.state p.turn (struck p) b h.look in
      subst (λ (z : Pengine). IsSeen (view_of (closed a.settings.destroys (says event.Abort (record (cleared a) { state = at.Idle })))) z) (sym e)
      (closed_seen a.settings.destroys (says event.Abort (record (cleared a) { state = at.Idle })) (emits event.Abort (struck p)) refl (said (view_of (record (cleared a) { state = at.Idle })) (struck p) event.Abort k));
}

-- outside of a query only the requests are dropped
outside : (spec : Spec) (s : Place) (t : State) (o : Option ℕ) (p : Pengine) → is_busy s ≡ false → IsLook (look_of s) t o → (aborted_at spec t p ≡ p) × IsLook (look_of s) t None
outside spec at.Idle t o p b l = (ap (λ z. aborted_at spec z p) l.0, (l.0, refl))
outside spec (at.Running q) t o p b l = cc
outside spec (at.Out room further) t o p b l = cc
outside spec (at.More q) t o p b l = cc
outside spec (at.Prompting q) t o p b l = cc
outside spec at.Ended t o p b l = (ap (λ z. aborted_at spec z p) l.0, (l.0, refl))

pub idle_breaks : (a : Automaton) → is_busy a.state ≡ false → Does (λ p. aborted_at (spec_seen (view_of a)) p.state (struck p)) (view_of a) (view_of (cleared a))
idle_breaks a b = record {
  program = refl;
  settings = refl;
  seen = λ p h.
      let o : (aborted_at (spec_seen (view_of a)) p.state (struck p) ≡ struck p) × IsLook (look_of a.state) p.state None = outside (spec_seen (view_of a)) a.state p.state p.turn (struck p) b h.look in
      subst (λ (z : Pengine). IsSeen (view_of (cleared a)) z) (sym o.0) (record { look = o.1; kept = struck_kept a p h.kept });
}

pub then_settles : (v w x : View) (q : Pengine) → w.program ≡ v.program → w.settings ≡ v.settings → Settles w x → IsSeen w q → IsSeen x (settled (spec_seen v) (length q.mailbox) q)
then_settles v w x q c s d h = subst (λ (z : Spec). IsSeen x (settled z (length q.mailbox) q)) (same_spec w.program v.program w.settings v.settings c s) (d.seen q h)

pub aborts : (v w x : View) → Does (λ p. aborted_at (spec_seen v) p.state (struck p)) v w → Settles w x → Enters Abort v x
aborts v w x d k = record {
  program = k.program ∙ d.program;
  settings = k.settings ∙ d.settings;
  seen = λ p h. then_settles v w x (aborted_at (spec_seen v) p.state (struck p)) d.program d.settings k (d.seen p h);
}

-- a turn that is dropped only leaves those that are lost
pub dropped_does : (v w : View) (k n e : ℕ) (b : Bool) → Settles v w → Enters (Given k n e b false) v w
dropped_does v w k n e b d = record { program = d.program; settings = d.settings; seen = λ p h. d.seen (record p { lost = without k p.lost }) (record { look = h.look; kept = moved_lost p h }) }
  where
    moved_lost : (p : Pengine) → IsSeen v p → IsKept v (record p { lost = without k p.lost })
    moved_lost p h = record { mailbox = h.kept.mailbox; number = h.kept.number; steps = h.kept.steps; events = h.kept.events; pulled = h.kept.pulled; before = h.kept.before; handed = h.kept.handed; emitted = h.kept.emitted }

pub opened_sound : (a : Automaton) (l : Letter) (ls : List Letter) → a.mailbox.items ≡ l ∷ ls → IsSound a → IsSound (record a { mailbox = buffer ls a.mailbox.capacity })
opened_sound a l ls e h =
    let k : length a.mailbox.items ≡ suc (length ls) = ap (λ (z : List Letter). length z) e in
    record {
      queue_room = h.queue_room;
      mailbox_room = h.mailbox_room;
      waits = h.waits;
      box = omega (arith, k, h.box);
      count = omega (arith, k, h.count);
      bound = h.bound;
      letters = All-rest (IsLetter a.program.value a.settings) l ls a.mailbox.items e h.letters;
      program = h.program;
    }

pub opened_count : (a : Automaton) (l : Letter) (ls : List Letter) → a.mailbox.items ≡ l ∷ ls → IsSound a → a.number + further_of a.state + length ls < a.accepted
opened_count a l ls e h =
    let k : length a.mailbox.items ≡ suc (length ls) = ap (λ (z : List Letter). length z) e in
    omega (arith, k, h.count)

pub opened_letter : (a : Automaton) (l : Letter) (ls : List Letter) → a.mailbox.items ≡ l ∷ ls → IsSound a → IsLetter a.program.value a.settings l
opened_letter a l ls e h = All-head (IsLetter a.program.value a.settings) l ls (subst (λ (z : List Letter). All (IsLetter a.program.value a.settings) z) e h.letters)

pub consumed_does : (a : Automaton) (l : Letter) (ls : List Letter) (w : View) → a.mailbox.items ≡ l ∷ ls →
    Does (λ p. fits (spec_seen (view_of a)) p.state l.node p) (view_of (record a { mailbox = buffer ls a.mailbox.capacity })) w → Does (λ p. first_consumed (spec_seen (view_of a)) p.mailbox p) (view_of a) w
consumed_does a l ls w e d = record {
  program = d.program;
  settings = d.settings;
  seen = λ p h. subst (λ (z : Pengine). IsSeen w z) (sym (opened (spec_seen (view_of a)) a l ls p e h)) (d.seen (record p { mailbox = requests_of ls; consumed = suc p.consumed }) (opened_seen a l ls p e h));
}

none_left : (ls : List Letter) → ls ≡ [] → drop 1 ls ≡ []
none_left ls e = subst (λ (z : List Letter). drop 1 z ≡ []) (sym e) refl

pub empty_does : (a : Automaton) → a.mailbox.items ≡ [] → Does (λ p. first_consumed (spec_seen (view_of a)) p.mailbox p) (view_of a) (view_of (record a { mailbox = buffer (drop 1 a.mailbox.items) a.mailbox.capacity }))
empty_does a e = record {
  program = refl;
  settings = refl;
  seen = λ p h. subst (λ (z : Pengine). IsSeen (view_of (record a { mailbox = buffer (drop 1 a.mailbox.items) a.mailbox.capacity })) z) (sym (emptied (spec_seen (view_of a)) a p e h))
      (record {
        look = h.look;
        kept = record {
          mailbox = ap requests_of (none_left a.mailbox.items e) ∙ sym (ap requests_of e) ∙ h.kept.mailbox;
          number = h.kept.number;
          steps = h.kept.steps;
          events = h.kept.events;
          pulled = h.kept.pulled;
          before = h.kept.before;
          handed = h.kept.handed;
          emitted = h.kept.emitted;
        };
      });
}

pub empty_sound : (a : Automaton) → a.mailbox.items ≡ [] → IsSound a → IsSound (record a { mailbox = buffer (drop 1 a.mailbox.items) a.mailbox.capacity })
empty_sound a e h =
    let k : length (drop 1 a.mailbox.items) ≡ 0 = ap (λ (z : List Letter). length z) (none_left a.mailbox.items e) in
    record {
      queue_room = h.queue_room;
      mailbox_room = h.mailbox_room;
      waits = h.waits;
      box = omega (arith, k);
      count = omega (arith, k, h.count);
      bound = h.bound;
      letters = All-drop (IsLetter a.program.value a.settings) 1 a.mailbox.items h.letters;
      program = h.program;
    }

-- one request of those that are to be consumed
pub step_on : (v : View) (n m k : ℕ) (p : Pengine) (a b : Automaton) → a.program.value ≡ v.program → a.settings ≡ v.settings → Settling (spec_seen v) n p a m → m ≡ suc k → IsTrue (rests_now a.state) → length a.queue.items < 64 →
    Does (λ q. first_consumed (spec_seen (view_of a)) q.mailbox q) (view_of a) (view_of b) → Settling (spec_seen v) n p b k
step_on v n m k p a b c s h e r l d = record {
  next = first_consumed (spec_seen v) h.next.mailbox h.next;
  seen = subst (λ (z : Spec). IsSeen (view_of b) (first_consumed z h.next.mailbox h.next)) (same_spec a.program.value v.program a.settings v.settings c s) (d.seen h.next h.seen);
  same = h.same ∙ ap (λ z. settled (spec_seen v) z h.next) e ∙ goes (spec_seen v) k h.next (may_go a h.next h.seen r l);
}

-- A pengine that was just made

after_none : (spec : Spec) (p : Pengine) → after spec [] p ≡ p
unfolding after
after_none spec p = refl

after_one : (spec : Spec) (e : Entry) (p : Pengine) → after spec (e ∷ []) p ≡ after_entry spec e p
unfolding after
after_one spec e p = refl

pub begun_none : (s : wanted.Spec) (a : Automaton) → a.program.value ≡ s.program.value → a.settings ≡ s.settings → IsSeen (view_of a) made → s.ask ≡ None → IsBegun s (view_of a)
begun_none s a c t h n = record {
  program = c;
  settings = t;
  seen = subst (λ o. IsSeen (view_of a) (after (spec_of s.program.value s.settings) (first_of o) made)) (sym n)
      (subst (λ (z : Pengine). IsSeen (view_of a) z) (sym (after_none (spec_of s.program.value s.settings) made)) h);
}

pub begun_asked : (s : wanted.Spec) (x : Ask) (a b : Automaton) → a.program.value ≡ s.program.value → a.settings ≡ s.settings → IsSeen (view_of a) made → s.ask ≡ Some x → Enters (Sent (request.Ask x)) (view_of a) (view_of b) → IsBegun s (view_of b)
begun_asked s x a b c t h i d = record {
  program = d.program ∙ c;
  settings = d.settings ∙ t;
  seen = subst (λ o. IsSeen (view_of b) (after (spec_of s.program.value s.settings) (first_of o) made)) (sym i)
      (subst (λ (z : Pengine). IsSeen (view_of b) z) (sym (after_one (spec_of s.program.value s.settings) (Sent (request.Ask x)) made))
      (subst (λ (z : Spec). IsSeen (view_of b) (after_entry z (Sent (request.Ask x)) made)) (same_spec a.program.value s.program.value a.settings s.settings c t) (d.seen made h)));
}

pub refuses_ask : (spec : Spec) (r : Request) (a : Ask) (t : Option Tree) → r ≡ request.Ask a → t ≡ spec.refusal a → Refuses spec r t
refuses_ask spec r a t e h = subst (λ z. Refuses spec z t) (sym e) h
