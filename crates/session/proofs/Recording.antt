-- Each call lengthens the entries of a session by its own.
use Rattle.std.proofs.Common.{◌≡◌, ◌≢◌, ℕ, suc, min, ◌+◌, ◌-◌, ◌≤◌, ◌<◌, Bool, true, false, List, [], ◌∷◌, ◌++◌, length, nat_lt, ◌==◌, if◌then◌else◌, Option, Some, None, IsTrue, refl, ap, sym, subst, ◌∙◌, length-append, eq-eqb, arith}
use Rattle.std.proofs.lemmas.Bool.{ltb-true, eqb-true}
use Rattle.std.proofs.lemmas.List.{length-map}
use Rattle.program.specs.Loaded.{Loaded}
use Rattle.sandbox_walk.specs.Keeping.{KeepsSandbox}
use Rattle.event_core.specs.declared.event.Event.{Event}
use Rattle.event_core.specs.declared.request.Ask.{Ask}
use Rattle.event_core.specs.declared.request.Request.{Request}
use Rattle.event_core.specs.declared.request.Request.TheVariants as request
use Rattle.event_core.specs.declared.spec.Spec as wanted
use Rattle.event_core.specs.Standing.{spec_of}
use Rattle.event_core.specs.Full.{Spec, Query, part_of}
use Rattle.session.specs.declared.answers.Given.{Given as Outcome}
use Rattle.session.specs.declared.answers.Given.TheVariants as given
use Rattle.session.specs.After as state
use Rattle.session.specs.After.{State, Pengine, Entry, Sent, Pulled, Abort, Taken, Given, after, after_entry, made, waiting, most_waiting, most_requests}
use Rattle.session.specs.Answers.{is_ended, is_turn, takes, takes_at, is_present, gives, is_kept}
use Rattle.session.specs.Begun.{first_of, IsBegun}
use Rattle.session.specs.Legal.{IsRunning, IsLive, TurnsAt, IsAllowed, ArePossible, Holds}
use Rattle.session.specs.Turns.{Turns}
use Rattle.session.specs.Views.{Look, Idle, Running, Out, More, Prompting, Ended, View, Gone, TurnView, IsLook, IsSeen, IsPresent, IsTurnOf, spec_seen, Enters, taken, turn_at}
use Rattle.session.specs.TurnsKept.{IsAhead, Starts, Keeps, part_seen}
use Rattle.session.specs.Recorded.{stood, IsRecord, IsRecorded, Lengthens, IsOwn, IsOut, present, lost, IsTaken, Takes, given_back, GivesBack}
use Rattle.session.specs.declared.took.Took.{Took}
use Rattle.session.specs.declared.took.Took.TheVariants as took
use Rattle.session.specs.declared.automaton.Automaton.{Automaton}
use Rattle.session.specs.declared.letter.Letter.{Letter}
use Rattle.session.specs.Kept.{view_of, look_of, requests_of}
use Rattle.session.proofs.Fates
use Rattle.session.proofs.Fates.{taken_out, breaks, returns, out_entry, lost_entry, broken_entry}
use Rattle.session.proofs.Growing.{after_append, after_one}
use Rattle.session.proofs.Numbers.{lost_turns_are_older}
use Rattle.session.proofs.Sandboxed.{turns_start_well}
use Rattle.session.proofs.Seen.{same_spec, waits_as, taken_enters}

pub possible_append : (spec : Spec) (es fs : List Entry) (p : Pengine) → ArePossible spec es p → ArePossible spec fs (after spec es p) → ArePossible spec (es ++ fs) p
unfolding ArePossible after
possible_append spec [] fs p a b = b
possible_append spec (e ∷ es) fs p a b = (a.0, possible_append spec es fs (after_entry spec e p) a.1 b)

pub possible_later : (spec : Spec) (es fs : List Entry) (p : Pengine) → ArePossible spec (es ++ fs) p → ArePossible spec fs (after spec es p)
unfolding ArePossible after
possible_later spec [] fs p a = a
possible_later spec (e ∷ es) fs p a = possible_later spec es fs (after_entry spec e p) a.1

pub possible_none : (spec : Spec) (p : Pengine) → ArePossible spec [] p
unfolding ArePossible
possible_none spec p = tt

pub possible_one : (spec : Spec) (e : Entry) (p : Pengine) → (budget : ℕ) × IsAllowed spec budget e p → ArePossible spec (e ∷ []) p
unfolding ArePossible
possible_one spec e p a = (a, tt)

pub possible_head : (spec : Spec) (e : Entry) (es : List Entry) (p : Pengine) → ArePossible spec (e ∷ es) p → (budget : ℕ) × IsAllowed spec budget e p
unfolding ArePossible
possible_head spec e es p a = a.0

pub stood_more : (v : View) (es : List Entry) (e : Entry) → stood v (es ++ e ∷ []) ≡ after_entry (spec_seen v) e (stood v es)
stood_more v es e = after_append (spec_seen v) es (e ∷ []) made ∙ after_one (spec_seen v) e (stood v es)

-- one entry more
pub one_more : (v w : View) (e : Entry) (before : List Entry) → w.program ≡ v.program → w.settings ≡ v.settings → IsRecord before v → (budget : ℕ) × IsAllowed (spec_seen v) budget e (stood v before) → IsSeen w (after_entry (spec_seen v) e (stood v before)) → IsRecord (before ++ e ∷ []) w
one_more v w e before c s r a h =
    let same : spec_seen v ≡ spec_seen w = sym (same_spec w.program v.program w.settings v.settings c s) in
    record {
      possible = subst (λ (z : Spec). ArePossible z (before ++ e ∷ []) made) same (possible_append (spec_seen v) before (e ∷ []) made r.possible (possible_one (spec_seen v) e (stood v before) a));
      seen = subst (λ (z : Spec). IsSeen w (after z (before ++ e ∷ []) made)) same (subst (λ (p : Pengine). IsSeen w p) (sym (stood_more v before e)) h);
    }

pub lengthened : (v w : View) (e : Entry) → Enters e v w → ((p : Pengine) → IsSeen v p → (budget : ℕ) × IsAllowed (spec_seen v) budget e p) → Lengthens (e ∷ []) v w
lengthened v w e d a = record {
  program = d.program;
  settings = d.settings;
  recorded = λ before r. one_more v w e before d.program d.settings r (a (stood v before) r.seen) (d.seen (stood v before) r.seen);
}

-- what was recorded is recorded after the call
pub goes_on : {es : List Entry} {v w : View} → Lengthens es v w → IsRecorded v → IsRecorded w
goes_on {es} {v} {w} l r = record {
  keeps = subst (λ (z : Loaded). KeepsSandbox z) (sym l.program) r.keeps;
  entries = r.entries ++ es;
  recorded = l.recorded r.entries r.recorded;
}

-- What is allowed

live_at : (l : Look) (s : State) (t : Option ℕ) → l ≢ Ended → IsLook l s t → IsLive s
live_at Idle s t n h = subst IsLive (sym h.0) tt
live_at (Running q) s t n h = subst IsLive (sym h.0) tt
live_at (Out room further) s t n h = subst IsLive (sym h.0.1) tt
live_at (More q) s t n h = subst IsLive (sym h.0) tt
live_at (Prompting q) s t n h = subst IsLive (sym h.0) tt
live_at Ended s t n h = absurd (n refl)

pub sends : (v w : View) (r : Request) → v.look ≢ Ended → length v.mailbox < most_requests → Enters (Sent r) v w → Lengthens (Sent r ∷ []) v w
sends v w r n few d = lengthened v w (Sent r) d (λ p h. (0, (live_at v.look p.state p.turn n h.look, subst (λ (ms : List Request). length ms < most_requests) h.kept.mailbox few)))

pub pulls : (v w : View) (n : ℕ) → 0 < n → n ≤ length v.queue → Enters (Pulled n) v w → Lengthens (Pulled n ∷ []) v w
pulls v w n some few d = lengthened v w (Pulled n) d (λ p h. (0, (some, wait p h)))
  where
    wait : (p : Pengine) → IsSeen v p → p.pulled + n ≤ length p.emitted
    wait p h =
        let e : length p.emitted ≡ length h.kept.before + length v.queue = ap (λ (es : List Event). length es) h.kept.emitted ∙ length-append h.kept.before v.queue in
        omega (arith, e, h.kept.handed, few)

pub aborts : (v w : View) → Enters Abort v w → Lengthens (Abort ∷ []) v w
aborts v w d = lengthened v w Abort d (λ p h. (0, tt))

-- A take

-- what a view that gives a turn looks like
pub record Ready (v : View) (t : TurnView) : Type 0 where
  pub query : Query
  pub runs : v.look ≡ Running query
  pub few : length v.queue < most_waiting
  pub turn : t ≡ turn_at v query

turn_same : (x y : TurnView) → took.Turn x ≡ took.Turn y → x ≡ y
turn_same x y e = subst (λ (z : Took). at z) e refl
  where
    at : Took → Type 0
    at (took.Turn z) = x ≡ z
    at z = Unit {0}

few_ready : (v : View) (q : Query) (t : TurnView) → v.look ≡ Running q → (b : Bool) → nat_lt (length v.queue) most_waiting ≡ b → (if b then took.Turn (turn_at v q) else took.QueueFull) ≡ took.Turn t → Ready v t
few_ready v q t l true w e = record { query = q; runs = l; few = ltb-true (length v.queue) most_waiting w; turn = sym (turn_same (turn_at v q) t e) }
few_ready v q t l false w e = cc

look_ready : (v : View) (t : TurnView) (l : Look) → v.look ≡ l → takes_at v l ≡ took.Turn t → Ready v t
look_ready v t Idle w e = cc
look_ready v t (Running q) w e = few_ready v q t w (nat_lt (length v.queue) most_waiting) refl e
look_ready v t (Out room further) w e = cc
look_ready v t (More q) w e = cc
look_ready v t (Prompting q) w e = cc
look_ready v t Ended w e = cc

pub ready_of : (v : View) (t : TurnView) → takes v ≡ took.Turn t → Ready v t
ready_of v t e = look_ready v t v.look refl e

running_state : (v : View) (p : Pengine) (q : Query) → v.look ≡ Running q → IsSeen v p → (p.state ≡ state.Running q) × (p.turn ≡ None)
running_state v p q e h = subst (λ (l : Look). IsLook l p.state p.turn) e h.look

-- a turn starts as the definition says
pub starts_well : (v : View) → IsRecorded v → (q : Query) → v.look ≡ Running q → Starts (turn_at v q)
starts_well v r q e =
    let p : Pengine = stood v r.entries in
    let h : IsSeen v p = r.recorded.seen in
    subst (λ (n : ℕ). IsAhead v.program v.settings q n v.events) (sym h.kept.steps)
    (subst (λ (n : ℕ). IsAhead v.program v.settings q p.steps n) (sym h.kept.events)
    (turns_start_well v.program v.settings r.keeps r.entries r.recorded.possible q (running_state v p q e h).0))

takes_turn : (v : View) (t : TurnView) → takes v ≡ took.Turn t → IsTrue (is_turn (takes v))
takes_turn v t e = ap is_turn e

pub take_lengthens : (v : View) (t : TurnView) → takes v ≡ took.Turn t → Lengthens (Taken ∷ []) v (taken v)
take_lengthens v t e =
    let r : Ready v t = ready_of v t e in
    lengthened v (taken v) Taken (taken_enters v (takes_turn v t e)) (λ p h.
    let s : (p.state ≡ state.Running r.query) × (p.turn ≡ None) = running_state v p r.query r.runs h in
    (0, (subst IsRunning (sym s.0) tt, s.1, subst (λ (n : ℕ). n < most_waiting) (sym (waits_as v p h.kept)) r.few)))

-- after its taking the turn is out
taken_out_at : (v : View) (t : TurnView) → takes v ≡ took.Turn t → (p : Pengine) → IsSeen v p → IsOut (after_entry (spec_seen v) Taken p) t
taken_out_at v t e p h =
    let r : Ready v t = ready_of v t e in
    let o : Fates.IsOut r.query p.number (most_waiting - waiting p) p.steps p.events (after_entry (spec_seen v) Taken p) = taken_out (spec_seen v) r.query p (running_state v p r.query r.runs h).0 in
    subst (λ (x : TurnView). IsOut (after_entry (spec_seen v) Taken p) x) (sym r.turn)
    (present (most_waiting - waiting p) (record {
      is_out = o.turn;
      query = o.state;
      number = h.kept.number ∙ sym o.number;
      steps = h.kept.steps ∙ sym o.steps;
      events = h.kept.events ∙ sym o.events;
      has_room = ap (λ (n : ℕ). most_waiting - n) (sym (waits_as v p h.kept));
    }))

taken_out_after : (v : View) (t : TurnView) → takes v ≡ took.Turn t → (before : List Entry) → IsRecord before v → IsOut (stood (taken v) (before ++ Taken ∷ [])) t
taken_out_after v t e before r = subst (λ (p : Pengine). IsOut p t) (sym (stood_more v before Taken)) (taken_out_at v t e (stood v before) r.seen)

pub takes_is : (v : View) (t : TurnView) → IsRecorded v → takes v ≡ took.Turn t → Takes v t (taken v)
takes_is v t r e =
    let l : Lengthens (Taken ∷ []) v (taken v) = take_lengthens v t e in
    record {
      lengthens = l;
      taken = record {
        program = ap (λ (x : TurnView). x.program) (ready_of v t e).turn;
        settings = ap (λ (x : TurnView). x.settings) (ready_of v t e).turn;
        entries = r.entries ++ Taken ∷ [];
        recorded = l.recorded r.entries r.recorded;
        out = taken_out_after v t e r.entries r.recorded;
      };
      out = taken_out_after v t e;
    }

-- A turn that comes back

some_same : (x y : ℕ) → Some x ≡ Some y → x ≡ y
some_same x y e = subst (λ (o : Option ℕ). at o) e refl
  where
    at : Option ℕ → Type 0
    at None = Unit {0}
    at (Some z) = x ≡ z

query_same : (x y : Query) → state.Running x ≡ state.Running y → x ≡ y
query_same x y e = subst (λ (s : State). at s) e refl
  where
    at : State → Type 0
    at (state.Running z) = x ≡ z
    at s = Unit {0}

not_older : (n k : ℕ) → k < n → k ≡ n → ⊥
not_older n k l e = omega (arith, l, e)

-- one that was lost isn't of the query that is out
lost_differs : (v : View) (es : List Entry) (k : ℕ) → IsRecord es v → Holds k (stood v es).lost → (room further : ℕ) → v.look ≡ Out room further → k ≡ v.number → ⊥
lost_differs v es k r h room further e n =
    let l : IsLook (Out room further) (stood v es).state (stood v es).turn = subst (λ (x : Look). IsLook x (stood v es).state (stood v es).turn) e r.seen.look in
    not_older (stood v es).number k (lost_turns_are_older (spec_seen v) es k h (subst IsRunning (sym l.0.1) tt)) (n ∙ r.seen.kept.number)

pub turn_of : (v : View) (t : TurnView) → IsTaken v t → (g : Gone) × (t.gone ≡ Some g) → IsTurnOf v t
turn_of v t k gone = record { gone = gone; present = λ room further e n. at room further e n k.out }
  where
    p : Pengine
    p = stood v k.entries

    at : (room further : ℕ) → v.look ≡ Out room further → t.number ≡ v.number → IsOut p t → IsPresent v t room further
    at room further e n (present r own) =
        let l : IsLook (Out room further) p.state p.turn = subst (λ (x : Look). IsLook x p.state p.turn) e k.recorded.seen.look in
        record {
          program = k.program;
          settings = k.settings;
          steps = own.steps ∙ sym k.recorded.seen.kept.steps;
          events = own.events ∙ sym k.recorded.seen.kept.events;
          has_room = own.has_room ∙ some_same r room (sym own.is_out ∙ l.1);
          requests = ap (λ (q : Query). length q.requests) (query_same t.query l.0.0 (sym own.query ∙ l.0.1)) ∙ l.0.2;
        }
    at room further e n (lost h) = absurd (lost_differs v k.entries t.number k.recorded h room further e n)

-- the look of a session that keeps a turn
pub record IsKeeping (v : View) (k : ℕ) : Type 0 where
  pub room : ℕ
  pub further : ℕ
  pub look : v.look ≡ Out room further
  pub number : v.number ≡ k

keeping_at : (v : View) (k : ℕ) (l : Look) → v.look ≡ l → (if is_present l v.number k then given.Kept else given.Dropped) ≡ given.Kept → IsKeeping v k
keeping_at v k Idle w e = cc
keeping_at v k (Running q) w e = cc
keeping_at v k (Out room further) w e = go (v.number == k) refl e
  where
    go : (b : Bool) → (v.number == k) ≡ b → (if b then given.Kept else given.Dropped) ≡ given.Kept → IsKeeping v k
    go true x e = record { room = room; further = further; look = w; number = eqb-true v.number k x }
    go false x e = cc
keeping_at v k (More q) w e = cc
keeping_at v k (Prompting q) w e = cc
keeping_at v k Ended w e = cc

turns_at : (v : View) (t : TurnView) (g : Gone) (budget room : ℕ) (p : Pengine) → t.program ≡ v.program → t.settings ≡ v.settings → IsOwn p t room → Turns (part_seen t) t.steps t.events budget t.room g.steps (length g.events) g.starved → TurnsAt (spec_seen v) budget p.state p.turn p g.steps (length g.events) g.starved
turns_at v t g budget room p c s own h =
    subst (λ (x : State). TurnsAt (spec_seen v) budget x p.turn p g.steps (length g.events) g.starved) (sym own.query)
    (subst (λ (o : Option ℕ). TurnsAt (spec_seen v) budget (state.Running t.query) o p g.steps (length g.events) g.starved) (sym own.is_out)
    (subst (λ (n : ℕ). Turns (part_of (spec_seen v) t.query) p.steps p.events budget n g.steps (length g.events) g.starved) own.has_room
    (subst (λ (n : ℕ). Turns (part_of (spec_seen v) t.query) n p.events budget t.room g.steps (length g.events) g.starved) own.steps
    (subst (λ (n : ℕ). Turns (part_of (spec_seen v) t.query) t.steps n budget t.room g.steps (length g.events) g.starved) own.events
    (subst (λ (z : Spec). Turns (part_of z t.query) t.steps t.events budget t.room g.steps (length g.events) g.starved) (same_spec t.program v.program t.settings v.settings c s) h)))))

pub kept_back : (v w : View) (t : TurnView) (g : Gone) → IsTaken v t → gives v t.number ≡ given.Kept → Keeps v t g w → GivesBack v t g true w
kept_back v w t g k e d = record { program = d.program; settings = d.settings; recorded = λ before r o. at before r o }
  where
    keeping : IsKeeping v t.number
    keeping = keeping_at v t.number v.look refl e

    at : (before : List Entry) → IsRecord before v → IsOut (stood v before) t → IsRecord (before ++ given_back t g true ∷ []) w
    at before r (present room own) =
        one_more v w (given_back t g true) before d.program d.settings r
        (d.turned.0, (own.number, turns_at v t g d.turned.0 room (stood v before) k.program k.settings own d.turned.1))
        (d.seen (stood v before) own.query r.seen)
    at before r (lost h) = absurd (lost_differs v before t.number r h keeping.room keeping.further keeping.look (sym keeping.number))

none_some : (o : Option ℕ) (n : ℕ) → o ≡ None → o ≡ Some n → ⊥
none_some o n e h = let w : None ≡ Some n = sym e ∙ h in cc

-- a turn that is out and has the number is kept
not_dropped : (n k room : ℕ) (s : State) (t : Option ℕ) (l : Look) → IsLook l s t → t ≡ Some room → n ≡ k → (if is_present l n k then given.Kept else given.Dropped) ≡ given.Dropped → ⊥
not_dropped n k room s t Idle h e q d = none_some t room h.1 e
not_dropped n k room s t (Running x) h e q d = none_some t room h.1 e
not_dropped n k room s t (Out r f) h e q d = go (n == k) (eq-eqb n k q) d
  where
    go : (b : Bool) → b ≡ true → (if b then given.Kept else given.Dropped) ≡ given.Dropped → ⊥
    go true x y = cc
    go false x y = cc
not_dropped n k room s t (More x) h e q d = none_some t room h.1 e
not_dropped n k room s t (Prompting x) h e q d = none_some t room h.1 e
not_dropped n k room s t Ended h e q d = none_some t room h.1 e

pub dropped_back : (v w : View) (t : TurnView) (g : Gone) → gives v t.number ≡ given.Dropped → Enters (given_back t g false) v w → GivesBack v t g false w
dropped_back v w t g e d = record { program = d.program; settings = d.settings; recorded = λ before r o. at before r o }
  where
    at : (before : List Entry) → IsRecord before v → IsOut (stood v before) t → IsRecord (before ++ given_back t g false ∷ []) w
    at before r (lost h) = one_more v w (given_back t g false) before d.program d.settings r (0, h) (d.seen (stood v before) r.seen)
    at before r (present room own) = absurd (not_dropped v.number t.number room (stood v before).state (stood v before).turn v.look r.seen.look own.is_out (r.seen.kept.number ∙ sym own.number) e)

-- what was recorded is recorded after the turn came back
pub given_goes_on : {v w : View} {t : TurnView} {g : Gone} {kept : Bool} → GivesBack v t g kept w → IsTaken v t → IsRecorded v → IsRecorded w
given_goes_on {v} {w} {t} {g} {kept} b k r = record {
  keeps = subst (λ (z : Loaded). KeepsSandbox z) (sym b.program) r.keeps;
  entries = k.entries ++ given_back t g kept ∷ [];
  recorded = b.recorded k.entries k.recorded k.out;
}

-- A pengine that was just made

first_possible : (spec : Spec) (o : Option Ask) → ArePossible spec (first_of o) made
first_possible spec None = possible_none spec made
first_possible spec (Some a) = possible_one spec (Sent (request.Ask a)) made (0, (tt, omega arith))

pub begun_record : (s : wanted.Spec) (v : View) → IsBegun s v → IsRecord (first_of s.ask) v
begun_record s v b =
    let same : spec_of s.program.value s.settings ≡ spec_seen v = sym (same_spec v.program s.program.value v.settings s.settings b.program b.settings) in
    record {
      possible = first_possible (spec_seen v) s.ask;
      seen = subst (λ (z : Spec). IsSeen v (after z (first_of s.ask) made)) same b.seen;
    }

pub begun_recorded : (s : wanted.Spec) (v : View) → KeepsSandbox s.program.value → IsBegun s v → IsRecorded v
begun_recorded s v k b = record {
  keeps = subst (λ (z : Loaded). KeepsSandbox z) (sym b.program) k;
  entries = first_of s.ask;
  recorded = begun_record s v b;
}

-- A turn was given back.
pub give_back : (v w : View) (t : TurnView) (g : Gone) (o : Outcome) → IsTaken v t → o ≡ gives v t.number → (o ≡ given.Kept → Keeps v t g w) → (o ≡ given.Dropped → Enters (given_back t g false) v w) → GivesBack v t g (is_kept o) w
give_back v w t g given.Kept k e f h = kept_back v w t g k (sym e) (f refl)
give_back v w t g given.Dropped k e f h = dropped_back v w t g (sym e) (h refl)

-- A take in code

turn_answer : (o : Took) → IsTrue (is_turn o) → (t : TurnView) × (o ≡ took.Turn t)
turn_answer (took.Turn t) h = (t, refl)
turn_answer took.Out h = cc
turn_answer took.Idle h = cc
turn_answer took.QueueFull h = cc

pub take_back : (a b : Automaton) (o : Took) → o ≡ takes (view_of a) → (IsTrue (is_turn o) → view_of b ≡ taken (view_of a)) → IsRecorded (view_of a) → (t : TurnView) → o ≡ took.Turn t → (view_of b ≡ taken (view_of a)) × Takes (view_of a) t (view_of b)
take_back a b o e f r t h =
    let w : view_of b ≡ taken (view_of a) = f (ap is_turn h) in
    (w, subst (λ (x : View). Takes (view_of a) t x) (sym w) (takes_is (view_of a) t r (sym e ∙ h)))

pub take_goes_on : (a b : Automaton) (o : Took) → o ≡ takes (view_of a) → (IsTrue (is_turn o) → view_of b ≡ taken (view_of a)) → (is_turn o ≡ false → b ≡ a) → IsRecorded (view_of a) → IsRecorded (view_of b)
take_goes_on a b o e f n r = go (is_turn o) refl
  where
    go : (c : Bool) → is_turn o ≡ c → IsRecorded (view_of b)
    go true w = let t : (t : TurnView) × (o ≡ took.Turn t) = turn_answer o w in goes_on (take_back a b o e f r t.0 t.1).1.lengthens r
    go false w = subst (λ (x : Automaton). IsRecorded (view_of x)) (sym (n w)) r

-- A send and a pull in code

not_false : (b : Bool) → b ≡ false → b ≡ true → ⊥
not_false b e f = let w : false ≡ true = sym e ∙ f in cc

pub sent_back : (a b : Automaton) (r : Request) (ended : Bool) → ended ≡ is_ended (look_of a.state) → ended ≡ false → (n : ℕ) → n ≡ length a.mailbox.items → n < 64 → Enters (Sent r) (view_of a) (view_of b) → Lengthens (Sent r ∷ []) (view_of a) (view_of b)
sent_back a b r x e f n k l d =
    let m : length (requests_of a.mailbox.items) ≡ length a.mailbox.items = length-map a.mailbox.items (λ (z : Letter). z.node) in
    sends (view_of a) (view_of b) r (λ h. not_false x f (e ∙ ap is_ended h)) (omega (arith, k, l, m)) d

pub pulled_one : (a b : Automaton) (e : Event) (rest : List Event) → a.queue.items ≡ e ∷ rest → Enters (Pulled 1) (view_of a) (view_of b) → Lengthens (Pulled 1 ∷ []) (view_of a) (view_of b)
pulled_one a b e rest q d =
    let k : length a.queue.items ≡ suc (length rest) = ap (λ (l : List Event). length l) q in
    pulls (view_of a) (view_of b) 1 (omega arith) (omega (arith, k)) d

filled : (xs : List Event) → xs ≢ [] → 0 < length xs
filled [] n = absurd (n refl)
filled (x ∷ xs) n = omega arith

pub pulled_some : (a b : Automaton) (max : ℕ) → 0 < max → a.queue.items ≢ [] → Enters (Pulled (min max (length a.queue.items))) (view_of a) (view_of b) → Lengthens (Pulled (min max (length a.queue.items)) ∷ []) (view_of a) (view_of b)
pulled_some a b max some n d =
    let k : 0 < length a.queue.items = filled a.queue.items n in
    pulls (view_of a) (view_of b) (min max (length a.queue.items)) (omega (arith, some, k)) (omega arith) d

-- A turn stays out until it is given back: as long as nothing breaks its query off, the query, its number, its steps and its events stay, and after that it is lost.
pub still_out : (spec : Spec) (budget : ℕ) (f : Entry) (p : Pengine) (t : TurnView) → IsAllowed spec budget f p → returns t.number f ≡ false → IsOut p t → IsOut (after_entry spec f p) t
still_out spec budget f p t a r (lost h) = lost (lost_entry spec t.number f p h r)
still_out spec budget f p t a r (present room own) = go (breaks f) refl
  where
    out : Fates.IsOut t.query t.number room t.steps t.events p
    out = record { state = own.query; turn = own.is_out; number = sym own.number; steps = sym own.steps; events = sym own.events }

    go : (b : Bool) → breaks f ≡ b → IsOut (after_entry spec f p) t
    go true w = lost (broken_entry spec t.query t.number room t.steps t.events f p out w)
    go false w =
        let o : Fates.IsOut t.query t.number room t.steps t.events (after_entry spec f p) = out_entry spec budget t.query t.number room t.steps t.events f p out a r w in
        present room (record { is_out = o.turn; query = o.state; number = sym o.number; steps = sym o.steps; events = sym o.events; has_room = own.has_room })

pub still_taken : (e : Entry) {v w : View} {t : TurnView} → returns t.number e ≡ false → Lengthens (e ∷ []) v w → IsTaken v t → IsTaken w t
still_taken e {v} {w} {t} r l k =
    let same : spec_seen v ≡ spec_seen w = sym (same_spec w.program v.program w.settings v.settings l.program l.settings) in
    let now : IsRecord (k.entries ++ e ∷ []) w = l.recorded k.entries k.recorded in
    let a : (budget : ℕ) × IsAllowed (spec_seen w) budget e (stood w k.entries) = possible_head (spec_seen w) e [] (stood w k.entries) (possible_later (spec_seen w) k.entries (e ∷ []) made now.possible) in
    let o : IsOut (stood w k.entries) t = subst (λ (z : Spec). IsOut (after z k.entries made) t) same k.out in
    record {
      program = k.program ∙ sym l.program;
      settings = k.settings ∙ sym l.settings;
      entries = k.entries ++ e ∷ [];
      recorded = now;
      out = subst (λ (p : Pengine). IsOut p t) (sym (stood_more w k.entries e)) (still_out (spec_seen w) a.0 e (stood w k.entries) t a.1 r o);
    }

-- a turn that has gone is out as it was
pub gone_out : (p : Pengine) (t : TurnView) (g : Gone) → IsOut p t → IsOut p (record t { gone = Some g })
gone_out p t g (present room own) = present room (record { is_out = own.is_out; query = own.query; number = own.number; steps = own.steps; events = own.events; has_room = own.has_room })
gone_out p t g (lost h) = lost h

pub gone_taken : {v : View} {t u : TurnView} {g : Gone} → u ≡ record t { gone = Some g } → IsTaken v t → IsTaken v u
gone_taken {v} {t} {u} {g} e k = subst (λ (x : TurnView). IsTaken v x) (sym e) (record { program = k.program; settings = k.settings; entries = k.entries; recorded = k.recorded; out = gone_out (stood v k.entries) t g k.out })
