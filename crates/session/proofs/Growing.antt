-- Events are only added, an entry at a time; what was pulled, and which turns are lost, changes by the entries that say so.
use Rattle.std.proofs.Common.{◌≡◌, ℕ, zero, suc, ◌+◌, ◌≤◌, Bool, true, false, ◌&&◌, List, [], ◌∷◌, ◌++◌, length, nat_le, nat_lt, if◌then◌else◌, Option, Some, None, refl, ap, sym, ◌∙◌, append_assoc, append-nil, length-append, arith}
use Rattle.event_core.specs.declared.event.Event.{Event}
use Rattle.event_core.specs.declared.event.Event.TheVariants as event
use Rattle.event_core.specs.declared.request.Request.{Request}
use Rattle.event_core.specs.declared.request.Request.TheVariants as request
use Rattle.event_core.specs.declared.rest.Rest.{Rest}
use Rattle.event_core.specs.declared.rest.Rest.TheVariants as rest
use Rattle.event_core.specs.Full.{Spec, Query, part_of, events_of, span}
use Rattle.session.specs.After as state
use Rattle.session.specs.After.{State, Idle, Running, Ended, Pengine, waiting, emits, ends, begins, fits, first_consumed, consumes_now, settled, Entry, Sent, Pulled, Abort, Destroy, Taken, Given, rest_at, advances, turned_at, aborted_at, destroyed_at, struck, losing, without, handed_out, entered, after_entry, after, made, most_waiting}
use Rattle.session.specs.Legal.{IsAllowed, IsLegal}
use Rattle.event_core.specs.Laws.{Begins}

pub begins_refl : {A : Type 0} (xs : List A) → Begins xs xs
begins_refl xs = ([], sym (append-nil xs))

pub begins_trans : {A : Type 0} (xs ys zs : List A) → Begins xs ys → Begins ys zs → Begins xs zs
begins_trans xs ys zs a b = (a.0 ++ b.0, b.1 ∙ ap (λ l. l ++ b.0) a.1 ∙ append_assoc xs a.0 b.0)

-- events may have been added, and nothing was pulled or lost
pub record Grows (p q : Pengine) : Type 0 where
  pub emitted : Begins p.emitted q.emitted
  pub pulled : q.pulled ≡ p.pulled
  pub lost : q.lost ≡ p.lost

grows_trans : (p q r : Pengine) → Grows p q → Grows q r → Grows p r
grows_trans p q r a b = record { emitted = begins_trans p.emitted q.emitted r.emitted a.emitted b.emitted; pulled = b.pulled ∙ a.pulled; lost = b.lost ∙ a.lost }

ends_grows : (b : Bool) (p : Pengine) → Grows p (ends b p)
ends_grows true p = record { emitted = (event.Destroy ∷ [], refl); pulled = refl; lost = refl }
ends_grows false p = record { emitted = begins_refl p.emitted; pulled = refl; lost = refl }

emits_grows : (e : Event) (p : Pengine) → Grows p (emits e p)
emits_grows e p = record { emitted = (e ∷ [], refl); pulled = refl; lost = refl }

says_ends : (b : Bool) (e : Event) (p : Pengine) → Grows p (ends b (emits e p))
says_ends b e p = grows_trans p (emits e p) (ends b (emits e p)) (emits_grows e p) (ends_grows b (emits e p))

same_grows : (p q : Pengine) → q.emitted ≡ p.emitted → q.pulled ≡ p.pulled → q.lost ≡ p.lost → Grows p q
same_grows p q a b c = record { emitted = ([], a ∙ sym (append-nil p.emitted)); pulled = b; lost = c }

fits_grows : (spec : Spec) (s : State) (r : Request) (p : Pengine) → Grows p (fits spec s r p)
fits_grows spec Idle (request.Ask x) p = go (spec.refusal x)
  where
    go : (v : Option _) → Grows p (begins spec x v p)
    go None = same_grows p (begins spec x None p) refl refl refl
    go (Some t) = grows_trans p (record p { number = suc p.number; steps = 0; events = 0 }) _ (same_grows p (record p { number = suc p.number; steps = 0; events = 0 }) refl refl refl) (says_ends spec.destroys (event.Error t) (record p { number = suc p.number; steps = 0; events = 0 }))
fits_grows spec Idle (request.Next c) p = emits_grows _ p
fits_grows spec Idle request.Stop p = emits_grows _ p
fits_grows spec Idle (request.Respond x) p = emits_grows _ p
fits_grows spec (Running q) (request.Ask x) p = emits_grows _ p
fits_grows spec (Running q) (request.Next c) p = emits_grows _ p
fits_grows spec (Running q) request.Stop p = emits_grows _ p
fits_grows spec (Running q) (request.Respond x) p = emits_grows _ p
fits_grows spec (state.More q) (request.Ask x) p = emits_grows _ p
fits_grows spec (state.More q) (request.Next c) p = same_grows p _ refl refl refl
fits_grows spec (state.More q) request.Stop p = says_ends spec.destroys event.Stop p
fits_grows spec (state.More q) (request.Respond x) p = emits_grows _ p
fits_grows spec (state.Prompting q) (request.Ask x) p = emits_grows _ p
fits_grows spec (state.Prompting q) (request.Next c) p = emits_grows _ p
fits_grows spec (state.Prompting q) request.Stop p = emits_grows _ p
fits_grows spec (state.Prompting q) (request.Respond x) p = same_grows p _ refl refl refl
fits_grows spec Ended (request.Ask x) p = emits_grows _ p
fits_grows spec Ended (request.Next c) p = emits_grows _ p
fits_grows spec Ended request.Stop p = emits_grows _ p
fits_grows spec Ended (request.Respond x) p = emits_grows _ p

first_grows : (spec : Spec) (ms : List Request) (p : Pengine) → Grows p (first_consumed spec ms p)
first_grows spec [] p = same_grows p p refl refl refl
first_grows spec (r ∷ ms) p = grows_trans p (record p { mailbox = ms; consumed = suc p.consumed }) _ (same_grows p (record p { mailbox = ms; consumed = suc p.consumed }) refl refl refl) (fits_grows spec p.state r (record p { mailbox = ms; consumed = suc p.consumed }))

pub settled_grows : (spec : Spec) (n : ℕ) (p : Pengine) → Grows p (settled spec n p)
unfolding settled
settled_grows spec zero p = same_grows p p refl refl refl
settled_grows spec (suc n) p = go (grows_trans p (first_consumed spec p.mailbox p) _ (first_grows spec p.mailbox p) (settled_grows spec n (first_consumed spec p.mailbox p))) (consumes_now p.state && nat_lt (waiting p) most_waiting)
  where
    go : Grows p (settled spec n (first_consumed spec p.mailbox p)) → (b : Bool) → Grows p (elim b as (λ z. Pengine) [ true ↦ settled spec n (first_consumed spec p.mailbox p) | false ↦ p ])
    go ih true = ih
    go ih false = same_grows p p refl refl refl

-- Entries

rest_grows : (spec : Spec) (q : Query) (r : Rest) (p : Pengine) → Grows p (rest_at spec q r p)
rest_grows spec q rest.More p = same_grows p _ refl refl refl
rest_grows spec q rest.Prompting p = same_grows p _ refl refl refl
rest_grows spec q rest.Over p = ends_grows spec.destroys p

advances_grows : (spec : Spec) (q : Query) (n e : ℕ) (b : Bool) (p : Pengine) → Grows p (advances spec q n e b p)
advances_grows spec q n e b p = go b (nat_le (length (events_of spec q)) e)
  where
    r : Pengine
    r = record p { steps = n; events = e; emitted = p.emitted ++ span spec q p.events e }

    first : Grows p r
    first = record { emitted = (span spec q p.events e, refl); pulled = refl; lost = refl }

    go : (b c : Bool) → Grows p (if b then ends spec.destroys (emits event.Memory r) else (if c then rest_at spec q (part_of spec q).rest r else r))
    go true c = grows_trans p r _ first (says_ends spec.destroys event.Memory r)
    go false true = grows_trans p r _ first (rest_grows spec q (part_of spec q).rest r)
    go false false = first

pub turned_grows : (spec : Spec) (n e : ℕ) (b : Bool) (s : State) (p : Pengine) → Grows p (turned_at spec n e b s p)
turned_grows spec n e b Idle p = same_grows p p refl refl refl
turned_grows spec n e b (Running q) p = advances_grows spec q (p.steps + n) (p.events + e) b p
turned_grows spec n e b (state.More q) p = same_grows p p refl refl refl
turned_grows spec n e b (state.Prompting q) p = same_grows p p refl refl refl
turned_grows spec n e b Ended p = same_grows p p refl refl refl

pub aborted_grows : (spec : Spec) (s : State) (p : Pengine) → Grows p (aborted_at spec s p)
aborted_grows spec Idle p = same_grows p p refl refl refl
aborted_grows spec (Running q) p = says_ends spec.destroys event.Abort p
aborted_grows spec (state.More q) p = says_ends spec.destroys event.Abort p
aborted_grows spec (state.Prompting q) p = says_ends spec.destroys event.Abort p
aborted_grows spec Ended p = same_grows p p refl refl refl

-- the event `destroy`, unless it came before
abbrev pub last_at : State → List Event
last_at Ended = []
last_at s = event.Destroy ∷ []

pub destroyed_emits : (s : State) (p : Pengine) → (destroyed_at s p).emitted ≡ p.emitted ++ last_at s
destroyed_emits Idle p = refl
destroyed_emits (Running q) p = refl
destroyed_emits (state.More q) p = refl
destroyed_emits (state.Prompting q) p = refl
destroyed_emits Ended p = sym (append-nil p.emitted)

destroyed_lost : (s : State) (p : Pengine) → (destroyed_at s p).lost ≡ p.lost
destroyed_lost Idle p = refl
destroyed_lost (Running q) p = refl
destroyed_lost (state.More q) p = refl
destroyed_lost (state.Prompting q) p = refl
destroyed_lost Ended p = refl

destroyed_box : (s : State) (p : Pengine) → p.mailbox ≡ [] → (destroyed_at s p).mailbox ≡ []
destroyed_box Idle p h = refl
destroyed_box (Running q) p h = refl
destroyed_box (state.More q) p h = refl
destroyed_box (state.Prompting q) p h = refl
destroyed_box Ended p h = h

destroyed_state : (s : State) (p : Pengine) → p.state ≡ s → (destroyed_at s p).state ≡ Ended
destroyed_state Idle p h = refl
destroyed_state (Running q) p h = refl
destroyed_state (state.More q) p h = refl
destroyed_state (state.Prompting q) p h = refl
destroyed_state Ended p h = h

settled_zero : (spec : Spec) (p : Pengine) → settled spec 0 p ≡ p
unfolding settled
settled_zero spec p = refl

-- a destroy is followed by nothing
pub destroy_is : (spec : Spec) (p : Pengine) → after_entry spec Destroy p ≡ handed_out (destroyed_at p.state (struck p))
destroy_is spec p = ap (λ (n : ℕ). settled spec n (handed_out (destroyed_at p.state (struck p)))) (ap length (destroyed_box p.state (struck p) refl)) ∙ settled_zero spec _

pub destroy_emits : (spec : Spec) (p : Pengine) → (after_entry spec Destroy p).emitted ≡ p.emitted ++ last_at p.state
destroy_emits spec p = ap (λ (q : Pengine). q.emitted) (destroy_is spec p) ∙ destroyed_emits p.state (struck p)

pub destroy_pulls : (spec : Spec) (p : Pengine) → (after_entry spec Destroy p).pulled ≡ length (after_entry spec Destroy p).emitted
destroy_pulls spec p = rw (destroy_is spec p) refl

pub destroy_ends : (spec : Spec) (p : Pengine) → (after_entry spec Destroy p).state ≡ Ended
destroy_ends spec p = rw (destroy_is spec p) (destroyed_state p.state (struck p) refl)

-- each entry only adds events
pub entry_begins : (spec : Spec) (e : Entry) (p : Pengine) → Begins p.emitted (after_entry spec e p).emitted
entry_begins spec (Sent r) p = (settled_grows spec _ (entered spec (Sent r) p)).emitted
entry_begins spec (Pulled m) p = (settled_grows spec _ (entered spec (Pulled m) p)).emitted
entry_begins spec Abort p = begins_trans _ _ _ (aborted_grows spec p.state (struck p)).emitted (settled_grows spec _ (entered spec Abort p)).emitted
entry_begins spec Destroy p = (last_at p.state, destroy_emits spec p)
entry_begins spec Taken p = (settled_grows spec _ (entered spec Taken p)).emitted
entry_begins spec (Given k n e starved false) p = (settled_grows spec _ (entered spec (Given k n e starved false) p)).emitted
entry_begins spec (Given k n e starved true) p = begins_trans _ _ _ (turned_grows spec n e starved p.state (record p { turn = None })).emitted (settled_grows spec _ (entered spec (Given k n e starved true) p)).emitted

-- how many events are pulled after the entry
abbrev pub pulled_after : Entry → Pengine → (emitted : ℕ) → ℕ
pulled_after (Pulled m) p n = p.pulled + m
pulled_after Destroy p n = n
pulled_after e p n = p.pulled

pub entry_pulls : (spec : Spec) (e : Entry) (p : Pengine) → (after_entry spec e p).pulled ≡ pulled_after e p (length (after_entry spec e p).emitted)
entry_pulls spec (Sent r) p = (settled_grows spec _ (entered spec (Sent r) p)).pulled
entry_pulls spec (Pulled m) p = (settled_grows spec _ (entered spec (Pulled m) p)).pulled
entry_pulls spec Abort p = (settled_grows spec _ (entered spec Abort p)).pulled ∙ (aborted_grows spec p.state (struck p)).pulled
entry_pulls spec Destroy p = destroy_pulls spec p
entry_pulls spec Taken p = (settled_grows spec _ (entered spec Taken p)).pulled
entry_pulls spec (Given k n e starved false) p = (settled_grows spec _ (entered spec (Given k n e starved false) p)).pulled
entry_pulls spec (Given k n e starved true) p = (settled_grows spec _ (entered spec (Given k n e starved true) p)).pulled ∙ (turned_grows spec n e starved p.state (record p { turn = None })).pulled

-- the turns that are lost after the entry
abbrev pub lost_after : Entry → Pengine → List ℕ
lost_after Abort p = losing p.turn p.number p.lost
lost_after Destroy p = losing p.turn p.number p.lost
lost_after (Given k n e starved false) p = without k p.lost
lost_after e p = p.lost

pub entry_loses : (spec : Spec) (e : Entry) (p : Pengine) → (after_entry spec e p).lost ≡ lost_after e p
entry_loses spec (Sent r) p = (settled_grows spec _ (entered spec (Sent r) p)).lost
entry_loses spec (Pulled m) p = (settled_grows spec _ (entered spec (Pulled m) p)).lost
entry_loses spec Abort p = (settled_grows spec _ (entered spec Abort p)).lost ∙ (aborted_grows spec p.state (struck p)).lost
entry_loses spec Destroy p = ap (λ (q : Pengine). q.lost) (destroy_is spec p) ∙ destroyed_lost p.state (struck p)
entry_loses spec Taken p = (settled_grows spec _ (entered spec Taken p)).lost
entry_loses spec (Given k n e starved false) p = (settled_grows spec _ (entered spec (Given k n e starved false) p)).lost
entry_loses spec (Given k n e starved true) p = (settled_grows spec _ (entered spec (Given k n e starved true) p)).lost ∙ (turned_grows spec n e starved p.state (record p { turn = None })).lost

-- Lists of entries

pub after_append : (spec : Spec) (es fs : List Entry) (p : Pengine) → after spec (es ++ fs) p ≡ after spec fs (after spec es p)
unfolding after
after_append spec [] fs p = refl
after_append spec (e ∷ es) fs p = after_append spec es fs (after_entry spec e p)

pub after_one : (spec : Spec) (e : Entry) (p : Pengine) → after spec (e ∷ []) p ≡ after_entry spec e p
unfolding after
after_one spec e p = refl

pub after_none : (spec : Spec) (p : Pengine) → after spec [] p ≡ p
unfolding after
after_none spec p = refl

pub after_cons : (spec : Spec) (e : Entry) (es : List Entry) (p : Pengine) → after spec (e ∷ es) p ≡ after spec es (after_entry spec e p)
unfolding after
after_cons spec e es p = refl

pub legal_append : (spec : Spec) (budget : ℕ) (es fs : List Entry) (p : Pengine) → IsLegal spec budget es p → IsLegal spec budget fs (after spec es p) → IsLegal spec budget (es ++ fs) p
unfolding IsLegal after
legal_append spec budget [] fs p a b = b
legal_append spec budget (e ∷ es) fs p a b = (a.0, legal_append spec budget es fs (after_entry spec e p) a.1 b)

pub legal_later : (spec : Spec) (budget : ℕ) (es fs : List Entry) (p : Pengine) → IsLegal spec budget (es ++ fs) p → IsLegal spec budget fs (after spec es p)
unfolding IsLegal after
legal_later spec budget [] fs p a = a
legal_later spec budget (e ∷ es) fs p a = legal_later spec budget es fs (after_entry spec e p) a.1

pub legal_none : (spec : Spec) (budget : ℕ) (p : Pengine) → IsLegal spec budget [] p
unfolding IsLegal
legal_none spec budget p = tt

pub legal_one : (spec : Spec) (budget : ℕ) (e : Entry) (p : Pengine) → IsAllowed spec budget e p → IsLegal spec budget (e ∷ []) p
unfolding IsLegal
legal_one spec budget e p a = (a, tt)

pub legal_head : (spec : Spec) (budget : ℕ) (e : Entry) (es : List Entry) (p : Pengine) → IsLegal spec budget (e ∷ es) p → IsAllowed spec budget e p
unfolding IsLegal
legal_head spec budget e es p a = a.0

pub legal_tail : (spec : Spec) (budget : ℕ) (e : Entry) (es : List Entry) (p : Pengine) → IsLegal spec budget (e ∷ es) p → IsLegal spec budget es (after_entry spec e p)
unfolding IsLegal
legal_tail spec budget e es p a = a.1

-- no more is pulled than was emitted
length_begins : {A : Type 0} (xs ys : List A) → Begins xs ys → length xs ≤ length ys
length_begins xs ys b = omega (arith, ap length b.1, length-append xs b.0)

entry_bound : (spec : Spec) (budget : ℕ) (e : Entry) (p : Pengine) → IsAllowed spec budget e p → p.pulled ≤ length p.emitted → (after_entry spec e p).pulled ≤ length (after_entry spec e p).emitted
entry_bound spec budget e p a h = go e a (entry_pulls spec e p) (length_begins _ _ (entry_begins spec e p))
  where
    go : (e : Entry) → IsAllowed spec budget e p → (after_entry spec e p).pulled ≡ pulled_after e p (length (after_entry spec e p).emitted) → length p.emitted ≤ length (after_entry spec e p).emitted → (after_entry spec e p).pulled ≤ length (after_entry spec e p).emitted
    go (Sent r) a q l = omega (arith, q, l, h)
    go (Pulled m) a q l = omega (arith, q, l, h, a.1)
    go Abort a q l = omega (arith, q, l, h)
    go Destroy a q l = omega (arith, q)
    go Taken a q l = omega (arith, q, l, h)
    go (Given k n e starved kept) a q l = omega (arith, q, l, h)

pub pulled_bound : (spec : Spec) (budget : ℕ) (es : List Entry) (p : Pengine) → IsLegal spec budget es p → p.pulled ≤ length p.emitted → (after spec es p).pulled ≤ length (after spec es p).emitted
unfolding IsLegal after
pulled_bound spec budget [] p a h = h
pulled_bound spec budget (e ∷ es) p a h = pulled_bound spec budget es (after_entry spec e p) a.1 (entry_bound spec budget e p a.0 h)
