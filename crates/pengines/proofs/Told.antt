-- The lines that a session tells, call by call.
use Rattle.std.proofs.Common.{◌≡◌, ◌≢◌, ℕ, Bool, true, false, List, [], ◌∷◌, ◌++◌, map, drop, Option, Some, None, refl, ap, sym, subst, ◌∙◌, codes}
use Rattle.event_core.specs.declared.event.Event.{Event}
use Rattle.event_core.specs.declared.event.Event.TheVariants as event
use Rattle.event_core.specs.declared.request.Request.{Request}
use Rattle.event_core.specs.Full.{Spec, Place, Free, In, Closed, Reading, at, step, ByAbort, ByDestroy, strikes_at}
use Rattle.event_core.specs.Lines.{line_of}
use Rattle.event_core.specs.Texts.{argument}
use Rattle.request_text.specs.declared.sent.Sent.{Sent}
use Rattle.request_text.specs.declared.sent.Sent.TheVariants as sent
use Rattle.request_text.specs.Lines.{sent_step, lines_with_late, lines_left}
use Rattle.request_text.proofs.Printed.{brings_closed, lines_left-late, lines_left-script, lines_left-step}
use Rattle.session.specs.Answers.{is_ended, last_of}
use Rattle.session.specs.Resting.{comes, IsLed, Rests, Leads, Hears}
use Rattle.session.specs.Views.{Look, Idle, Running, Out, More, Prompting, Ended, View, spec_seen}
use Rattle.session.proofs.Resting.{begins_led, none_comes, open_elsewhere, last_told}
use Rattle.session.proofs.Seen.{same_spec}
use Rattle.event_core.specs.Standing.{spec_of}
use Rattle.program.specs.Loaded.{Loaded}
use Rattle.sandbox_walk.specs.Keeping.{KeepsSandbox}
use Rattle.request_text.specs.Spelled.{Script}
use Rattle.request_text.specs.Lines.{script_lines}
use Rattle.session.specs.Recorded.{IsRecord}
use Rattle.pengines.specs.Printed.{left, Tells, is_over, IsLedOn, HasTold}

spec_same : (v w : View) → w.program ≡ v.program → w.settings ≡ v.settings → spec_seen w ≡ spec_seen v
spec_same v w c s = same_spec w.program v.program w.settings v.settings c s

-- what is left of a session that comes to this
left_of : (v w : View) (x : Reading) (more : List Sent) → Leads v w x → lines_left (spec_seen v) x.emitted more x.place ≡ left (Some w) true more
left_of v w x more l =
    ap (λ (z : Spec). lines_left z x.emitted more x.place) (sym (spec_same v w l.program l.settings))
    ∙ ap (λ (y : Reading). lines_left (spec_seen w) y.emitted more y.place) (sym l.comes_to)

pub heard_told : (v w : View) (e : Event) → Hears v e w → Tells (Some v) [] (e ∷ []) (Some w)
heard_told v w e h more =
    ap (λ (y : Reading). lines_left (spec_seen v) y.emitted more y.place) h.heard
    ∙ ap (λ (z : Spec). line_of argument e ∷ lines_left z (comes w).emitted more (comes w).place) (sym (spec_same v w h.program h.settings))

pub led_told : (v w : View) → Leads v w (comes v) → Tells (Some v) [] [] (Some w)
led_told v w l more = left_of v w (comes v) more l

-- what is sent at rest, before the end
sent_told : (v : View) (s : Sent) (more : List Sent) → IsLed v → Rests v → (v.look ≡ Ended → ⊥) → left (Some v) true (s ∷ more) ≡ lines_left (spec_seen v) (sent_step (spec_seen v) s (comes v).place).emitted more (sent_step (spec_seen v) s (comes v).place).place
sent_told v s more led h live =
    ap (λ (es : List Event). lines_left (spec_seen v) es (s ∷ more) (comes v).place) (none_comes v led h)
    ∙ lines_left-step (spec_seen v) s more (comes v).place (open_elsewhere v led h live)

pub asked_told : (v w : View) (r : Request) → IsLed v → Rests v → (v.look ≡ Ended → ⊥) → Leads v w (step (spec_seen v) r (comes v).place) → Tells (Some v) (sent.Request r ∷ []) [] (Some w)
asked_told v w r led h live l more = sent_told v (sent.Request r) more led h live ∙ left_of v w (step (spec_seen v) r (comes v).place) more l

pub broken_told : (v w : View) → IsLed v → Rests v → (v.look ≡ Ended → ⊥) → Leads v w (strikes_at (spec_seen v) ByAbort (comes v).place []) → Tells (Some v) (sent.Abort ∷ []) [] (Some w)
broken_told v w led h live l more = sent_told v sent.Abort more led h live ∙ left_of v w (strikes_at (spec_seen v) ByAbort (comes v).place []) more l

closed_left : (spec : Spec) (es : List Event) (more : List Sent) → lines_left spec es more Closed ≡ map (line_of argument) es ++ left None true more
closed_left spec [] more = ap (λ (fs : List Event). lines_with_late fs more) (brings_closed spec more)
closed_left spec (e ∷ es) more = ap (λ (ls : List (List ℕ)). line_of argument e ∷ ls) (closed_left spec es more)

destroyed_place : (spec : Spec) (p : Place) → (strikes_at spec ByDestroy p []).place ≡ Closed
destroyed_place spec Free = refl
destroyed_place spec (In q g) = refl
destroyed_place spec Closed = refl

-- a session that is destroyed at rest
pub destroyed_told : (v : View) (es : List Event) → IsLed v → Rests v → (v.look ≡ Ended → ⊥) → es ≡ v.queue ++ last_of v.look → Tells (Some v) (sent.Destroy ∷ []) es None
destroyed_told v es led h live e more =
    let z : Spec = spec_seen v in
    let x : Reading = strikes_at z ByDestroy (comes v).place [] in
    sent_told v sent.Destroy more led h live
    ∙ ap (λ (p : Place). lines_left z x.emitted more p) (destroyed_place z (comes v).place)
    ∙ closed_left z x.emitted more
    ∙ ap (λ (fs : List Event). map (line_of argument) fs ++ left None true more) (sym (e ∙ last_told v led h))

-- it tells one event then, since it hasn't ended
last_one : (v : View) → Rests v → (l : Look) → v.look ≡ l → (l ≡ Ended → ⊥) → v.queue ++ last_of v.look ≡ event.Destroy ∷ []
last_one v h Idle e n = rw (h.queue, e) refl
last_one v h (Running q) e n = rw (h.queue, e) refl
last_one v h (Out room further) e n = rw (h.queue, e) refl
last_one v h (More q) e n = rw (h.queue, e) refl
last_one v h (Prompting q) e n = rw (h.queue, e) refl
last_one v h Ended e n = absurd (n refl)

pub one_told : (v : View) → Rests v → (v.look ≡ Ended → ⊥) → v.queue ++ last_of v.look ≡ event.Destroy ∷ []
one_told v h n = last_one v h v.look refl n

-- where it has ended, what is sent is late
ended_look : (l : Look) → is_ended l ≡ true → l ≡ Ended
ended_look Idle e = cc
ended_look (Running q) e = cc
ended_look (Out room further) e = cc
ended_look (More q) e = cc
ended_look (Prompting q) e = cc
ended_look Ended e = refl

pub not_ended : (v : View) → is_ended v.look ≡ false → v.look ≡ Ended → ⊥
not_ended v e h = let w : is_ended v.look ≡ true = ap is_ended h in let x : true ≡ false = sym w ∙ e in cc

closed_at : (v : View) → Rests v → is_ended v.look ≡ true → comes v ≡ at Closed []
closed_at v h e = rw (ended_look v.look e, h.queue) refl

pub late_told : (o : Option View) (s : Sent) (more : List Sent) → HasTold o → is_over o ≡ true → left o true (s ∷ more) ≡ codes "ended" ∷ left o true more
late_told None s more h e = refl
late_told (Some v) s more h e =
    let c : comes v ≡ at Closed [] = closed_at v h e in
    ap (λ (y : Reading). lines_left (spec_seen v) y.emitted (s ∷ more) y.place) c
    ∙ lines_left-late (spec_seen v) s more
    ∙ ap (λ (y : Reading). codes "ended" ∷ lines_left (spec_seen v) y.emitted more y.place) (sym c)

no_lines : (spec : Spec) (p : Place) → lines_left spec [] [] p ≡ []
no_lines spec Free = refl
no_lines spec (In q g) = refl
no_lines spec Closed = refl

pub nothing_left : (o : Option View) → IsLedOn o → HasTold o → left o true [] ≡ []
nothing_left None l h = refl
nothing_left (Some v) l h = ap (λ (es : List Event). lines_left (spec_seen v) es [] (comes v).place) (none_comes v l h) ∙ no_lines (spec_seen v) (comes v).place

-- ---- a session that may be gone

pub asked_on : (o : Option View) (s : Sent) (r : Request) (v w : View) → o ≡ Some v → s ≡ sent.Request r → IsLedOn o → HasTold o → is_over o ≡ false → Leads v w (step (spec_seen v) r (comes v).place) → Tells o (s ∷ []) [] (Some w)
asked_on o s r v w a b led h live l more =
    ap (λ (z : Option View). left z true (s ∷ more)) a
    ∙ ap (λ (t : Sent). left (Some v) true (t ∷ more)) b
    ∙ asked_told v w r (subst IsLedOn a led) (subst HasTold a h) (not_ended v (subst (λ (z : Option View). is_over z ≡ false) a live)) l more

pub broken_on : (o : Option View) (s : Sent) (v w : View) → o ≡ Some v → s ≡ sent.Abort → IsLedOn o → HasTold o → is_over o ≡ false → Leads v w (strikes_at (spec_seen v) ByAbort (comes v).place []) → Tells o (s ∷ []) [] (Some w)
broken_on o s v w a b led h live l more =
    ap (λ (z : Option View). left z true (s ∷ more)) a
    ∙ ap (λ (t : Sent). left (Some v) true (t ∷ more)) b
    ∙ broken_told v w (subst IsLedOn a led) (subst HasTold a h) (not_ended v (subst (λ (z : Option View). is_over z ≡ false) a live)) l more

pub destroyed_on : (o w : Option View) (v : View) (e : Event) (es : List Event) → o ≡ Some v → w ≡ None → IsLedOn o → HasTold o → is_over o ≡ false → e ∷ es ≡ v.queue ++ last_of v.look → Tells o (sent.Destroy ∷ []) (e ∷ []) w
destroyed_on o w v e es a b led h live told more =
    let n : v.look ≡ Ended → ⊥ = not_ended v (subst (λ (z : Option View). is_over z ≡ false) a live) in
    let none : es ≡ [] = ap (drop 1) (told ∙ one_told v (subst HasTold a h) n) in
    ap (λ (z : Option View). left z true (sent.Destroy ∷ more)) a
    ∙ destroyed_told v (e ∷ es) (subst IsLedOn a led) (subst HasTold a h) n told more
    ∙ ap (λ (fs : List Event). line_of argument e ∷ (map (line_of argument) fs ++ left None true more)) none
    ∙ ap (λ (z : Option View). line_of argument e ∷ left z true more) (sym b)

-- ---- the first line

pub create_told : (o : Option View) (ss : List Sent) → left o false ss ≡ line_of argument event.Create ∷ left o true ss
create_told None ss = refl
create_told (Some v) ss = refl

-- a session that was just made
pub begun_printed : (s : Script) (v : View) (ss : List Sent) → v.program ≡ s.program → v.settings ≡ s.settings → KeepsSandbox s.program → IsRecord [] v → ss ≡ s.lines → IsLed v × (left (Some v) false ss ≡ script_lines s)
begun_printed s v ss c e keeps r lines =
    let b : IsLed v × (comes v ≡ at Free []) = begins_led v (subst (λ (l : Loaded). KeepsSandbox l) (sym c) keeps) r in (
      b.0,
      ap (λ (y : Reading). lines_left (spec_seen v) (event.Create ∷ y.emitted) ss y.place) b.1
          ∙ ap (λ (z : Spec). lines_left z (event.Create ∷ []) ss Free) (same_spec v.program s.program v.settings s.settings c e)
          ∙ ap (λ (ts : List Sent). lines_left (spec_of s.program s.settings) (event.Create ∷ []) ts Free) lines
          ∙ lines_left-script s,
    )
