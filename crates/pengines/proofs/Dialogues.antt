-- A session that is led on, turn by turn.
use Rattle.std.proofs.Common.{◌≡◌, ℕ, ◌+◌, ◌-◌, ◌<◌, ◌^◌, Bool, true, false, List, [], ◌∷◌, if◌then◌else◌, Option, Some, None, refl, ap, sym, subst, ◌∙◌, arith}
use Rattle.event_core.specs.declared.event.Event.{Event}
use Rattle.event_core.specs.Full.{Reading, at}
use Rattle.event_core.specs.Standing.{spec_of}
use Rattle.program.specs.Loaded.{Loaded}
use Rattle.session.specs.declared.answers.Given.{Given}
use Rattle.session.specs.declared.answers.Pulled.{Pulled as Answer}
use Rattle.session.specs.declared.answers.Pulled.TheVariants as pulled
use Rattle.session.specs.After.{Pulled}
use Rattle.session.specs.declared.took.Took.TheVariants as took
use Rattle.session.specs.Answers.{is_ended, pulls, pulls_at, takes, gives, is_kept}
use Rattle.session.specs.Recorded.{Lengthens, Takes, GivesBack}
use Rattle.session.specs.Resting.{IsLed, Rests, Leads, Hears, RunsOn, comes}
use Rattle.session.specs.TurnsKept.{IsGone, IsGoneAt}
use Rattle.session.specs.Views.{View, Gone, TurnView, taken, spec_seen}
use Rattle.session.proofs.Resting.{hears, kept_at_once, runs_on}

-- a turn was taken, went and came back
pub turn_ran : (v x w : View) (t u : TurnView) (g : Gone) (b : Given) → IsLed v → takes v ≡ took.Turn t → x ≡ taken v → Takes v t x → u ≡ record t { gone = Some g } → IsGoneAt u u.gone → g.starved ≡ false → b ≡ gives x u.number → GivesBack x u g (is_kept b) w → RunsOn v w
turn_ran v x w t u g b led e same tk gone bounds ample answer back =
    let kept : is_kept b ≡ true = ap is_kept (answer ∙ ap (λ (y : View). gives y u.number) same ∙ ap (λ (y : TurnView). gives (taken v) y.number) gone ∙ kept_at_once v t e) in
    runs_on v w t u g led e
    (subst (λ (y : View). Takes v t y) same tk)
    gone
    (subst (λ (o : Option Gone). IsGoneAt u o) (ap (λ (y : TurnView). y.gone) gone) bounds)
    ample
    (subst (λ (y : View). GivesBack y u g true w) same (subst (λ (c : Bool). GivesBack x u g c w) kept back))

-- what was led on is led on further
pub leads_on : (v w x : View) → Leads v w (comes v) → RunsOn w x → Leads v x (comes v)
leads_on v w x l r = record {
  led = r.leads.led;
  program = r.leads.program ∙ l.program;
  settings = r.leads.settings ∙ l.settings;
  comes_to = r.leads.comes_to ∙ l.comes_to;
}

pub leads_self : (v : View) → IsLed v → Leads v v (comes v)
leads_self v led = record { led = led; program = refl; settings = refl; comes_to = refl }

-- an event that is heard after turns is heard
pub hears_after : (v w x : View) (e : Event) → Leads v w (comes v) → Hears w e x → Hears v e x
hears_after v w x e l h = record {
  led = h.led;
  program = h.program ∙ l.program;
  settings = h.settings ∙ l.settings;
  heard = sym l.comes_to ∙ h.heard;
}

-- each turn comes nearer to the end of the steps and events that can be counted
pub nearer : (v w : View) → RunsOn v w → 2 ^ 65 - (w.steps + w.events) < 2 ^ 65 - (v.steps + v.events)
nearer v w r = omega (arith, r.further, r.steps, r.events)

-- ---- what a pull answers

event_same : (m n : ℕ) (x e : Event) → pulled.Event m x ≡ pulled.Event n e → x ≡ e
event_same m n x e h = subst (λ (a : Answer). of a) h refl
  where
    of : Answer → Type 0
    of (pulled.Event k y) = x ≡ y
    of a = Unit {0}

no_event : (b : Bool) (n : ℕ) (e : Event) → (if b then pulled.Ended else pulled.Pending) ≡ pulled.Event n e → ⊥
no_event true n e h = cc
no_event false n e h = cc

pulled_first : (v : View) (n : ℕ) (e : Event) (es : List Event) → v.queue ≡ es → pulls_at v es ≡ pulled.Event n e → (fs : List Event) × (v.queue ≡ e ∷ fs)
pulled_first v n e [] q h = absurd (no_event (is_ended v.look) n e h)
pulled_first v n e (x ∷ xs) q h = (xs, q ∙ ap (λ (y : Event). y ∷ xs) (event_same v.pulled n x e h))

not_empty : (v : View) (e : Event) (es : List Event) → v.queue ≡ e ∷ es → v.queue ≡ [] → ⊥
not_empty v e es a b = let w : e ∷ es ≡ [] = sym a ∙ b in cc

-- an event that is pulled after turns is heard
pub pulled_heard : (v w x : View) (n : ℕ) (e : Event) → Leads v w (comes v) → pulls w ≡ pulled.Event n e → ((w.queue ≡ [] → ⊥) → Lengthens (Pulled 1 ∷ []) w x) → Hears v e x
pulled_heard v w x n e l h more =
    let f : (es : List Event) × (w.queue ≡ e ∷ es) = pulled_first w n e w.queue refl h in
    hears_after v w x e l (hears w x e f.0 l.led f.1 (more (not_empty w e f.0 f.1)))

queue_empty : (v : View) (es : List Event) → v.queue ≡ es → ((n : ℕ) (e : Event) → pulls_at v es ≡ pulled.Event n e → ⊥) → v.queue ≡ []
queue_empty v [] q h = q
queue_empty v (x ∷ xs) q h = absurd (h v.pulled x refl)

-- where no event is pulled none waits
pub none_waits : (v : View) → ((n : ℕ) (e : Event) → pulls v ≡ pulled.Event n e → ⊥) → v.queue ≡ []
none_waits v h = queue_empty v v.queue refl h

-- where no turn runs it rests
pub led_to_rest : (v w p x : View) → Leads v w (comes v) → p ≡ w → x ≡ p → Rests p → Leads v x (comes v) × Rests x
led_to_rest v w p x l a b r = (subst (λ (y : View). Leads v y (comes v)) (sym (b ∙ a)) l, subst (λ (y : View). Rests y) (sym b) r)
