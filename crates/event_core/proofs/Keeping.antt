-- What every stop keeps of the events of the stops behind it, the events of a part have.
use Rattle.std.proofs.Common.{ℕ, Bool, true, false, List, [], ◌∷◌, ◌++◌, Option, Some, None}
use Rattle.term_core.specs.Tree.{Tree}
use Rattle.event_core.specs.declared.stop.Stop.{Stop}
use Rattle.event_core.specs.declared.stop.Stop.TheVariants as stop
use Rattle.event_core.specs.declared.event.Event.{Event}
use Rattle.event_core.specs.declared.event.Event.TheVariants.{Success, Error, Prompt, Limit}
use Rattle.event_core.specs.declared.request.Request.{Request}
use Rattle.event_core.specs.declared.request.Request.TheVariants as request
use Rattle.event_core.specs.declared.rest.Rest.{Rest}
use Rattle.event_core.specs.declared.rest.Rest.TheVariants.{More, Prompting, Over}
use Rattle.event_core.specs.Parts.{Part, Style, rests, gives, at_next, at_respond, after_chunk, is_full, part_of, part_step}
use Rattle.event_core.proofs.Reaching.{Each}

abbrev Stops : Type 0
Stops = List (ℕ × Stop)

-- ---- what one stop keeps of what the stops behind it give

module _ (k : ℕ) (Q : Part → Type 0) (quiet : (r : Rest) (rs : List Request) → Q (rests r rs)) (one : (e : Event) (p : Part) → Q p → Q (gives k e p)) where
  next_keeps : (rs : List Request) (c : ℕ) (go : ℕ → List Request → Part) → ((d : ℕ) (qs : List Request) → Q (go d qs)) → Q (at_next rs c go)
  next_keeps [] c go h = quiet More []
  next_keeps (request.Next None ∷ rs) c go h = h c rs
  next_keeps (request.Next (Some d) ∷ rs) c go h = h d rs
  next_keeps (request.Respond t ∷ rs) c go h = quiet More _
  next_keeps (request.Ask a ∷ rs) c go h = quiet More _
  next_keeps (request.Stop ∷ rs) c go h = quiet More _

  respond_keeps : (rs : List Request) (go : List Request → Part) → ((qs : List Request) → Q (go qs)) → Q (at_respond rs go)
  respond_keeps [] go h = quiet Prompting []
  respond_keeps (request.Respond t ∷ rs) go h = h rs
  respond_keeps (request.Next c ∷ rs) go h = quiet Prompting _
  respond_keeps (request.Ask a ∷ rs) go h = quiet Prompting _
  respond_keeps (request.Stop ∷ rs) go h = quiet Prompting _

  chunk_keeps : (ns : Option (List (List ℕ))) (held : List Tree) (c : ℕ) (rs : List Request) (go : ℕ → List Request → Part) → ((d : ℕ) (qs : List Request) → Q (go d qs)) → Q (after_chunk ns held k c rs go)
  chunk_keeps ns [] c rs go h = h c rs
  chunk_keeps ns (t ∷ ts) c rs go h = one (Success (t ∷ ts) ns true) _ (next_keeps rs c go h)

  pub step_keeps : (style : Style) (go : ℕ → List Tree → List Request → Part) → ((c : ℕ) (held : List Tree) (rs : List Request) → Q (go c held rs)) →
      (s : Stop) (c : ℕ) (held : List Tree) (rs : List Request) → Q (part_step style go k s c held rs)
  unfolding part_step
  step_keeps style go ih (stop.Found t false) c held rs = one _ _ (quiet Over rs)
  step_keeps style go ih (stop.Found t true) c held rs = at (is_full style.size c (held ++ t ∷ []))
    where
      at : (b : Bool) → Q (elim b as (λ y. Part) [ true ↦ gives k (Success (held ++ t ∷ []) style.names true) (at_next rs c (λ d qs. go d [] qs)) | false ↦ go c (held ++ t ∷ []) rs ])
      at true = one _ _ (next_keeps rs c (λ d qs. go d [] qs) (λ d qs. ih d [] qs))
      at false = ih c (held ++ t ∷ []) rs
  step_keeps style go ih (stop.Output t) c held rs = one _ _ (ih c held rs)
  step_keeps style go ih (stop.Prompt t) c held rs = chunk_keeps style.names held c rs _ (λ d qs. one (Prompt t) _ (respond_keeps qs (λ xs. go d [] xs) (λ xs. ih d [] xs)))
  step_keeps style go ih stop.NoMore c [] rs = one _ _ (quiet Over rs)
  step_keeps style go ih stop.NoMore c (t ∷ ts) rs = one _ _ (quiet Over rs)
  step_keeps style go ih (stop.Ball b) c held rs = chunk_keeps style.names held c rs _ (λ d qs. one (Error b) _ (quiet Over qs))
  step_keeps style go ih stop.Limit c held rs = chunk_keeps style.names held c rs _ (λ d qs. one Limit _ (quiet Over qs))
  step_keeps style go ih (stop.Outside i) c held rs = quiet Over rs

-- ---- the steps of events are those of stops

module _ (P : ℕ → Type 0) where
  pub events_each : (style : Style) (ps : Stops) → Each P ps → (c : ℕ) (held : List Tree) (rs : List Request) → Each P (part_of style ps c held rs).events
  unfolding part_of
  events_each style [] h c held rs = tt
  events_each style (p ∷ ps) h c held rs =
      step_keeps p.0 (λ q. Each P q.events) (λ r qs. tt) (λ e q g. (h.0, g)) style (part_of style ps) (λ d hs qs. events_each style ps h.1 d hs qs) p.1 c held rs

  pub each_first : (xs ys : List (ℕ × Event)) → Each P (xs ++ ys) → Each P xs
  each_first [] ys h = tt
  each_first (x ∷ xs) ys h = (h.0, each_first xs ys h.1)
