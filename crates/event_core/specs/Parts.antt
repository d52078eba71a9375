-- The events of a query, read from its stops for the requests after the ask (Lager and Wielemaker, TPLP 2014).
use Rattle.std.specs.Prelude.{ℕ, Bool, true, false, ◌||◌, ◌==◌, List, [], ◌∷◌, ◌++◌, length, nat_le, sum_by, Option, Some, None}
use Rattle.std.specs.List.{filter_map}
use Rattle.term_core.specs.Tree.{Tree}
use Rattle.solve_model.specs.Run.{World}
use Rattle.event_core.specs.declared.stop.Stop.{Stop}
use Rattle.event_core.specs.declared.stop.Stop.TheVariants as stop
use Rattle.event_core.specs.declared.event.Event.{Event}
use Rattle.event_core.specs.declared.event.Event.TheVariants.{Success, Failure, Error, Output, Prompt, Limit}
use Rattle.event_core.specs.declared.request.Request.{Request}
use Rattle.event_core.specs.declared.request.Request.TheVariants.{Next, Respond}
use Rattle.event_core.specs.declared.rest.Rest.{Rest}
use Rattle.event_core.specs.declared.rest.Rest.TheVariants.{More, Prompting, Over}
use Rattle.event_core.specs.declared.limits.TheConstants.{CHUNK_BYTES}
use Rattle.event_core.specs.Stops.{stops}

-- how answers are told: the bytes of a term's text, and the names that a success tells
pub record Style : Type 0 where
  pub size : Tree → ℕ
  pub names : Option (List (List ℕ))

-- the events of a query, each with the steps made before it, and where it rests; `unread` are the requests that were not read
pub record Part : Type 0 where
  pub events : List (ℕ × Event)
  pub rest : Rest
  pub unread : List Request

-- no event
abbrev pub rests : Rest → List Request → Part
rests r rs = record { events = []; rest = r; unread = rs }

-- one event, then the rest
abbrev pub gives : ℕ → Event → Part → Part
gives k e p = record p { events = (k, e) ∷ p.events }

-- goes on at a `next`, whose chunk holds from then on
abbrev pub at_next : List Request → ℕ → (ℕ → List Request → Part) → Part
at_next (Next None ∷ rs) c go = go c rs
at_next (Next (Some d) ∷ rs) c go = go d rs
at_next rs c go = rests More rs

-- goes on at a `respond`
abbrev pub at_respond : List Request → (List Request → Part) → Part
at_respond (Respond t ∷ rs) go = go rs
at_respond rs go = rests Prompting rs

-- A late stop closes an open chunk, and comes itself at the next `next`. So answers don't depend on the chunk.
abbrev pub after_chunk : (names : Option (List (List ℕ))) → (held : List Tree) → ℕ → ℕ → List Request → (ℕ → List Request → Part) → Part
after_chunk ns [] k c rs go = go c rs
after_chunk ns (t ∷ ts) k c rs go = gives k (Success (t ∷ ts) ns true) (at_next rs c go)

-- whether a chunk is full: it has c answers, or many bytes of text, where `size` counts those of a term
abbrev pub is_full : (size : Tree → ℕ) → ℕ → List Tree → Bool
is_full size c ts = length ts == c || nat_le CHUNK_BYTES (sum_by size ts)

-- The events of one stop and of those behind it, which `go` reads; c is the chunk, and `held` has the answers of the open chunk.
unfoldable pub part_step : Style → (go : ℕ → List Tree → List Request → Part) → ℕ → Stop → ℕ → (held : List Tree) → List Request → Part
part_step style go k (stop.Found t false) c held rs = gives k (Success (held ++ t ∷ []) style.names false) (rests Over rs)
part_step style go k (stop.Found t true) c held rs =
    let ts : List Tree = held ++ t ∷ [] in
    elim (is_full style.size c ts) [
      | true ↦ gives k (Success ts style.names true) (at_next rs c (λ d qs. go d [] qs))
      | false ↦ go c ts rs
    ]
part_step style go k (stop.Output t) c held rs = gives k (Output t) (go c held rs)
part_step style go k (stop.Prompt t) c held rs = after_chunk style.names held k c rs (λ d qs. gives k (Prompt t) (at_respond qs (λ xs. go d [] xs)))
part_step style go k stop.NoMore c [] rs = gives k Failure (rests Over rs)
part_step style go k stop.NoMore c (t ∷ ts) rs = gives k (Success (t ∷ ts) style.names false) (rests Over rs)
part_step style go k (stop.Ball b) c held rs = after_chunk style.names held k c rs (λ d qs. gives k (Error b) (rests Over qs))
part_step style go k stop.Limit c held rs = after_chunk style.names held k c rs (λ d qs. gives k Limit (rests Over qs))
part_step style go k (stop.Outside i) c held rs = rests Over rs

-- The part of a list of stops. Only a run that waits for a reply leaves the list without an end.
unfoldable pub part_of : Style → List (ℕ × Stop) → ℕ → (held : List Tree) → List Request → Part
part_of style [] c held rs = rests Prompting rs
part_of style (p ∷ ps) c held rs = part_step style (part_of style ps) p.0 p.1 c held rs

-- the reply that a request brings
abbrev pub reply : Request → Option Tree
reply (Respond t) = Some t
reply r = None

abbrev pub replies : List Request → List Tree
replies rs = filter_map reply rs

-- the part of a query with chunk c, for the fitting requests after the ask, whose replies are those of its world
unfoldable pub part : World → (fits : Tree → Bool) → Style → (goal template : Tree) → ℕ → List Request → Part
part w fits style g t c rs = part_of style (stops fits (record w { replies = replies rs }) g t) c [] rs
