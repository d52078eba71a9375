-- The full list of events that resolution defines for what was sent to a pengine and what struck it (Lager and Wielemaker, TPLP 2014, section 3).
use Rattle.std.specs.Prelude.{ℕ, ◌-◌, Bool, true, false, List, [], ◌∷◌, ◌++◌, map, length, nat_le, if◌then◌else◌, Option, Some, None, take, drop}
use Rattle.term_core.specs.Tree.{Tree}
use Rattle.event_core.specs.declared.event.Event.{Event}
use Rattle.event_core.specs.declared.event.Event.TheVariants as event
use Rattle.event_core.specs.declared.request.Ask.{Ask}
use Rattle.event_core.specs.declared.request.Request.{Request}
use Rattle.event_core.specs.declared.request.Request.TheVariants as request
use Rattle.event_core.specs.declared.rest.Rest.{Rest}
use Rattle.event_core.specs.declared.rest.Rest.TheVariants.{More, Prompting, Over}
use Rattle.event_core.specs.declared.fit.Fit.{Fit}
use Rattle.event_core.specs.declared.fit.Fit.TheVariants.{GoesOn, Stops, Misfit}
use Rattle.event_core.specs.Requests.{kind_of, fit}
use Rattle.event_core.specs.Parts.{Part}

-- what a pengine is, as far as its events go
pub record Spec : Type 0 where
  -- whether it is destroyed at the end of a query
  pub destroys : Bool
  -- the error of a goal that the sandbox refuses
  pub refusal : Ask → Option Tree
  -- the events of a query for the fitting requests after it, and where they rest
  pub part : Ask → List Request → Part

-- a query, and the fitting requests after it
pub record Query : Type 0 where
  pub asked : Ask
  pub requests : List Request

abbrev pub part_of : Spec → Query → Part
part_of spec q = spec.part q.asked q.requests

abbrev pub events_of : Spec → Query → List (ℕ × Event)
events_of spec q = (part_of spec q).events

-- the query's events after the first g, up to the e-th
abbrev pub span : Spec → Query → (g e : ℕ) → List Event
span spec q g e = map (λ x. x.1) (drop g (take e (events_of spec q)))

-- outside of a query, in a query that has given so many of its events, or past the end
pub data Place : Type 0 where
  Free : Place
  In : Query → ℕ → Place
  Closed : Place

-- where the list stands, and the events so far
pub record Reading : Type 0 where
  pub place : Place
  pub emitted : List Event

abbrev pub at : Place → List Event → Reading
at p es = record { place = p; emitted = es }

-- a query ends, and where the pengine is to be destroyed so does the list
abbrev pub closes : Bool → List Event → Reading
closes true es = at Closed (es ++ event.Destroy ∷ [])
closes false es = at Free es

-- a query has given all its events
abbrev pub comes_to : Spec → Query → Rest → List Event → Reading
comes_to spec q More es = at (In q (length (events_of spec q))) es
comes_to spec q Prompting es = at (In q (length (events_of spec q))) es
comes_to spec q Over es = closes spec.destroys es

-- the query gives all its events, and rests or ends
abbrev pub gives_all_at : Spec → Place → List Event → Reading
gives_all_at spec Free es = at Free es
gives_all_at spec (In q g) es = comes_to spec q (part_of spec q).rest (es ++ span spec q g (length (events_of spec q)))
gives_all_at spec Closed es = at Closed es

abbrev pub gives_all : Spec → Reading → Reading
gives_all spec x = gives_all_at spec x.place x.emitted

-- the query gives its first e events alone, where it has more
abbrev pub gives_at : Spec → ℕ → Place → List Event → Reading
gives_at spec e Free es = at Free es
gives_at spec e (In q g) es =
    if nat_le (length (events_of spec q)) e then gives_all_at spec (In q g) es else at (In q e) (es ++ span spec q g e)
gives_at spec e Closed es = at Closed es

abbrev pub gives : Spec → ℕ → Reading → Reading
gives spec e x = gives_at spec e x.place x.emitted

abbrev pub fitted : Spec → Query → ℕ → Request → Fit → List Event → Reading
fitted spec q g r GoesOn es = at (In (record q { requests = q.requests ++ r ∷ [] }) g) es
fitted spec q g r Stops es = closes spec.destroys (es ++ event.Stop ∷ [])
fitted spec q g r Misfit es = at (In q g) (es ++ event.Protocol (kind_of r) ∷ [])

-- a query begins, unless the sandbox refuses its goal
abbrev pub asks : Spec → Ask → Option Tree → List Event → Reading
asks spec a None es = at (In (record { asked = a; requests = [] }) 0) es
asks spec a (Some t) es = closes spec.destroys (es ++ event.Error t ∷ [])

abbrev pub starts : Spec → Request → List Event → Reading
starts spec (request.Ask a) es = asks spec a (spec.refusal a) es
starts spec r es = at Free (es ++ event.Protocol (kind_of r) ∷ [])

-- one request is consumed at a place of rest
abbrev pub consumes_at : Spec → Request → Place → List Event → Reading
consumes_at spec r Free es = starts spec r es
consumes_at spec r (In q g) es = fitted spec q g r (fit (part_of spec q).rest r) es
consumes_at spec r Closed es = at Closed es

abbrev pub consumes : Spec → Request → Reading → Reading
consumes spec r x = consumes_at spec r x.place x.emitted

-- What one request does to a pengine that rests: where it rests then, and the events that it gives on the way.
abbrev pub step : Spec → Request → Place → Reading
step spec r p = gives_all spec (consumes spec r (at p []))

-- requests are consumed in order, each when the former is done
unfoldable pub reads : Spec → List Request → Reading → Reading
reads spec [] x = x
reads spec (r ∷ rs) x = reads spec rs (consumes spec r (gives_all spec x))

pub data Strike : Type 0 where
  ByAbort : Strike
  ByDestroy : Strike
  -- want of memory
  ByWant : Strike

-- a request that was accepted; or a strike, with the number of requests consumed before it, and the steps and events that the latest query had given
pub data Act : Type 0 where
  Sends : Request → Act
  Struck : Strike → (consumed steps events : ℕ) → Act

abbrev pub strikes_at : Spec → Strike → Place → List Event → Reading
strikes_at spec k Closed es = at Closed es
strikes_at spec ByDestroy p es = closes true es
strikes_at spec k Free es = at Free es
strikes_at spec ByAbort (In q g) es = closes spec.destroys (es ++ event.Abort ∷ [])
strikes_at spec ByWant (In q g) es = closes spec.destroys (es ++ event.Memory ∷ [])

abbrev pub strikes : Spec → Strike → Reading → Reading
strikes spec k x = strikes_at spec k x.place x.emitted

-- an abort drops the requests that stand before it and aren't consumed
abbrev pub left : Strike → List Request → List Request
left ByAbort rs = []
left k rs = rs

-- The list from a reading on that has consumed c requests; rs are those that stand before and aren't consumed.
unfoldable pub full_from : Spec → List Act → (rs : List Request) → (c : ℕ) → Reading → List Event
full_from spec [] rs c x = (gives_all spec (reads spec rs x)).emitted
full_from spec (Sends r ∷ more) rs c x = full_from spec more (rs ++ r ∷ []) c x
full_from spec (Struck k n s e ∷ more) rs c x =
    full_from spec more (left k (drop (n - c) rs)) n (strikes spec k (gives spec e (reads spec (take (n - c) rs) x)))

-- a pengine that was made
abbrev pub made : Reading
made = at Free (event.Create ∷ [])

abbrev pub full : Spec → List Act → List Event
full spec acts = full_from spec acts [] 0 made
