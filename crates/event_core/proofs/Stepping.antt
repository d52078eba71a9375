-- What a request brings doesn't depend on what was emitted before.
use Rattle.std.proofs.Common.{◌≡◌, ℕ, Bool, true, false, List, [], ◌∷◌, ◌++◌, length, Option, Some, None, refl, ap, sym, ◌∙◌, append_assoc, append-nil}
use Rattle.term_core.specs.Tree.{Tree}
use Rattle.event_core.specs.declared.event.Event.{Event}
use Rattle.event_core.specs.declared.event.Event.TheVariants as event
use Rattle.event_core.specs.declared.request.Request.{Request}
use Rattle.event_core.specs.declared.request.Request.TheVariants as request
use Rattle.event_core.specs.declared.fit.Fit.{Fit}
use Rattle.event_core.specs.declared.fit.Fit.TheVariants.{GoesOn, Stops, Misfit}
use Rattle.event_core.specs.declared.rest.Rest.{Rest}
use Rattle.event_core.specs.declared.rest.Rest.TheVariants.{More, Prompting, Over}
use Rattle.event_core.specs.Requests.{fit}
use Rattle.event_core.specs.Full.{Spec, Query, part_of, events_of, span, Place, Free, In, Closed, Reading, at, closes, comes_to, gives_all_at, gives_all, fitted, asks, consumes_at, consumes, step, reads}
use Rattle.event_core.proofs.Resting.{rests}

-- these events first
abbrev pub front : List Event → Reading → Reading
front es x = at x.place (es ++ x.emitted)

module _ (spec : Spec) where
  -- what was emitted stays in front

  pub closes_front : (b : Bool) (es fs : List Event) → closes b (es ++ fs) ≡ front es (closes b fs)
  closes_front true es fs = ap (λ l. at Closed l) (append_assoc es fs (event.Destroy ∷ []))
  closes_front false es fs = refl

  comes_to_front : (q : Query) (r : Rest) (es fs : List Event) → comes_to spec q r (es ++ fs) ≡ front es (comes_to spec q r fs)
  comes_to_front q More es fs = refl
  comes_to_front q Prompting es fs = refl
  comes_to_front q Over es fs = closes_front spec.destroys es fs

  pub gives_all_front : (p : Place) (es fs : List Event) → gives_all_at spec p (es ++ fs) ≡ front es (gives_all_at spec p fs)
  gives_all_front Free es fs = refl
  gives_all_front (In q g) es fs =
      ap (λ l. comes_to spec q (part_of spec q).rest l) (append_assoc es fs (span spec q g (length (events_of spec q))))
      ∙ comes_to_front q (part_of spec q).rest es (fs ++ span spec q g (length (events_of spec q)))
  gives_all_front Closed es fs = refl

  fitted_front : (q : Query) (g : ℕ) (r : Request) (f : Fit) (es : List Event) → fitted spec q g r f es ≡ front es (fitted spec q g r f [])
  fitted_front q g r GoesOn es = ap (λ l. at (In (record q { requests = q.requests ++ r ∷ [] }) g) l) (sym (append-nil es))
  fitted_front q g r Stops es = closes_front spec.destroys es (event.Stop ∷ [])
  fitted_front q g r Misfit es = refl

  asks_front : (a : _) (v : Option Tree) (es : List Event) → asks spec a v es ≡ front es (asks spec a v [])
  asks_front a None es = ap (λ l. at (In (record { asked = a; requests = [] }) 0) l) (sym (append-nil es))
  asks_front a (Some t) es = closes_front spec.destroys es (event.Error t ∷ [])

  pub consumes_front : (r : Request) (p : Place) (es : List Event) → consumes_at spec r p es ≡ front es (consumes_at spec r p [])
  consumes_front (request.Ask a) Free es = asks_front a (spec.refusal a) es
  consumes_front (request.Next c) Free es = refl
  consumes_front request.Stop Free es = refl
  consumes_front (request.Respond t) Free es = refl
  consumes_front r (In q g) es = fitted_front q g r (fit (part_of spec q).rest r) es
  consumes_front r Closed es = ap (λ l. at Closed l) (sym (append-nil es))

  -- it is the same to give all events before further requests are read
  pub given_first : (rs : List Request) (x : Reading) → gives_all spec (reads spec rs x) ≡ gives_all spec (reads spec rs (gives_all spec x))
  unfolding reads
  given_first [] x = sym (rests spec x.place x.emitted)
  given_first (r ∷ rs) x = ap (λ y. gives_all spec (reads spec rs (consumes spec r y))) (sym (rests spec x.place x.emitted))

  pub step_front : (r : Request) (p : Place) (es : List Event) → gives_all spec (consumes_at spec r p es) ≡ front es (step spec r p)
  step_front r p es =
      ap (gives_all spec) (consumes_front r p es)
      ∙ gives_all_front (consumes_at spec r p []).place es (consumes_at spec r p []).emitted
