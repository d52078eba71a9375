-- What holds of the terms of all stops holds of the terms of all events. So these are numbered.
use Rattle.std.proofs.Common.{◌≡◌, ℕ, zero, suc, ◌-◌, Bool, true, false, List, [], ◌∷◌, ◌++◌, map, length, take, drop, nat_le, if◌then◌else◌, Option, Some, None, refl}
use Rattle.std.specs.Option.{option_map}
use Rattle.term_core.specs.Tree.{Tree}
use Rattle.term_core.specs.Variables.{numbered}
use Rattle.program.specs.Loaded.{Loaded}
use Rattle.sandbox_walk.specs.declared.unsafe_goal.Unsafe.{Unsafe}
use Rattle.sandbox_walk.specs.Computed.{verdict_over}
use Rattle.sandbox_walk.specs.Formal.{formal_of}
use Rattle.builtin_table.specs.Errors.{error_term, no_context}
use Rattle.solve_model.specs.declared.answers.TraceMark.{TraceMark}
use Rattle.solve_model.specs.declared.answers.TraceMark.TheVariants as shown
use Rattle.solve_model.specs.declared.answers.TraceEnd.{TraceEnd}
use Rattle.solve_model.specs.declared.answers.TraceEnd.TheVariants as closed
use Rattle.solve_model.specs.Run.{World, query}
use Rattle.solve_model.specs.Trace.{traced, world_of}
use Rattle.event_core.specs.declared.stop.Stop.{Stop}
use Rattle.event_core.specs.declared.stop.Stop.TheVariants as stop
use Rattle.event_core.specs.declared.event.Event.{Event}
use Rattle.event_core.specs.declared.event.Event.TheVariants as event
use Rattle.event_core.specs.declared.event.Event.TheVariants.{Success, Error, Prompt, Limit}
use Rattle.event_core.specs.declared.request.Ask as asked
use Rattle.event_core.specs.declared.request.Request.{Request}
use Rattle.event_core.specs.declared.request.Request.TheVariants as request
use Rattle.event_core.specs.declared.request.Request.TheVariants.{Ask, Next, Respond}
use Rattle.event_core.specs.declared.fit.Fit.{Fit}
use Rattle.event_core.specs.declared.fit.Fit.TheVariants.{GoesOn, Stops, Misfit}
use Rattle.event_core.specs.declared.rest.Rest.{Rest}
use Rattle.event_core.specs.declared.rest.Rest.TheVariants.{More, Prompting, Over}
use Rattle.event_core.specs.declared.settings.Settings.{Settings}
use Rattle.event_core.specs.Texts.{quoted}
use Rattle.event_core.specs.Fits.{fits}
use Rattle.event_core.specs.Names.{answer_term}
use Rattle.event_core.specs.Stops.{term_of, mark_stop, is_followed, end_stop, at_end, stops_of, cut_at, stop_fits, resource_error, stops}
use Rattle.event_core.specs.Parts.{Part, Style, rests, gives, at_next, at_respond, after_chunk, is_full, part_step, part_of, part, replies}
use Rattle.event_core.specs.Refusals.{refused, refusal_of}
use Rattle.event_core.specs.Requests.{kind_of, fit}
use Rattle.event_core.specs.Full as full
use Rattle.event_core.specs.Full.{Spec, Query, events_of, span, Place, Free, In, Closed, Reading, at, closes, comes_to, gives_all_at, gives_all, gives_at, fitted, asks, starts, consumes_at, consumes, reads, Strike, ByAbort, ByDestroy, ByWant, Act, Sends, Struck, strikes_at, strikes, left, full_from, made}
use Rattle.event_core.specs.Standing.{style_of, chunk_of, spec_of}
use Rattle.event_core.specs.Terms.{AllTerms, HoldsOf, AllEvents, IsNumbered, TermsAreNumbered}
use Rattle.event_core.proofs.Numbered.{numbered_twice}

module _ (P : Tree → Type 0) where
  abbrev StopHolds : Option Tree → Type 0
  StopHolds None = Unit {0}
  StopHolds (Some t) = P t

  unfoldable AllStops : List (ℕ × Stop) → Type 0
  AllStops [] = Unit {0}
  AllStops (p ∷ ps) = StopHolds (term_of p.1) × AllStops ps

  abbrev Told : List (ℕ × Event) → Type 0
  Told es = AllEvents P (map (λ x. x.1) es)

  terms_append : (ts us : List Tree) → AllTerms P ts → AllTerms P us → AllTerms P (ts ++ us)
  unfolding AllTerms
  terms_append [] us h k = k
  terms_append (t ∷ ts) us h k = (h.0, terms_append ts us h.1 k)

  events_append : (xs ys : List Event) → AllEvents P xs → AllEvents P ys → AllEvents P (xs ++ ys)
  unfolding AllEvents
  events_append [] ys h k = k
  events_append (x ∷ xs) ys h k = (h.0, events_append xs ys h.1 k)

  told_drop : (n : ℕ) (es : List (ℕ × Event)) → Told es → Told (drop n es)
  unfolding AllEvents
  told_drop zero [] h = h
  told_drop zero (e ∷ es) h = h
  told_drop (suc n) [] h = h
  told_drop (suc n) (e ∷ es) h = told_drop n es h.1

  told_take : (n : ℕ) (es : List (ℕ × Event)) → Told es → Told (take n es)
  unfolding AllEvents
  told_take zero [] h = tt
  told_take zero (e ∷ es) h = tt
  told_take (suc n) [] h = h
  told_take (suc n) (e ∷ es) h = (h.0, told_take n es h.1)

  -- ---- a part

  next_told : (rs : List Request) (c : ℕ) (go : ℕ → List Request → Part) → ((d : ℕ) (qs : List Request) → Told (go d qs).events) → Told (at_next rs c go).events
  unfolding AllEvents
  next_told [] c go h = tt
  next_told (Next None ∷ rs) c go h = h c rs
  next_told (Next (Some d) ∷ rs) c go h = h d rs
  next_told (Respond t ∷ rs) c go h = tt
  next_told (Ask a ∷ rs) c go h = tt
  next_told (request.Stop ∷ rs) c go h = tt

  respond_told : (rs : List Request) (go : List Request → Part) → ((qs : List Request) → Told (go qs).events) → Told (at_respond rs go).events
  unfolding AllEvents
  respond_told [] go h = tt
  respond_told (Next c ∷ rs) go h = tt
  respond_told (Respond t ∷ rs) go h = h rs
  respond_told (Ask a ∷ rs) go h = tt
  respond_told (request.Stop ∷ rs) go h = tt

  chunk_told : (ns : Option (List (List ℕ))) (held : List Tree) → AllTerms P held → (k c : ℕ) (rs : List Request) (go : ℕ → List Request → Part) → ((d : ℕ) (qs : List Request) → Told (go d qs).events) → Told (after_chunk ns held k c rs go).events
  unfolding AllEvents
  chunk_told ns [] w k c rs go h = h c rs
  chunk_told ns (t ∷ ts) w k c rs go h = (w, next_told rs c go h)

  module _ (style : Style) where
    step_told : (go : ℕ → List Tree → List Request → Part) → ((c : ℕ) (held : List Tree) → AllTerms P held → (rs : List Request) → Told (go c held rs).events) →
        (k : ℕ) (s : Stop) → StopHolds (term_of s) → (c : ℕ) (held : List Tree) → AllTerms P held → (rs : List Request) → Told (part_step style go k s c held rs).events
    unfolding part_step AllEvents AllTerms
    step_told go ih k (stop.Found t false) p c held w rs = (terms_append held (t ∷ []) w (p, tt), tt)
    step_told go ih k (stop.Found t true) p c held w rs = by_fill (is_full style.size c (held ++ t ∷ []))
      where
        by_fill : (b : Bool) → Told (elim b as (λ y. Part) [ true ↦ gives k (Success (held ++ t ∷ []) style.names true) (at_next rs c (λ d qs. go d [] qs)) | false ↦ go c (held ++ t ∷ []) rs ]).events
        by_fill true = (terms_append held (t ∷ []) w (p, tt), next_told rs c (λ d qs. go d [] qs) (λ d qs. ih d [] tt qs))
        by_fill false = ih c (held ++ t ∷ []) (terms_append held (t ∷ []) w (p, tt)) rs
    step_told go ih k (stop.Output t) p c held w rs = (p, ih c held w rs)
    step_told go ih k (stop.Prompt t) p c held w rs =
        chunk_told style.names held w k c rs (λ d qs. gives k (Prompt t) (at_respond qs (λ xs. go d [] xs))) (λ d qs. (p, respond_told qs (λ xs. go d [] xs) (λ xs. ih d [] tt xs)))
    step_told go ih k stop.NoMore p c [] w rs = (tt, tt)
    step_told go ih k stop.NoMore p c (t ∷ ts) w rs = (w, tt)
    step_told go ih k (stop.Ball b) p c held w rs = chunk_told style.names held w k c rs (λ d qs. gives k (Error b) (rests Over qs)) (λ d qs. (p, tt))
    step_told go ih k stop.Limit p c held w rs = chunk_told style.names held w k c rs (λ d qs. gives k Limit (rests Over qs)) (λ d qs. (tt, tt))
    step_told go ih k (stop.Outside i) p c held w rs = tt

    part_told : (ps : List (ℕ × Stop)) → AllStops ps → (c : ℕ) (held : List Tree) → AllTerms P held → (rs : List Request) → Told (part_of style ps c held rs).events
    unfolding part_of AllStops AllEvents
    part_told [] h c held w rs = tt
    part_told (p ∷ ps) h c held w rs = step_told (part_of style ps) (part_told ps h.1) p.0 p.1 h.0 c held w rs

  -- ---- the full list

  module _ (spec : Spec) (parts : (a : asked.Ask) (rs : List Request) → Told (spec.part a rs).events) (refusals : (a : asked.Ask) → StopHolds (spec.refusal a)) where
    spans : (q : Query) (g e : ℕ) → AllEvents P (span spec q g e)
    spans q g e = told_drop g (take e (events_of spec q)) (told_take e (events_of spec q) (parts q.asked q.requests))

    -- one event more
    one_more : (es : List Event) (e : Event) → HoldsOf P e → AllEvents P es → AllEvents P (es ++ e ∷ [])
    unfolding AllEvents
    one_more es e w h = events_append es (e ∷ []) h (w, tt)

    closes_hold : (b : Bool) (es : List Event) → AllEvents P es → AllEvents P (closes b es).emitted
    closes_hold true es h = one_more es event.Destroy tt h
    closes_hold false es h = h

    comes_hold : (q : Query) (r : Rest) (es : List Event) → AllEvents P es → AllEvents P (comes_to spec q r es).emitted
    comes_hold q More es h = h
    comes_hold q Prompting es h = h
    comes_hold q Over es h = closes_hold spec.destroys es h

    all_hold : (p : Place) (es : List Event) → AllEvents P es → AllEvents P (gives_all_at spec p es).emitted
    all_hold Free es h = h
    all_hold (In q g) es h = comes_hold q (full.part_of spec q).rest _ (events_append es (span spec q g (length (events_of spec q))) h (spans q g _))
    all_hold Closed es h = h

    some_hold : (e : ℕ) (p : Place) (es : List Event) → AllEvents P es → AllEvents P (gives_at spec e p es).emitted
    some_hold e Free es h = h
    some_hold e (In q g) es h = by_all (nat_le (length (events_of spec q)) e)
      where
        by_all : (b : Bool) → AllEvents P (if b then gives_all_at spec (In q g) es else at (In q e) (es ++ span spec q g e)).emitted
        by_all true = all_hold (In q g) es h
        by_all false = events_append es (span spec q g e) h (spans q g e)
    some_hold e Closed es h = h

    fitted_hold : (q : Query) (g : ℕ) (r : Request) (f : Fit) (es : List Event) → AllEvents P es → AllEvents P (fitted spec q g r f es).emitted
    fitted_hold q g r GoesOn es h = h
    fitted_hold q g r Stops es h = closes_hold spec.destroys _ (one_more es event.Stop tt h)
    fitted_hold q g r Misfit es h = one_more es (event.Protocol (kind_of r)) tt h

    asks_hold : (a : asked.Ask) (v : Option Tree) → StopHolds v → (es : List Event) → AllEvents P es → AllEvents P (asks spec a v es).emitted
    asks_hold a None w es h = h
    asks_hold a (Some t) w es h = closes_hold spec.destroys _ (one_more es (event.Error t) w h)

    starts_hold : (r : Request) (es : List Event) → AllEvents P es → AllEvents P (starts spec r es).emitted
    starts_hold (Ask a) es h = asks_hold a (spec.refusal a) (refusals a) es h
    starts_hold (Next c) es h = one_more es (event.Protocol (kind_of (Next c))) tt h
    starts_hold request.Stop es h = one_more es (event.Protocol (kind_of request.Stop)) tt h
    starts_hold (Respond t) es h = one_more es (event.Protocol (kind_of (Respond t))) tt h

    consumes_hold : (r : Request) (p : Place) (es : List Event) → AllEvents P es → AllEvents P (consumes_at spec r p es).emitted
    consumes_hold r Free es h = starts_hold r es h
    consumes_hold r (In q g) es h = fitted_hold q g r (fit (full.part_of spec q).rest r) es h
    consumes_hold r Closed es h = h

    reads_hold : (rs : List Request) (x : Reading) → AllEvents P x.emitted → AllEvents P (reads spec rs x).emitted
    unfolding reads
    reads_hold [] x h = h
    reads_hold (r ∷ rs) x h =
        let y : Reading = gives_all spec x in
        reads_hold rs (consumes spec r y) (consumes_hold r y.place y.emitted (all_hold x.place x.emitted h))

    strikes_hold : (k : Strike) (p : Place) (es : List Event) → AllEvents P es → AllEvents P (strikes_at spec k p es).emitted
    strikes_hold ByAbort Free es h = h
    strikes_hold ByAbort (In q g) es h = closes_hold spec.destroys _ (one_more es event.Abort tt h)
    strikes_hold ByAbort Closed es h = h
    strikes_hold ByDestroy Free es h = closes_hold true es h
    strikes_hold ByDestroy (In q g) es h = closes_hold true es h
    strikes_hold ByDestroy Closed es h = h
    strikes_hold ByWant Free es h = h
    strikes_hold ByWant (In q g) es h = closes_hold spec.destroys _ (one_more es event.Memory tt h)
    strikes_hold ByWant Closed es h = h

    full_hold : (xs : List Act) (rs : List Request) (c : ℕ) (x : Reading) → AllEvents P x.emitted → AllEvents P (full_from spec xs rs c x)
    unfolding full_from
    full_hold [] rs c x h = let y : Reading = reads spec rs x in all_hold y.place y.emitted (reads_hold rs x h)
    full_hold (Sends r ∷ xs) rs c x h = full_hold xs (rs ++ r ∷ []) c x h
    full_hold (Struck k n s e ∷ xs) rs c x h =
        let y : Reading = reads spec (take (n - c) rs) x in
        let z : Reading = full.gives spec e y in
        full_hold xs (left k (drop (n - c) rs)) n (strikes spec k z) (strikes_hold k z.place z.emitted (some_hold e y.place y.emitted (reads_hold (take (n - c) rs) x h)))

    made_hold : (xs : List Act) → AllEvents P (full.full spec xs)
    unfolding AllEvents
    made_hold xs = full_hold xs [] 0 made (tt, tt)

-- ---- the terms of stops are numbered

abbrev Numbered : List (ℕ × Stop) → Type 0
Numbered ps = AllStops IsNumbered ps

error_numbered : numbered resource_error ≡ resource_error
error_numbered = refl

mark_numbered : (m : TraceMark) → StopHolds IsNumbered (term_of (mark_stop m))
mark_numbered (shown.Answer t o) = numbered_twice t
mark_numbered (shown.Output t) = numbered_twice t
mark_numbered (shown.Prompt t) = numbered_twice t

end_numbered : (k : ℕ) (e : TraceEnd) → Numbered (at_end k (end_stop e))
unfolding AllStops
end_numbered k closed.Failed = (tt, tt)
end_numbered k (closed.Thrown b) = (numbered_twice b, tt)
end_numbered k closed.Waits = tt
end_numbered k closed.Spent = (tt, tt)
end_numbered k (closed.Outside i) = (tt, tt)

marks_numbered : (ms : List (ℕ × TraceMark)) (es : List (ℕ × Stop)) → Numbered es → Numbered (stops_of ms es)
unfolding AllStops stops_of
marks_numbered [] es h = h
marks_numbered (m ∷ ms) es h = (mark_numbered m.1, by (is_followed m.1) (marks_numbered ms es h))
  where
    by : (b : Bool) → Numbered (stops_of ms es) → Numbered (elim b as (λ x. List (ℕ × Stop)) [ true ↦ stops_of ms es | false ↦ [] ])
    by true k = k
    by false k = tt

cut_numbered : (f : Tree → Bool) (ps : List (ℕ × Stop)) → Numbered ps → Numbered (cut_at f ps)
unfolding AllStops cut_at
cut_numbered f [] h = tt
cut_numbered f (p ∷ ps) h = by (stop_fits f p.1) (cut_numbered f ps h.1)
  where
    by : (b : Bool) → Numbered (cut_at f ps) → Numbered (elim b as (λ x. List (ℕ × Stop)) [ true ↦ p ∷ cut_at f ps | false ↦ (p.0, stop.Ball resource_error) ∷ [] ])
    by true k = (h.0, k)
    by false k = (error_numbered, tt)

stops_numbered : (f : Tree → Bool) (w : World) (g t : Tree) → Numbered (stops f w g t)
stops_numbered f w g t = cut_numbered f _ (marks_numbered (traced t (query w g t)).marks _ (end_numbered (traced t (query w g t)).steps (traced t (query w g t)).end))

parts_numbered : (l : Loaded) (s : Settings) (a : asked.Ask) (rs : List Request) → Told IsNumbered ((spec_of l s).part a rs).events
unfolding part AllTerms
parts_numbered l s a rs = part_told IsNumbered (style_of s a) (stops (fits quoted) (world_of l (replies rs) s.limit) a.goal (answer_term s.names a)) (stops_numbered (fits quoted) (world_of l (replies rs) s.limit) a.goal (answer_term s.names a)) (chunk_of s a) [] tt rs

refused_numbered : (u : Unsafe) → IsNumbered (refused u)
refused_numbered u = by (fits quoted (numbered (error_term (formal_of u) no_context)))
  where
    by : (b : Bool) → IsNumbered (if b then numbered (error_term (formal_of u) no_context) else resource_error)
    by true = numbered_twice (error_term (formal_of u) no_context)
    by false = error_numbered

refusals_numbered : (l : Loaded) (a : asked.Ask) → StopHolds IsNumbered (refusal_of l a)
unfolding refusal_of
refusals_numbered l a = by (verdict_over l a.goal)
  where
    by : (v : Option Unsafe) → StopHolds IsNumbered (option_map refused v)
    by None = tt
    by (Some u) = refused_numbered u

pub terms_are_numbered : TermsAreNumbered
terms_are_numbered l s acts = made_hold IsNumbered (spec_of l s) (parts_numbered l s) (refusals_numbered l) acts
