-- Further requests and further stops lengthen the events of a query.
use Rattle.std.proofs.Common.{ℕ, Bool, true, false, List, [], ◌∷◌, ◌++◌, Option, Some, None, refl, ap, sym, ◌∙◌, append_assoc, append-nil}
use Rattle.term_core.specs.Tree.{Tree}
use Rattle.solve_model.specs.declared.answers.TraceMark.{TraceMark}
use Rattle.event_core.specs.declared.stop.Stop.{Stop}
use Rattle.event_core.specs.declared.stop.Stop.TheVariants.{Found, Output, Prompt, NoMore, Ball, Limit, Outside}
use Rattle.event_core.specs.declared.event.Event.TheVariants.{Success}
use Rattle.event_core.specs.declared.request.Request.{Request}
use Rattle.event_core.specs.declared.request.Request.TheVariants.{Ask, Next, Stop as Stops, Respond}
use Rattle.event_core.specs.Stops.{is_followed, stops_of, cut_at, stop_fits, resource_error}
use Rattle.event_core.specs.Parts.{Part, Style, gives, at_next, at_respond, after_chunk, is_full, part_of, part_step}
use Rattle.event_core.specs.Laws.{Begins, FurtherOnlyAdds}

module _ {A : Type 0} where
  pub begins_self : (xs : List A) → Begins xs xs
  begins_self xs = ([], sym (append-nil xs))

  pub begins_cons : (x : A) (xs ys : List A) → Begins xs ys → Begins (x ∷ xs) (x ∷ ys)
  begins_cons x xs ys h = (h.0, ap (λ l. x ∷ l) h.1)

  pub begins_none : (ys : List A) → Begins [] ys
  begins_none ys = (ys, refl)

  pub begins_trans : (xs ys zs : List A) → Begins xs ys → Begins ys zs → Begins xs zs
  begins_trans xs ys zs h k = (h.0 ++ k.0, k.1 ∙ ap (λ l. l ++ k.0) h.1 ∙ append_assoc xs h.0 k.0)

-- the stops of marks, before their end is known, begin those of longer marks
pub stops_begin : (ms more : List (ℕ × TraceMark)) (e : List (ℕ × Stop)) → Begins (stops_of ms []) (stops_of (ms ++ more) e)
unfolding stops_of
stops_begin [] more e = begins_none _
stops_begin (m ∷ ms) more e = begins_cons _ _ _ (go (is_followed m.1) (stops_begin ms more e))
  where
    go : (o : Bool) → Begins (stops_of ms []) (stops_of (ms ++ more) e) → Begins (elim o as (λ x. List (ℕ × Stop)) [ true ↦ stops_of ms [] | false ↦ [] ]) (elim o as (λ x. List (ℕ × Stop)) [ true ↦ stops_of (ms ++ more) e | false ↦ [] ])
    go true h = h
    go false h = begins_none _

-- the cut at the first stop that doesn't fit
pub cut_begins : (fits : Tree → Bool) (ps qs : List (ℕ × Stop)) → Begins (cut_at fits ps) (cut_at fits (ps ++ qs))
unfolding cut_at
cut_begins fits [] qs = begins_none _
cut_begins fits (p ∷ ps) qs = go (stop_fits fits p.1) (cut_begins fits ps qs)
  where
    go : (b : Bool) → Begins (cut_at fits ps) (cut_at fits (ps ++ qs)) →
        Begins (elim b as (λ x. List (ℕ × Stop)) [ true ↦ p ∷ cut_at fits ps | false ↦ (p.0, Ball resource_error) ∷ [] ]) (elim b as (λ x. List (ℕ × Stop)) [ true ↦ p ∷ cut_at fits (ps ++ qs) | false ↦ (p.0, Ball resource_error) ∷ [] ])
    go true h = begins_cons _ _ _ h
    go false h = begins_self _

abbrev Grows : Part → Part → Type 0
Grows a b = Begins a.events b.events

next_grows : (rs more : List Request) (c : ℕ) (go go' : ℕ → List Request → Part) → ((d : ℕ) (qs : List Request) → Grows (go d qs) (go' d (qs ++ more))) → Grows (at_next rs c go) (at_next (rs ++ more) c go')
next_grows [] more c go go' h = begins_none _
next_grows (Next None ∷ rs) more c go go' h = h c rs
next_grows (Next (Some d) ∷ rs) more c go go' h = h d rs
next_grows (Respond t ∷ rs) more c go go' h = begins_none _
next_grows (Ask a ∷ rs) more c go go' h = begins_none _
next_grows (Stops ∷ rs) more c go go' h = begins_none _

respond_grows : (rs more : List Request) (go go' : List Request → Part) → ((qs : List Request) → Grows (go qs) (go' (qs ++ more))) → Grows (at_respond rs go) (at_respond (rs ++ more) go')
respond_grows [] more go go' h = begins_none _
respond_grows (Respond t ∷ rs) more go go' h = h rs
respond_grows (Next c ∷ rs) more go go' h = begins_none _
respond_grows (Ask a ∷ rs) more go go' h = begins_none _
respond_grows (Stops ∷ rs) more go go' h = begins_none _

chunk_grows : (ns : Option (List (List ℕ))) (held : List Tree) (k c : ℕ) (rs more : List Request) (go go' : ℕ → List Request → Part) → ((d : ℕ) (qs : List Request) → Grows (go d qs) (go' d (qs ++ more))) → Grows (after_chunk ns held k c rs go) (after_chunk ns held k c (rs ++ more) go')
chunk_grows ns [] k c rs more go go' h = h c rs
chunk_grows ns (t ∷ ts) k c rs more go go' h = begins_cons _ _ _ (next_grows rs more c go go' h)

module _ (style : Style) (f f' : ℕ → List Tree → List Request → Part) (more : List Request) (ih : (c : ℕ) (held : List Tree) (rs : List Request) → Grows (f c held rs) (f' c held (rs ++ more))) where
  step_grows : (k : ℕ) (s : Stop) (c : ℕ) (held : List Tree) (rs : List Request) → Grows (part_step style f k s c held rs) (part_step style f' k s c held (rs ++ more))
  unfolding part_step
  step_grows k (Found t false) c held rs = begins_self _
  step_grows k (Found t true) c held rs = at (is_full style.size c (held ++ t ∷ []))
    where
      at : (b : Bool) → Grows
          (elim b as (λ y. Part) [ true ↦ gives k (Success (held ++ t ∷ []) style.names true) (at_next rs c (λ d qs. f d [] qs)) | false ↦ f c (held ++ t ∷ []) rs ])
          (elim b as (λ y. Part) [ true ↦ gives k (Success (held ++ t ∷ []) style.names true) (at_next (rs ++ more) c (λ d qs. f' d [] qs)) | false ↦ f' c (held ++ t ∷ []) (rs ++ more) ])
      at true = begins_cons _ _ _ (next_grows rs more c (λ d qs. f d [] qs) (λ d qs. f' d [] qs) (λ d qs. ih d [] qs))
      at false = ih c (held ++ t ∷ []) rs
  step_grows k (Output t) c held rs = begins_cons _ _ _ (ih c held rs)
  step_grows k (Prompt t) c held rs =
      chunk_grows style.names held k c rs more _ _ (λ d qs. begins_cons _ _ _ (respond_grows qs more (λ xs. f d [] xs) (λ xs. f' d [] xs) (λ xs. ih d [] xs)))
  step_grows k NoMore c [] rs = begins_self _
  step_grows k NoMore c (t ∷ ts) rs = begins_self _
  step_grows k (Ball b) c held rs = chunk_grows style.names held k c rs more _ _ (λ d qs. begins_self _)
  step_grows k Limit c held rs = chunk_grows style.names held k c rs more _ _ (λ d qs. begins_self _)
  step_grows k (Outside i) c held rs = begins_none _

pub further_only_adds : FurtherOnlyAdds
unfolding part_of
further_only_adds style [] qs c held rs more = begins_none _
further_only_adds style (p ∷ ps) qs c held rs more =
    step_grows style (part_of style ps) (part_of style (ps ++ qs)) more (λ d hs xs. further_only_adds style ps qs d hs xs more) p.0 p.1 c held rs
