-- What a client makes of the events of a query is what its stops come to, whatever the size of the chunks.
use Rattle.std.proofs.Common.{◌≡◌, ℕ, Bool, true, false, List, [], ◌∷◌, ◌++◌, Option, Some, None, refl, ap, sym, subst, ◌∙◌, append_assoc, append-nil, ◌⊎◌, inl, inr}
use Rattle.term_core.specs.Tree.{Tree}
use Rattle.event_core.specs.declared.event.Kind.{Kind}
use Rattle.event_core.specs.declared.stop.Stop.{Stop}
use Rattle.event_core.specs.declared.stop.Stop.TheVariants as stop
use Rattle.event_core.specs.declared.event.Event.{Event}
use Rattle.event_core.specs.declared.event.Event.TheVariants.{Success, Error, Prompt, Limit}
use Rattle.event_core.specs.declared.request.Request.{Request}
use Rattle.event_core.specs.declared.request.Request.TheVariants.{Ask, Next, Respond}
use Rattle.event_core.specs.declared.request.Request.TheVariants as request
use Rattle.event_core.specs.declared.rest.Rest.TheVariants.{More, Prompting, Over}
use Rattle.event_core.specs.declared.rest.Rest.{Rest}
use Rattle.event_core.specs.Parts.{Part, Style, rests, gives, at_next, at_respond, after_chunk, is_full, part_step, part_of, part}
use Rattle.solve_model.specs.Trace.{world_of}
use Rattle.event_core.specs.Texts.{quoted}
use Rattle.event_core.specs.Fits.{fits}
use Rattle.event_core.specs.Names.{answer_term}
use Rattle.event_core.specs.Standing.{chunk_of, style_of, stops_for, spec_of}
use Rattle.event_core.specs.Stops.{stops}
use Rattle.event_core.specs.Endings.{AfterStop, HasEnd}
use Rattle.event_core.specs.Laws.{replying}
use Rattle.event_core.specs.Summaries.{IsComplete}
use Rattle.event_core.specs.declared.local.End.TheVariants as ending
use Rattle.event_core.specs.declared.local.Answers.{Answers}
use Rattle.event_core.specs.Local.{ended, none_left, local_step, local_from, heard_from, tellings, local, ReadsAreLocal, AskedReadsAreLocal}
use Rattle.event_core.proofs.Ending.{query_ends}
use Rattle.event_core.proofs.Refusing.{asked_stay_inside}

-- both come to the same answers and end
pub record Same (heard local : Option Answers) : Type 0 where
  pub answers : Answers
  pub heard_so : heard ≡ Some answers
  pub local_so : local ≡ Some answers

module _ (protocol : Kind → Tree) where
  -- The events come to what the stops come to; or they come to nothing yet, and the query rests until a `next`.
  abbrev pub Tells : Part → (got : List Tree) → Option Answers → Type 0
  Tells p got l = Same (heard_from (tellings protocol p.events) got) l ⊎ ((heard_from (tellings protocol p.events) got ≡ None) × (p.rest ≡ More))

  -- for all requests
  abbrev Telling : (List Request → Part) → (got : List Tree) → Option Answers → Type 0
  Telling go got l = (rs : List Request) → Tells (go rs) got l

  at_once : (e : Event) (k : ℕ) (p : Part) (got : List Tree) (x : Answers) → heard_from (tellings protocol ((k, e) ∷ p.events)) got ≡ Some x → (l : Option Answers) → l ≡ Some x → Tells (gives k e p) got l
  at_once e k p got x h l m = inl (record { answers = x; heard_so = h; local_so = m })

  next_tells : (c : ℕ) (go : ℕ → List Request → Part) (got : List Tree) (l : Option Answers) → ((d : ℕ) → Telling (go d) got l) → Telling (λ rs. at_next rs c go) got l
  unfolding heard_from
  next_tells c go got l ih [] = inr (refl, refl)
  next_tells c go got l ih (Next None ∷ rs) = ih c rs
  next_tells c go got l ih (Next (Some d) ∷ rs) = ih d rs
  next_tells c go got l ih (Respond t ∷ rs) = inr (refl, refl)
  next_tells c go got l ih (Ask a ∷ rs) = inr (refl, refl)
  next_tells c go got l ih (request.Stop ∷ rs) = inr (refl, refl)

  -- a success with `more` true is passed over, its answers kept
  pass : (k : ℕ) (ns : Option (List (List ℕ))) (ts got : List Tree) (p : Part) (l : Option Answers) → Tells p (got ++ ts) l → Tells (gives k (Success ts ns true) p) got l
  unfolding heard_from
  pass k ns ts got p l h = h

  chunk_tells : (ns : Option (List (List ℕ))) (held : List Tree) (k c : ℕ) (go : ℕ → List Request → Part) (got : List Tree) (l : Option Answers) → ((d : ℕ) → Telling (go d) (got ++ held) l) → Telling (λ rs. after_chunk ns held k c rs go) got l
  unfolding heard_from
  chunk_tells ns [] k c go got l ih rs = subst (λ (g : List Tree). Tells (go c rs) g l) (append-nil got) (ih c rs)
  chunk_tells ns (t ∷ ts) k c go got l ih rs = next_tells c go (got ++ t ∷ ts) l ih rs

  some_left : (got : List Tree) (t : Tree) (ts : List Tree) → none_left (got ++ t ∷ ts) ≡ ending.NoMore
  some_left [] t ts = refl
  some_left (x ∷ xs) t ts = refl

  module _ (style : Style) where
    step_tells : (P : ℕ → Type 0) (go : ℕ → List Tree → List Request → Part) (f : List Tree → Option Answers) →
        ((j : ℕ) → P j → (c : ℕ) (held got : List Tree) → Telling (go c held) got (f (got ++ held))) →
        (k : ℕ) (s : Stop) (j : ℕ) → AfterStop ⊥ s j P → (c : ℕ) (held got : List Tree) → Telling (part_step style go k s c held) got (local_step s (got ++ held) f)
    unfolding part_step heard_from
    step_tells P go f ih k (stop.Found t false) j w c held got rs =
        inl (record { answers = record { answers = got ++ held ++ t ∷ []; end = ending.NoMore }; heard_so = ap (λ l. ended l ending.NoMore) (sym (append_assoc got held (t ∷ []))); local_so = refl })
    step_tells P go f ih k (stop.Found t true) j w c held got rs = at (is_full style.size c (held ++ t ∷ []))
      where
        keeps : (c : ℕ) (rs : List Request) → Tells (go c (held ++ t ∷ []) rs) got (f (got ++ held ++ t ∷ []))
        keeps c rs = subst (λ (l : List Tree). Tells (go c (held ++ t ∷ []) rs) got (f l)) (sym (append_assoc got held (t ∷ []))) (ih j w c (held ++ t ∷ []) got rs)

        fresh : (d : ℕ) (qs : List Request) → Tells (go d [] qs) (got ++ (held ++ t ∷ [])) (f (got ++ held ++ t ∷ []))
        fresh d qs = subst (λ (l : List Tree). Tells (go d [] qs) (got ++ (held ++ t ∷ [])) (f l)) (append-nil _ ∙ sym (append_assoc got held (t ∷ []))) (ih j w d [] (got ++ (held ++ t ∷ [])) qs)

        at : (b : Bool) → Tells (elim b as (λ y. Part) [ true ↦ gives k (Success (held ++ t ∷ []) style.names true) (at_next rs c (λ d qs. go d [] qs)) | false ↦ go c (held ++ t ∷ []) rs ]) got (f (got ++ held ++ t ∷ []))
        at true = next_tells c (λ d qs. go d [] qs) (got ++ (held ++ t ∷ [])) (f (got ++ held ++ t ∷ [])) fresh rs
        at false = keeps c rs
    step_tells P go f ih k (stop.Output t) j w c held got rs = ih j w c held got rs
    step_tells P go f ih k (stop.Prompt t) j w c held got rs =
        chunk_tells style.names held k c (λ d qs. gives k (Prompt t) (at_respond qs (λ xs. go d [] xs))) got (ended (got ++ held) (ending.Prompt t))
        (λ d qs. at_once (Prompt t) k (at_respond qs (λ xs. go d [] xs)) (got ++ held) (record { answers = got ++ held; end = ending.Prompt t }) refl (ended (got ++ held) (ending.Prompt t)) refl) rs
    step_tells P go f ih k stop.NoMore j w c [] got rs =
        inl (record { answers = record { answers = got; end = none_left got }; heard_so = refl; local_so = ap (λ l. ended l (none_left l)) (append-nil got) })
    step_tells P go f ih k stop.NoMore j w c (t ∷ ts) got rs =
        inl (record { answers = record { answers = got ++ t ∷ ts; end = ending.NoMore }; heard_so = refl; local_so = ap (λ e. ended (got ++ t ∷ ts) e) (some_left got t ts) })
    step_tells P go f ih k (stop.Ball b) j w c held got rs =
        chunk_tells style.names held k c (λ d qs. gives k (Error b) (rests Over qs)) got (ended (got ++ held) (ending.Ball b))
        (λ d qs. at_once (Error b) k (rests Over qs) (got ++ held) (record { answers = got ++ held; end = ending.Ball b }) refl (ended (got ++ held) (ending.Ball b)) refl) rs
    step_tells P go f ih k stop.Limit j w c held got rs =
        chunk_tells style.names held k c (λ d qs. gives k Limit (rests Over qs)) got (ended (got ++ held) ending.Limit)
        (λ d qs. at_once Limit k (rests Over qs) (got ++ held) (record { answers = got ++ held; end = ending.Limit }) refl (ended (got ++ held) ending.Limit) refl) rs
    step_tells P go f ih k (stop.Outside i) j w c held got rs = absurd w

    -- For each chunk and all requests: what the events of stops come to is what the stops come to, as soon as the query rests elsewhere than at a `next`.
    pub part_tells : (ps : List (ℕ × Stop)) (j : ℕ) → HasEnd ⊥ ps j → (c : ℕ) (held got : List Tree) (rs : List Request) → Tells (part_of style ps c held rs) got (local_from ps (got ++ held))
    unfolding part_of HasEnd local_from
    part_tells [] j w c held got rs = absurd w
    part_tells (p ∷ ps) j w c held got rs = step_tells (HasEnd ⊥ ps) (part_of style ps) (local_from ps) (part_tells ps) p.0 p.1 j w c held got rs

-- where enough was asked, the query doesn't rest at a `next`
not_more : (p : Part) → IsComplete p → p.rest ≡ More → ⊥
not_more p (inl h) e = two (sym h ∙ e)
  where
    two : ◌≡◌ {A = Rest} Over More → ⊥
    two m = cc
not_more p (inr h) e = two (sym h.0 ∙ e)
  where
    two : ◌≡◌ {A = Rest} Prompting More → ⊥
    two m = cc

pub reads_are_local : ReadsAreLocal
unfolding part
reads_are_local protocol w fits style g t c rs n inside h = told (part_of style (stops fits (replying w rs) g t) c [] rs) h
    (subst (λ (ts : List Tree). Tells protocol (part_of style (stops fits (record w { replies = ts }) g t) c [] rs) [] (local_from (stops fits (replying w []) g t) [])) (sym n)
    (part_tells protocol style (stops fits (replying w []) g t) 0 (query_ends ⊥ fits (replying w []) g t inside) c [] [] rs))
  where
    told : (p : Part) → IsComplete p → Tells protocol p [] (local_from (stops fits (replying w []) g t) []) → (x : Answers) × (heard_from (tellings protocol p.events) [] ≡ Some x) × (local_from (stops fits (replying w []) g t) [] ≡ Some x)
    told p k (inl s) = (s.answers, s.heard_so, s.local_so)
    told p k (inr m) = absurd (not_more p k m.1)

pub asked_reads_are_local : AskedReadsAreLocal
asked_reads_are_local protocol l s a keeps passes rs n h =
    let x : (x : Answers) × (heard_from (tellings protocol ((spec_of l s).part a rs).events) [] ≡ Some x) × (local_from (stops_for l s a []) [] ≡ Some x) =
    reads_are_local protocol (world_of l [] s.limit) (fits quoted) (style_of s a) a.goal (answer_term s.names a) (chunk_of s a) rs n (asked_stay_inside l s a keeps passes []) h in
    (x.0, x.1, ap (λ v. local v (stops_for l s a [])) passes ∙ x.2)
