-- The size of the chunks doesn't matter: what the events of a query come to is what its stops come to.
use Rattle.std.proofs.Common.{◌≡◌, ℕ, zero, suc, Bool, true, false, List, [], ◌∷◌, ◌++◌, length, Option, Some, None, refl, ap, sym, subst, ◌∙◌, append_assoc, inl, inr}
use Rattle.term_core.specs.Tree.{Tree}
use Rattle.event_core.specs.declared.stop.Stop.{Stop}
use Rattle.event_core.specs.declared.stop.Stop.TheVariants as stop
use Rattle.event_core.specs.declared.event.Event.TheVariants.{Success, Error, Prompt, Limit}
use Rattle.event_core.specs.declared.request.Request.{Request}
use Rattle.event_core.specs.declared.request.Request.TheVariants.{Ask, Next, Stop as Stops, Respond}
use Rattle.event_core.specs.declared.rest.Rest.TheVariants.{More, Prompting, Over}
use Rattle.event_core.specs.Stops.{stops}
use Rattle.event_core.specs.Parts.{Part, Style, rests, gives, at_next, at_respond, after_chunk, is_full, part_step, part_of, part, replies}
use Rattle.event_core.specs.Summaries.{Summary, NoneLeft, Threw, OutOfSteps, Rests, only, answering, printing, asking, summary, IsComplete}
use Rattle.event_core.specs.Laws.{replying, ChunksDontMatter, EnoughCanBeAsked}
use Rattle.event_core.specs.Endings as endings
use Rattle.event_core.specs.Endings.{AfterStop, HasEnd}
use Rattle.event_core.proofs.Ending.{query_ends}

-- what stops come to, where there are j replies

abbrev at_reply : ℕ → (ℕ → Summary) → Summary
at_reply zero f = only Rests
at_reply (suc j) f = f j

abbrev stop_summary : Stop → ℕ → (ℕ → Summary) → Summary
stop_summary (stop.Found t true) j f = answering (t ∷ []) (f j)
stop_summary (stop.Found t false) j f = answering (t ∷ []) (only NoneLeft)
stop_summary (stop.Output t) j f = printing t (f j)
stop_summary (stop.Prompt t) j f = asking t (at_reply j f)
stop_summary stop.NoMore j f = only NoneLeft
stop_summary (stop.Ball b) j f = only (Threw b)
stop_summary stop.Limit j f = only OutOfSteps
stop_summary (stop.Outside i) j f = only Rests

unfoldable stops_summary : List (ℕ × Stop) → ℕ → Summary
stops_summary [] j = only Rests
stops_summary (p ∷ ps) j = stop_summary p.1 j (stops_summary ps)

abbrev count : List Request → ℕ
count rs = length (replies rs)

-- where enough was asked, the events that go on from these requests come to f of the number of replies
abbrev Sums : (ℕ → Type 0) → (List Request → Part) → (ℕ → Summary) → Type 0
Sums P go f = (rs : List Request) → P (count rs) → IsComplete (go rs) → summary (go rs).events ≡ f (count rs)

incomplete : (rs : List Request) → IsComplete (rests More rs) → ⊥
incomplete rs (inl e) = cc
incomplete rs (inr h) = let e : More ≡ Prompting = h.0 in cc

no_reply : (rs : List Request) (f : ℕ → Summary) → IsComplete (rests Prompting rs) → only Rests ≡ at_reply (count rs) f
no_reply rs f (inl e) = cc
no_reply rs f (inr h) = sym (ap (λ (l : List Tree). at_reply (length l) f) h.1)

module _ (P : ℕ → Type 0) (f : ℕ → Summary) where
  next_sums : (c : ℕ) (go : ℕ → List Request → Part) → ((d : ℕ) → Sums P (go d) f) → Sums P (λ rs. at_next rs c go) f
  next_sums c go ih [] w h = absurd (incomplete [] h)
  next_sums c go ih (Next None ∷ rs) w h = ih c rs w h
  next_sums c go ih (Next (Some d) ∷ rs) w h = ih d rs w h
  next_sums c go ih (Respond t ∷ rs) w h = absurd (incomplete (Respond t ∷ rs) h)
  next_sums c go ih (Ask a ∷ rs) w h = absurd (incomplete (Ask a ∷ rs) h)
  next_sums c go ih (Stops ∷ rs) w h = absurd (incomplete (Stops ∷ rs) h)

  respond_sums : (go : List Request → Part) → Sums P go f → Sums (λ j. endings.at_reply j P) (λ rs. at_respond rs go) (λ j. at_reply j f)
  unfolding summary
  respond_sums go ih [] w h = refl
  respond_sums go ih (Respond t ∷ rs) w h = ih rs w h
  respond_sums go ih (Next c ∷ rs) w h = no_reply (Next c ∷ rs) f h
  respond_sums go ih (Ask a ∷ rs) w h = no_reply (Ask a ∷ rs) f h
  respond_sums go ih (Stops ∷ rs) w h = no_reply (Stops ∷ rs) f h

  chunk_sums : (ns : Option (List (List ℕ))) (held : List Tree) (k c : ℕ) (go : ℕ → List Request → Part) → ((d : ℕ) → Sums P (go d) f) → Sums P (λ rs. after_chunk ns held k c rs go) (λ j. answering held (f j))
  unfolding summary
  chunk_sums ns [] k c go ih rs w h = ih c rs w h
  chunk_sums ns (t ∷ ts) k c go ih rs w h = ap (answering (t ∷ ts)) (next_sums c go ih rs w h)

answering_twice : (ts us : List Tree) (x : Summary) → answering (ts ++ us) x ≡ answering ts (answering us x)
answering_twice ts us x = ap (λ (l : List Tree). let y : Summary = record x { answers = l } in y) (append_assoc ts us x.answers)

module _ (style : Style) where
  step_sums : (P : ℕ → Type 0) (go : ℕ → List Tree → List Request → Part) (f : ℕ → Summary) → ((c : ℕ) (held : List Tree) → Sums P (go c held) (λ j. answering held (f j))) →
      (k : ℕ) (s : Stop) (c : ℕ) (held : List Tree) → Sums (λ j. AfterStop ⊥ s j P) (part_step style go k s c held) (λ j. answering held (stop_summary s j f))
  unfolding part_step summary
  step_sums P go f ih k (stop.Found t false) c held rs w h = answering_twice held (t ∷ []) (only NoneLeft)
  step_sums P go f ih k (stop.Found t true) c held rs w h = at (is_full style.size c (held ++ t ∷ [])) h
    where
      res : Bool → Part
      res b = elim b as (λ y. Part) [ true ↦ gives k (Success (held ++ t ∷ []) style.names true) (at_next rs c (λ d qs. go d [] qs)) | false ↦ go c (held ++ t ∷ []) rs ]

      at : (b : Bool) → IsComplete (res b) → summary (res b).events ≡ answering held (answering (t ∷ []) (f (count rs)))
      at true h = ap (answering (held ++ t ∷ [])) (next_sums P f c (λ d qs. go d [] qs) (λ d. ih d []) rs w h) ∙ answering_twice held (t ∷ []) (f (count rs))
      at false h = ih c (held ++ t ∷ []) rs w h ∙ answering_twice held (t ∷ []) (f (count rs))
  step_sums P go f ih k (stop.Output t) c held rs w h = ap (printing t) (ih c held rs w h)
  step_sums P go f ih k (stop.Prompt t) c held rs w h =
      chunk_sums (λ j. endings.at_reply j P) (λ j. asking t (at_reply j f)) style.names held k c (λ d qs. gives k (Prompt t) (at_respond qs (λ xs. go d [] xs)))
      (λ d qs v i. ap (asking t) (respond_sums P f (λ xs. go d [] xs) (ih d []) qs v i)) rs w h
  step_sums P go f ih k stop.NoMore c [] rs w h = refl
  step_sums P go f ih k stop.NoMore c (t ∷ ts) rs w h = refl
  step_sums P go f ih k (stop.Ball b) c held rs w h =
      chunk_sums (λ j. Unit {0}) (λ j. only (Threw b)) style.names held k c (λ d qs. gives k (Error b) (rests Over qs)) (λ d qs v i. refl) rs tt h
  step_sums P go f ih k stop.Limit c held rs w h =
      chunk_sums (λ j. Unit {0}) (λ j. only OutOfSteps) style.names held k c (λ d qs. gives k Limit (rests Over qs)) (λ d qs v i. refl) rs tt h
  step_sums P go f ih k (stop.Outside i) c held rs w h = absurd w

  part_sums : (ps : List (ℕ × Stop)) (c : ℕ) (held : List Tree) → Sums (HasEnd ⊥ ps) (part_of style ps c held) (λ j. answering held (stops_summary ps j))
  unfolding part_of HasEnd stops_summary
  part_sums [] c held rs w h = absurd w
  part_sums (p ∷ ps) c held rs w h = step_sums (HasEnd ⊥ ps) (part_of style ps) (stops_summary ps) (part_sums ps) p.0 p.1 c held rs w h

pub chunks_dont_matter : ChunksDontMatter
unfolding part
chunks_dont_matter w fits style g t c d rs qs e inside h k =
    let ps : List (ℕ × Stop) = stops fits (replying w rs) g t in
    let ends : HasEnd ⊥ (stops fits (replying w rs) g t) (count rs) = query_ends ⊥ fits (replying w rs) g t inside in
    let same : stops fits (replying w qs) g t ≡ stops fits (replying w rs) g t = ap (λ l. stops fits (record w { replies = l }) g t) (sym e) in
    part_sums style (stops fits (replying w rs) g t) c [] rs ends h
    ∙ ap (λ (l : List Tree). stops_summary ps (length l)) e
    ∙ sym (subst (λ ss. IsComplete (part_of style ss d [] qs) → summary (part_of style ss d [] qs).events ≡ stops_summary ps (count qs)) (sym same)
    (part_sums style ps d [] qs (subst (λ (l : List Tree). HasEnd ⊥ ps (length l)) e ends)) k)

-- ---- enough can be asked

abbrev responds : List Tree → List Request
responds [] = []
responds (t ∷ ts) = Respond t ∷ responds ts

responds_reply : (ts : List Tree) → replies (responds ts) ≡ ts
responds_reply [] = refl
responds_reply (t ∷ ts) = ap (λ l. t ∷ l) (responds_reply ts)

-- requests with these replies after which a part is complete
abbrev EnoughFor : (List Request → Part) → List Tree → Type 0
EnoughFor go ts = (rs : List Request) × (replies rs ≡ ts) × IsComplete (go rs)

over_enough : (go : List Request → Part) (ts : List Tree) → ((rs : List Request) → (go rs).rest ≡ Over) → EnoughFor go ts
over_enough go ts h = (responds ts, responds_reply ts, inl (h (responds ts)))

module _ (style : Style) where
  chunk_enough : (ns : Option (List (List ℕ))) (held : List Tree) (k c : ℕ) (ts : List Tree) (go : ℕ → List Request → Part) → ((d : ℕ) → EnoughFor (go d) ts) → EnoughFor (λ rs. after_chunk ns held k c rs go) ts
  chunk_enough ns [] k c ts go h = h c
  chunk_enough ns (t ∷ us) k c ts go h = (Next None ∷ (h c).0, (h c).1, (h c).2)

  step_enough : (P : ℕ → Type 0) (go : ℕ → List Tree → List Request → Part) → ((c : ℕ) (held : List Tree) (ts : List Tree) → P (length ts) → EnoughFor (go c held) ts) →
      (k : ℕ) (s : Stop) (c : ℕ) (held : List Tree) (ts : List Tree) → AfterStop ⊥ s (length ts) P → EnoughFor (part_step style go k s c held) ts
  unfolding part_step
  step_enough P go ih k (stop.Found t false) c held ts w = over_enough (part_step style go k (stop.Found t false) c held) ts (λ rs. refl)
  step_enough P go ih k (stop.Found t true) c held ts w = at (is_full style.size c (held ++ t ∷ []))
    where
      at : (b : Bool) → EnoughFor (λ rs. elim b as (λ y. Part) [ true ↦ gives k (Success (held ++ t ∷ []) style.names true) (at_next rs c (λ d qs. go d [] qs)) | false ↦ go c (held ++ t ∷ []) rs ]) ts
      at true = let h : EnoughFor (go c []) ts = ih c [] ts w in (Next None ∷ h.0, h.1, h.2)
      at false = ih c (held ++ t ∷ []) ts w
  step_enough P go ih k (stop.Output t) c held ts w = ih c held ts w
  step_enough P go ih k (stop.Prompt t) c held [] w =
      chunk_enough style.names held k c [] (λ d qs. gives k (Prompt t) (at_respond qs (λ xs. go d [] xs))) (λ d. ([], refl, inr (refl, refl)))
  step_enough P go ih k (stop.Prompt t) c held (a ∷ ts) w =
      chunk_enough style.names held k c (a ∷ ts) (λ d qs. gives k (Prompt t) (at_respond qs (λ xs. go d [] xs)))
      (λ d. let h : EnoughFor (go d []) ts = ih d [] ts w in (Respond a ∷ h.0, ap (λ l. a ∷ l) h.1, h.2))
  step_enough P go ih k stop.NoMore c [] ts w = over_enough (part_step style go k stop.NoMore c []) ts (λ rs. refl)
  step_enough P go ih k stop.NoMore c (t ∷ us) ts w = over_enough (part_step style go k stop.NoMore c (t ∷ us)) ts (λ rs. refl)
  step_enough P go ih k (stop.Ball b) c held ts w =
      chunk_enough style.names held k c ts (λ d qs. gives k (Error b) (rests Over qs)) (λ d. over_enough (λ qs. gives k (Error b) (rests Over qs)) ts (λ rs. refl))
  step_enough P go ih k stop.Limit c held ts w =
      chunk_enough style.names held k c ts (λ d qs. gives k Limit (rests Over qs)) (λ d. over_enough (λ qs. gives k Limit (rests Over qs)) ts (λ rs. refl))
  step_enough P go ih k (stop.Outside i) c held ts w = absurd w

  part_enough : (ps : List (ℕ × Stop)) (c : ℕ) (held : List Tree) (ts : List Tree) → HasEnd ⊥ ps (length ts) → EnoughFor (part_of style ps c held) ts
  unfolding part_of HasEnd
  part_enough [] c held ts w = absurd w
  part_enough (p ∷ ps) c held ts w = step_enough (HasEnd ⊥ ps) (part_of style ps) (part_enough ps) p.0 p.1 c held ts w

pub enough_can_be_asked : EnoughCanBeAsked
unfolding part
enough_can_be_asked w fits style g t c inside =
    let h : EnoughFor (part_of style (stops fits w g t) c []) w.replies = part_enough style (stops fits w g t) c [] w.replies (query_ends ⊥ fits w g t inside) in
    (h.0, h.1, subst (λ (l : List Tree). IsComplete (part_of style (stops fits (record w { replies = l }) g t) c [] h.0)) (sym h.1) h.2)
