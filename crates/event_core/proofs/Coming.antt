-- Where stops end otherwise than outside they tell an event. So a query that ran out of the stops that are known has an event to come.
use Rattle.std.proofs.Common.{ℕ, ◌<◌, Bool, true, false, List, [], ◌∷◌, ◌++◌, length, Option, Some, None, arith}
use Rattle.term_core.specs.Tree.{Tree}
use Rattle.event_core.specs.declared.stop.Stop.{Stop}
use Rattle.event_core.specs.declared.stop.Stop.TheVariants as stop
use Rattle.event_core.specs.declared.event.Event.{Event}
use Rattle.event_core.specs.declared.event.Event.TheVariants.{Success, Failure, Error, Output, Prompt, Limit}
use Rattle.event_core.specs.declared.request.Request.{Request}
use Rattle.event_core.specs.declared.request.Request.TheVariants as request
use Rattle.event_core.specs.declared.rest.Rest.TheVariants.{More, Prompting, Over}
use Rattle.event_core.specs.Parts.{Part, Style, rests, gives, at_next, at_respond, after_chunk, is_full, part_step, part_of, replies}
use Rattle.event_core.specs.Endings.{at_reply, AfterStop, HasEnd}

abbrev count : List Request → ℕ
count rs = length (replies rs)

-- ---- stops that end tell an event

abbrev Tells : Part → Type 0
Tells p = 0 < length p.events

module _ (style : Style) where
  chunk_tells : (ns : Option (List (List ℕ))) (held : List Tree) (k c : ℕ) (rs : List Request) (go : ℕ → List Request → Part) → ((d : ℕ) (qs : List Request) → Tells (go d qs)) → Tells (after_chunk ns held k c rs go)
  chunk_tells ns [] k c rs go h = h c rs
  chunk_tells ns (t ∷ ts) k c rs go h = omega arith

  step_tells : (P : ℕ → Type 0) (go : ℕ → List Tree → List Request → Part) → ((j c : ℕ) (held : List Tree) (rs : List Request) → P j → Tells (go c held rs)) →
      (k : ℕ) (s : Stop) (j c : ℕ) (held : List Tree) (rs : List Request) → AfterStop ⊥ s j P → Tells (part_step style go k s c held rs)
  unfolding part_step
  step_tells P go ih k (stop.Found t false) j c held rs w = omega arith
  step_tells P go ih k (stop.Found t true) j c held rs w = at (is_full style.size c (held ++ t ∷ []))
    where
      at : (b : Bool) → Tells (elim b as (λ y. Part) [ true ↦ gives k (Success (held ++ t ∷ []) style.names true) (at_next rs c (λ d qs. go d [] qs)) | false ↦ go c (held ++ t ∷ []) rs ])
      at true = omega arith
      at false = ih j c (held ++ t ∷ []) rs w
  step_tells P go ih k (stop.Output t) j c held rs w = omega arith
  step_tells P go ih k (stop.Prompt t) j c held rs w = chunk_tells style.names held k c rs _ (λ d qs. omega arith)
  step_tells P go ih k stop.NoMore j c [] rs w = omega arith
  step_tells P go ih k stop.NoMore j c (t ∷ ts) rs w = omega arith
  step_tells P go ih k (stop.Ball b) j c held rs w = chunk_tells style.names held k c rs _ (λ d qs. omega arith)
  step_tells P go ih k stop.Limit j c held rs w = chunk_tells style.names held k c rs _ (λ d qs. omega arith)
  step_tells P go ih k (stop.Outside i) j c held rs w = absurd w

  pub stops_tell : (ps : List (ℕ × Stop)) (j : ℕ) → HasEnd ⊥ ps j → (c : ℕ) (held : List Tree) (rs : List Request) → Tells (part_of style ps c held rs)
  unfolding part_of HasEnd
  stops_tell [] j w c held rs = absurd w
  stops_tell (p ∷ ps) j w c held rs = step_tells (HasEnd ⊥ ps) (part_of style ps) (λ i d hs qs v. stops_tell ps i v d hs qs) p.0 p.1 j c held rs w

  -- ---- where some further stops lengthen a part, others that end do so too

  abbrev LengthensToo : Part → Part → Part → Type 0
  LengthensToo p x q = length p.events < length x.events → length p.events < length q.events

  gives_too : (k : ℕ) (e : Event) (p x q : Part) → LengthensToo p x q → LengthensToo (gives k e p) (gives k e x) (gives k e q)
  gives_too k e p x q h l = let g : length p.events < length q.events = h (omega (arith, l)) in omega (arith, g)

  same_too : (p q : Part) → LengthensToo p p q
  same_too p q l = absurd (omega (arith, l))

  next_too : (P : ℕ → Type 0) (rs : List Request) (c : ℕ) (f g h : ℕ → List Request → Part) → P (count rs) → ((d : ℕ) (qs : List Request) → P (count qs) → LengthensToo (f d qs) (g d qs) (h d qs)) →
      LengthensToo (at_next rs c f) (at_next rs c g) (at_next rs c h)
  next_too P [] c f g h w m = same_too (rests More []) (rests More [])
  next_too P (request.Next None ∷ rs) c f g h w m = m c rs w
  next_too P (request.Next (Some d) ∷ rs) c f g h w m = m d rs w
  next_too P (request.Respond t ∷ rs) c f g h w m = let r : Part = rests More (request.Respond t ∷ rs) in same_too r r
  next_too P (request.Ask a ∷ rs) c f g h w m = let r : Part = rests More (request.Ask a ∷ rs) in same_too r r
  next_too P (request.Stop ∷ rs) c f g h w m = let r : Part = rests More (request.Stop ∷ rs) in same_too r r

  respond_too : (P : ℕ → Type 0) (rs : List Request) (f g h : List Request → Part) → at_reply (count rs) P → ((qs : List Request) → P (count qs) → LengthensToo (f qs) (g qs) (h qs)) →
      LengthensToo (at_respond rs f) (at_respond rs g) (at_respond rs h)
  respond_too P [] f g h w m = same_too (rests Prompting []) (rests Prompting [])
  respond_too P (request.Respond t ∷ rs) f g h w m = m rs w
  respond_too P (request.Next c ∷ rs) f g h w m = let r : Part = rests Prompting (request.Next c ∷ rs) in same_too r r
  respond_too P (request.Ask a ∷ rs) f g h w m = let r : Part = rests Prompting (request.Ask a ∷ rs) in same_too r r
  respond_too P (request.Stop ∷ rs) f g h w m = let r : Part = rests Prompting (request.Stop ∷ rs) in same_too r r

  chunk_too : (P : ℕ → Type 0) (ns : Option (List (List ℕ))) (held : List Tree) (k c : ℕ) (rs : List Request) (f g h : ℕ → List Request → Part) → P (count rs) → ((d : ℕ) (qs : List Request) → P (count qs) → LengthensToo (f d qs) (g d qs) (h d qs)) →
      LengthensToo (after_chunk ns held k c rs f) (after_chunk ns held k c rs g) (after_chunk ns held k c rs h)
  chunk_too P ns [] k c rs f g h w m = m c rs w
  chunk_too P ns (t ∷ ts) k c rs f g h w m = gives_too k (Success (t ∷ ts) ns true) (at_next rs c f) (at_next rs c g) (at_next rs c h) (next_too P rs c f g h w m)

  step_too : (P : ℕ → Type 0) (f g h : ℕ → List Tree → List Request → Part) → ((c : ℕ) (held : List Tree) (rs : List Request) → P (count rs) → LengthensToo (f c held rs) (g c held rs) (h c held rs)) →
      (k : ℕ) (s : Stop) (c : ℕ) (held : List Tree) (rs : List Request) → AfterStop ⊥ s (count rs) P → LengthensToo (part_step style f k s c held rs) (part_step style g k s c held rs) (part_step style h k s c held rs)
  unfolding part_step
  step_too P f g h ih k (stop.Found t false) c held rs w = let r : Part = gives k (Success (held ++ t ∷ []) style.names false) (rests Over rs) in same_too r r
  step_too P f g h ih k (stop.Found t true) c held rs w = at (is_full style.size c (held ++ t ∷ []))
    where
      res : (ℕ → List Tree → List Request → Part) → Bool → Part
      res go b = elim b as (λ y. Part) [ true ↦ gives k (Success (held ++ t ∷ []) style.names true) (at_next rs c (λ d qs. go d [] qs)) | false ↦ go c (held ++ t ∷ []) rs ]

      at : (b : Bool) → LengthensToo (res f b) (res g b) (res h b)
      at true =
          gives_too k (Success (held ++ t ∷ []) style.names true) (at_next rs c (λ d qs. f d [] qs)) (at_next rs c (λ d qs. g d [] qs)) (at_next rs c (λ d qs. h d [] qs))
          (next_too P rs c (λ d qs. f d [] qs) (λ d qs. g d [] qs) (λ d qs. h d [] qs) w (λ d qs v. ih d [] qs v))
      at false = ih c (held ++ t ∷ []) rs w
  step_too P f g h ih k (stop.Output t) c held rs w = gives_too k (Output t) (f c held rs) (g c held rs) (h c held rs) (ih c held rs w)
  step_too P f g h ih k (stop.Prompt t) c held rs w =
      chunk_too (λ j. at_reply j P) style.names held k c rs (λ d qs. gives k (Prompt t) (at_respond qs (λ xs. f d [] xs))) (λ d qs. gives k (Prompt t) (at_respond qs (λ xs. g d [] xs))) (λ d qs. gives k (Prompt t) (at_respond qs (λ xs. h d [] xs))) w
      (λ d qs v. gives_too k (Prompt t) (at_respond qs (λ xs. f d [] xs)) (at_respond qs (λ xs. g d [] xs)) (at_respond qs (λ xs. h d [] xs))
      (respond_too P qs (λ xs. f d [] xs) (λ xs. g d [] xs) (λ xs. h d [] xs) v (λ xs y. ih d [] xs y)))
  step_too P f g h ih k stop.NoMore c [] rs w = let r : Part = gives k Failure (rests Over rs) in same_too r r
  step_too P f g h ih k stop.NoMore c (t ∷ ts) rs w = let r : Part = gives k (Success (t ∷ ts) style.names false) (rests Over rs) in same_too r r
  step_too P f g h ih k (stop.Ball b) c held rs w = let r : Part = after_chunk style.names held k c rs (λ d qs. gives k (Error b) (rests Over qs)) in same_too r r
  step_too P f g h ih k stop.Limit c held rs w = let r : Part = after_chunk style.names held k c rs (λ d qs. gives k Limit (rests Over qs)) in same_too r r
  step_too P f g h ih k (stop.Outside i) c held rs w = absurd w

  pub lengthens_too : (ps xs qs : List (ℕ × Stop)) (c : ℕ) (held : List Tree) (rs : List Request) → HasEnd ⊥ (ps ++ qs) (count rs) → LengthensToo (part_of style ps c held rs) (part_of style (ps ++ xs) c held rs) (part_of style (ps ++ qs) c held rs)
  unfolding part_of HasEnd
  lengthens_too [] xs qs c held rs w = λ l. stops_tell qs (count rs) w c held rs
  lengthens_too (p ∷ ps) xs qs c held rs w = step_too (HasEnd ⊥ (ps ++ qs)) (part_of style ps) (part_of style (ps ++ xs)) (part_of style (ps ++ qs)) (λ d hs rs v. lengthens_too ps xs qs d hs rs v) p.0 p.1 c held rs w
