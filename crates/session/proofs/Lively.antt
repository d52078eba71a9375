-- Each fitting request of a query brings an event.
use Rattle.std.proofs.Common.{◌≡◌, ℕ, suc, ◌<◌, Bool, true, false, List, [], ◌∷◌, ◌++◌, length, Option, Some, None, refl, arith}
use Rattle.term_core.specs.Tree.{Tree}
use Rattle.event_core.specs.declared.stop.Stop.{Stop}
use Rattle.event_core.specs.declared.stop.Stop.TheVariants as stop
use Rattle.event_core.specs.declared.event.Event.{Event}
use Rattle.event_core.specs.declared.event.Event.TheVariants.{Success, Error, Output, Prompt, Limit}
use Rattle.event_core.specs.declared.request.Request.{Request}
use Rattle.event_core.specs.declared.request.Request.TheVariants.{Ask, Next, Stop as Stops, Respond}
use Rattle.event_core.specs.declared.rest.Rest.{Rest}
use Rattle.event_core.specs.declared.rest.Rest.TheVariants.{More, Prompting, Over}
use Rattle.event_core.specs.Parts.{Part, Style, rests, gives, at_next, at_respond, after_chunk, is_full, part_step, part_of, replies}
use Rattle.event_core.specs.Endings.{at_reply, AfterStop, HasEnd}

-- how many replies requests bring
abbrev pub count : List Request → ℕ
count rs = length (replies rs)

-- Such stops give an event at least, and read all requests where there are none.

abbrev Fresh : Part → Type 0
Fresh p = (0 < length p.events) × (p.unread ≡ [])

-- one request more is read, and brings an event
abbrev pub Longer : Part → Part → Type 0
Longer p q = (length p.events < length q.events) × (q.unread ≡ [])

abbrev Moves : Rest → Part → Part → Type 0
Moves r p q = p.unread ≡ [] → p.rest ≡ r → Longer p q

moves_gives : (r : Rest) (k : ℕ) (e : Event) (p q : Part) → Moves r p q → Moves r (gives k e p) (gives k e q)
moves_gives r k e p q m u s = (omega (arith, (m u s).0), (m u s).1)

module _ (style : Style) where
  chunk_fresh : (held : List Tree) (k c : ℕ) (go : ℕ → List Request → Part) → ((d : ℕ) → Fresh (go d [])) → Fresh (after_chunk style.names held k c [] go)
  chunk_fresh [] k c go h = h c
  chunk_fresh (t ∷ ts) k c go h = (omega arith, refl)

  pub fresh : (ps : List (ℕ × Stop)) (n : ℕ) → HasEnd ⊥ ps n → (c : ℕ) (held : List Tree) → Fresh (part_of style ps c held [])
  unfolding part_of part_step HasEnd
  fresh [] n w c held = absurd w
  fresh (p ∷ ps) n w c held = step p.0 p.1 w c held (fresh ps)
    where
      step : (k : ℕ) (s : Stop) → AfterStop ⊥ s n (HasEnd ⊥ ps) → (c : ℕ) (held : List Tree) → ((n : ℕ) → HasEnd ⊥ ps n → (c : ℕ) (held : List Tree) → Fresh (part_of style ps c held [])) → Fresh (part_step style (part_of style ps) k s c held [])
      step k (stop.Found t false) w c held ih = (omega arith, refl)
      step k (stop.Found t true) w c held ih = go (is_full style.size c (held ++ t ∷ []))
        where
          go : (b : Bool) → Fresh (elim b as (λ y. Part) [ true ↦ gives k (Success (held ++ t ∷ []) style.names true) (rests More []) | false ↦ part_of style ps c (held ++ t ∷ []) [] ])
          go true = (omega arith, refl)
          go false = ih n w c (held ++ t ∷ [])
      step k (stop.Output t) w c held ih = (omega arith, (ih n w c held).1)
      step k (stop.Prompt t) w c held ih = chunk_fresh held k c _ (λ d. (omega arith, refl))
      step k stop.NoMore w c [] ih = (omega arith, refl)
      step k stop.NoMore w c (t ∷ ts) ih = (omega arith, refl)
      step k (stop.Ball b) w c held ih = chunk_fresh held k c _ (λ d. (omega arith, refl))
      step k stop.Limit w c held ih = chunk_fresh held k c _ (λ d. (omega arith, refl))
      step k (stop.Outside i) w c held ih = absurd w

  -- A next where more answers are there

  module _ (d : Option ℕ) where
    next_next : (P : ℕ → Type 0) (rs : List Request) (c : ℕ) (go : ℕ → List Request → Part) → P (count rs) → ((c : ℕ) → P 0 → Fresh (go c [])) → ((c : ℕ) (qs : List Request) → P (count qs) → Moves More (go c qs) (go c (qs ++ Next d ∷ []))) → Moves More (at_next rs c go) (at_next (rs ++ Next d ∷ []) c go)
    next_next P [] c go w f m u s = first d
      where
        first : (d : Option ℕ) → Longer (rests More []) (at_next (Next d ∷ []) c go)
        first None = f c w
        first (Some n) = f n w
    next_next P (Next None ∷ rs) c go w f m u s = m c rs w u s
    next_next P (Next (Some n) ∷ rs) c go w f m u s = m n rs w u s
    next_next P (Respond t ∷ rs) c go w f m u s = cc
    next_next P (Ask x ∷ rs) c go w f m u s = cc
    next_next P (Stops ∷ rs) c go w f m u s = cc

    respond_next : (P : ℕ → Type 0) (rs : List Request) (go : List Request → Part) → at_reply (count rs) P → ((qs : List Request) → P (count qs) → Moves More (go qs) (go (qs ++ Next d ∷ []))) → Moves More (at_respond rs go) (at_respond (rs ++ Next d ∷ []) go)
    respond_next P [] go w m u s = cc
    respond_next P (Next c ∷ rs) go w m u s = cc
    respond_next P (Ask x ∷ rs) go w m u s = cc
    respond_next P (Stops ∷ rs) go w m u s = cc
    respond_next P (Respond t ∷ rs) go w m u s = m rs w u s

    chunk_next : (P : ℕ → Type 0) (held : List Tree) (k c : ℕ) (rs : List Request) (go : ℕ → List Request → Part) → P (count rs) → ((c : ℕ) → P 0 → Fresh (go c [])) → ((c : ℕ) (qs : List Request) → P (count qs) → Moves More (go c qs) (go c (qs ++ Next d ∷ []))) → Moves More (after_chunk style.names held k c rs go) (after_chunk style.names held k c (rs ++ Next d ∷ []) go)
    chunk_next P [] k c rs go w f m = m c rs w
    chunk_next P (t ∷ ts) k c rs go w f m = moves_gives More k (Success (t ∷ ts) style.names true) (at_next rs c go) (at_next (rs ++ Next d ∷ []) c go) (next_next P rs c go w f m)

    next_step : (f : ℕ → List Tree → List Request → Part) (P : ℕ → Type 0) → ((c : ℕ) (held : List Tree) → P 0 → Fresh (f c held [])) → ((c : ℕ) (held : List Tree) (rs : List Request) → P (count rs) → Moves More (f c held rs) (f c held (rs ++ Next d ∷ []))) →
        (k : ℕ) (s : Stop) (c : ℕ) (held : List Tree) (rs : List Request) → AfterStop ⊥ s (count rs) P → Moves More (part_step style f k s c held rs) (part_step style f k s c held (rs ++ Next d ∷ []))
    unfolding part_step
    next_step f P fr ih k (stop.Found t false) c held rs w = λ u s. cc
    next_step f P fr ih k (stop.Found t true) c held rs w = go (is_full style.size c (held ++ t ∷ []))
      where
        res : List Request → Bool → Part
        res qs b = elim b as (λ y. Part) [ true ↦ gives k (Success (held ++ t ∷ []) style.names true) (at_next qs c (λ d xs. f d [] xs)) | false ↦ f c (held ++ t ∷ []) qs ]

        go : (b : Bool) → Moves More (res rs b) (res (rs ++ Next d ∷ []) b)
        go true = moves_gives More k (Success (held ++ t ∷ []) style.names true) (at_next rs c (λ d xs. f d [] xs)) (at_next (rs ++ Next d ∷ []) c (λ d xs. f d [] xs)) (next_next P rs c (λ d xs. f d [] xs) w (λ c v. fr c [] v) (λ c qs v. ih c [] qs v))
        go false = ih c (held ++ t ∷ []) rs w
    next_step f P fr ih k (stop.Output t) c held rs w = moves_gives More k (Output t) (f c held rs) (f c held (rs ++ Next d ∷ [])) (ih c held rs w)
    next_step f P fr ih k (stop.Prompt t) c held rs w =
        chunk_next (λ n. at_reply n P) held k c rs (λ d qs. gives k (Prompt t) (at_respond qs (λ xs. f d [] xs))) w (λ c v. (omega arith, refl))
        (λ c qs v. moves_gives More k (Prompt t) (at_respond qs (λ xs. f c [] xs)) (at_respond (qs ++ Next d ∷ []) (λ xs. f c [] xs)) (respond_next P qs (λ xs. f c [] xs) v (λ xs y. ih c [] xs y)))
    next_step f P fr ih k stop.NoMore c [] rs w = λ u s. cc
    next_step f P fr ih k stop.NoMore c (t ∷ ts) rs w = λ u s. cc
    next_step f P fr ih k (stop.Ball b) c held rs w = chunk_next (λ n. Unit {0}) held k c rs (λ d qs. gives k (Error b) (rests Over qs)) tt (λ c v. (omega arith, refl)) (λ c qs v u s. cc)
    next_step f P fr ih k stop.Limit c held rs w = chunk_next (λ n. Unit {0}) held k c rs (λ d qs. gives k Limit (rests Over qs)) tt (λ c v. (omega arith, refl)) (λ c qs v u s. cc)
    next_step f P fr ih k (stop.Outside i) c held rs w = absurd w

    pub next_moves : (ps : List (ℕ × Stop)) (c : ℕ) (held : List Tree) (rs : List Request) → HasEnd ⊥ ps (count rs) → Moves More (part_of style ps c held rs) (part_of style ps c held (rs ++ Next d ∷ []))
    unfolding part_of HasEnd
    next_moves [] c held rs w = absurd w
    next_moves (p ∷ ps) c held rs w = next_step (part_of style ps) (HasEnd ⊥ ps) (λ c held v. fresh ps 0 v c held) (next_moves ps) p.0 p.1 c held rs w

  -- A respond where a prompt is there: the stops go on

  module _ (a : Tree) where
    next_resp : (P Q : ℕ → Type 0) (rs : List Request) (c : ℕ) (go go' : ℕ → List Request → Part) → P (count rs) → Q (suc (count rs)) → ((c : ℕ) (qs : List Request) → P (count qs) → Q (suc (count qs)) → Moves Prompting (go c qs) (go' c (qs ++ Respond a ∷ []))) → Moves Prompting (at_next rs c go) (at_next (rs ++ Respond a ∷ []) c go')
    next_resp P Q [] c go go' w v m u s = cc
    next_resp P Q (Next None ∷ rs) c go go' w v m u s = m c rs w v u s
    next_resp P Q (Next (Some n) ∷ rs) c go go' w v m u s = m n rs w v u s
    next_resp P Q (Respond t ∷ rs) c go go' w v m u s = cc
    next_resp P Q (Ask x ∷ rs) c go go' w v m u s = cc
    next_resp P Q (Stops ∷ rs) c go go' w v m u s = cc

    resp_resp : (P Q : ℕ → Type 0) (rs : List Request) (go go' : List Request → Part) → at_reply (count rs) P → Q (count rs) → (Q 0 → Fresh (go' [])) → ((qs : List Request) → P (count qs) → Q (suc (count qs)) → Moves Prompting (go qs) (go' (qs ++ Respond a ∷ []))) → Moves Prompting (at_respond rs go) (at_respond (rs ++ Respond a ∷ []) go')
    resp_resp P Q [] go go' w v f m u s = f v
    resp_resp P Q (Next c ∷ rs) go go' w v f m u s = cc
    resp_resp P Q (Ask x ∷ rs) go go' w v f m u s = cc
    resp_resp P Q (Stops ∷ rs) go go' w v f m u s = cc
    resp_resp P Q (Respond t ∷ rs) go go' w v f m u s = m rs w v u s

    chunk_resp : (P Q : ℕ → Type 0) (held : List Tree) (k c : ℕ) (rs : List Request) (go go' : ℕ → List Request → Part) → P (count rs) → Q (suc (count rs)) → ((c : ℕ) (qs : List Request) → P (count qs) → Q (suc (count qs)) → Moves Prompting (go c qs) (go' c (qs ++ Respond a ∷ []))) → Moves Prompting (after_chunk style.names held k c rs go) (after_chunk style.names held k c (rs ++ Respond a ∷ []) go')
    chunk_resp P Q [] k c rs go go' w v m = m c rs w v
    chunk_resp P Q (t ∷ ts) k c rs go go' w v m = moves_gives Prompting k (Success (t ∷ ts) style.names true) (at_next rs c go) (at_next (rs ++ Respond a ∷ []) c go') (next_resp P Q rs c go go' w v m)

    resp_step : (f f' : ℕ → List Tree → List Request → Part) (P Q : ℕ → Type 0) → ((c : ℕ) (held : List Tree) → Q 0 → Fresh (f' c held [])) → ((c : ℕ) (held : List Tree) (rs : List Request) → P (count rs) → Q (suc (count rs)) → Moves Prompting (f c held rs) (f' c held (rs ++ Respond a ∷ []))) →
        (k : ℕ) (s : Stop) (c : ℕ) (held : List Tree) (rs : List Request) → AfterStop ⊥ s (count rs) P → AfterStop ⊥ s (suc (count rs)) Q → Moves Prompting (part_step style f k s c held rs) (part_step style f' k s c held (rs ++ Respond a ∷ []))
    unfolding part_step
    resp_step f f' P Q fr ih k (stop.Found t false) c held rs w v = λ u s. cc
    resp_step f f' P Q fr ih k (stop.Found t true) c held rs w v = go (is_full style.size c (held ++ t ∷ []))
      where
        res : (ℕ → List Tree → List Request → Part) → List Request → Bool → Part
        res g qs b = elim b as (λ y. Part) [ true ↦ gives k (Success (held ++ t ∷ []) style.names true) (at_next qs c (λ d xs. g d [] xs)) | false ↦ g c (held ++ t ∷ []) qs ]

        go : (b : Bool) → Moves Prompting (res f rs b) (res f' (rs ++ Respond a ∷ []) b)
        go true = moves_gives Prompting k (Success (held ++ t ∷ []) style.names true) (at_next rs c (λ d xs. f d [] xs)) (at_next (rs ++ Respond a ∷ []) c (λ d xs. f' d [] xs)) (next_resp P Q rs c (λ d xs. f d [] xs) (λ d xs. f' d [] xs) w v (λ c qs x y. ih c [] qs x y))
        go false = ih c (held ++ t ∷ []) rs w v
    resp_step f f' P Q fr ih k (stop.Output t) c held rs w v = moves_gives Prompting k (Output t) (f c held rs) (f' c held (rs ++ Respond a ∷ [])) (ih c held rs w v)
    resp_step f f' P Q fr ih k (stop.Prompt t) c held rs w v =
        chunk_resp (λ n. at_reply n P) (λ n. at_reply n Q) held k c rs (λ d qs. gives k (Prompt t) (at_respond qs (λ xs. f d [] xs))) (λ d qs. gives k (Prompt t) (at_respond qs (λ xs. f' d [] xs))) w v
        (λ c qs x y. moves_gives Prompting k (Prompt t) (at_respond qs (λ xs. f c [] xs)) (at_respond (qs ++ Respond a ∷ []) (λ xs. f' c [] xs)) (resp_resp P Q qs (λ xs. f c [] xs) (λ xs. f' c [] xs) x y (λ z. fr c [] z) (λ xs i j. ih c [] xs i j)))
    resp_step f f' P Q fr ih k stop.NoMore c [] rs w v = λ u s. cc
    resp_step f f' P Q fr ih k stop.NoMore c (t ∷ ts) rs w v = λ u s. cc
    resp_step f f' P Q fr ih k (stop.Ball b) c held rs w v = chunk_resp (λ n. Unit {0}) (λ n. Unit {0}) held k c rs (λ d qs. gives k (Error b) (rests Over qs)) (λ d qs. gives k (Error b) (rests Over qs)) tt tt (λ c qs x y u s. cc)
    resp_step f f' P Q fr ih k stop.Limit c held rs w v = chunk_resp (λ n. Unit {0}) (λ n. Unit {0}) held k c rs (λ d qs. gives k Limit (rests Over qs)) (λ d qs. gives k Limit (rests Over qs)) tt tt (λ c qs x y u s. cc)
    resp_step f f' P Q fr ih k (stop.Outside x) c held rs w v = absurd w

    pub resp_moves : (ps qs : List (ℕ × Stop)) (c : ℕ) (held : List Tree) (rs : List Request) → HasEnd ⊥ ps (count rs) → HasEnd ⊥ (ps ++ qs) (suc (count rs)) → Moves Prompting (part_of style ps c held rs) (part_of style (ps ++ qs) c held (rs ++ Respond a ∷ []))
    unfolding part_of HasEnd
    resp_moves [] qs c held rs w v = absurd w
    resp_moves (p ∷ ps) qs c held rs w v = resp_step (part_of style ps) (part_of style (ps ++ qs)) (HasEnd ⊥ ps) (HasEnd ⊥ (ps ++ qs)) (λ c held z. fresh (ps ++ qs) 0 z c held) (resp_moves ps qs) p.0 p.1 c held rs w v
