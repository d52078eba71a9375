-- What a reader of stops gives is the part of what it reads.
use Rattle.std.proofs.Common.{◌≡◌, ℕ, Bool, true, false, List, [], ◌∷◌, ◌++◌, Option, Some, None, is_some, unwrap_or, refl, ap, sym, ◌∙◌, append_assoc, append-nil}
use Rattle.term_core.specs.Tree.{Tree}
use Rattle.event_core.specs.declared.stop.Stop.{Stop}
use Rattle.event_core.specs.declared.stop.Stop.TheVariants as stop
use Rattle.event_core.specs.declared.event.Event.{Event}
use Rattle.event_core.specs.declared.event.Event.TheVariants.{Success}
use Rattle.event_core.specs.declared.reader.Stand.{Stand}
use Rattle.event_core.specs.declared.reader.Stand.TheVariants.{Reading, Paused, Waiting, Done}
use Rattle.event_core.specs.declared.reader.Moved.{Moved}
use Rattle.event_core.specs.declared.reader.Reader.{Reader}
use Rattle.event_core.specs.declared.request.Request.{Request}
use Rattle.event_core.specs.declared.request.Request.TheVariants.{Ask, Next, Stop as Stops, Respond}
use Rattle.event_core.specs.declared.rest.Rest.{Rest}
use Rattle.event_core.specs.declared.rest.Rest.TheVariants.{Over}
use Rattle.event_core.specs.Requests.{chunk_after}
use Rattle.event_core.specs.Parts.{Part, Style, gives, at_next, is_full, part_of, part_step}
use Rattle.event_core.specs.Reaching.{ReadsOn}
use Rattle.event_core.specs.Readers.{moves, after_stop, after_fitting, rest_of, rest_at_end, is_fitting, resumes, ahead_at, style_with, ahead, tells, listed, HasGiven, RestsAsThePart}

abbrev StopList : Type 0
StopList = List (ℕ × Stop)

abbrev Steps : Type 0
Steps = List (ℕ × Event)

-- where a reader stands, and the event before
abbrev behind : Style → (c : ℕ) → Moved → StopList → List Request → Part
behind style c m ps rs = tells (listed m.event) (ahead_at style m.stand c ps rs)

module _ (style : Style) where
  pub stop_reads : (ps : StopList) (c k : ℕ) (s : Stop) (held : List Tree) (rs : List Request) → part_step style (part_of style ps) k s c held rs ≡ behind style c (after_stop style c k s held) ps rs
  unfolding part_step part_of
  stop_reads ps c k (stop.Found t false) held rs = refl
  stop_reads ps c k (stop.Found t true) held rs = at (is_full style.size c (held ++ t ∷ []))
    where
      at : (b : Bool) →
          (elim b as (λ y. Part) [ true ↦ gives k (Success (held ++ t ∷ []) style.names true) (at_next rs c (λ d qs. part_of style ps d [] qs)) | false ↦ part_of style ps c (held ++ t ∷ []) rs ])
          ≡ behind style c (elim b as (λ y. Moved) [ true ↦ moves (Paused None) (Some (k, Success (held ++ t ∷ []) style.names true)) | false ↦ moves (Reading (held ++ t ∷ [])) None ]) ps rs
      at true = refl
      at false = refl
  stop_reads ps c k (stop.Output t) held rs = refl
  stop_reads ps c k (stop.Prompt t) [] rs = refl
  stop_reads ps c k (stop.Prompt t) (u ∷ us) rs = refl
  stop_reads ps c k stop.NoMore [] rs = refl
  stop_reads ps c k stop.NoMore (u ∷ us) rs = refl
  stop_reads ps c k (stop.Ball b) [] rs = refl
  stop_reads ps c k (stop.Ball b) (u ∷ us) rs = refl
  stop_reads ps c k stop.Limit [] rs = refl
  stop_reads ps c k stop.Limit (u ∷ us) rs = refl
  stop_reads ps c k (stop.Outside i) held rs = refl

  pub fitting_reads : (ps : StopList) (c : ℕ) (s : Stand) (r : Request) → is_fitting s r ≡ true → (rs : List Request) →
      ahead_at style s c ps (r ∷ rs) ≡ behind style (chunk_after r c) (after_fitting style (chunk_after r c) s) ps rs
  unfolding part_of
  fitting_reads ps c (Reading held) r e rs = cc
  fitting_reads ps c (Paused None) (Next None) e rs = refl
  fitting_reads ps c (Paused None) (Next (Some d)) e rs = refl
  fitting_reads ps c (Paused None) (Ask a) e rs = cc
  fitting_reads ps c (Paused None) Stops e rs = cc
  fitting_reads ps c (Paused None) (Respond t) e rs = cc
  fitting_reads ps c (Paused (Some p)) (Next None) e rs = stop_reads ps c p.0 p.1 [] rs
  fitting_reads ps c (Paused (Some p)) (Next (Some d)) e rs = stop_reads ps d p.0 p.1 [] rs
  fitting_reads ps c (Paused (Some p)) (Ask a) e rs = cc
  fitting_reads ps c (Paused (Some p)) Stops e rs = cc
  fitting_reads ps c (Paused (Some p)) (Respond t) e rs = cc
  fitting_reads ps c Waiting (Respond t) e rs = refl
  fitting_reads ps c Waiting (Ask a) e rs = cc
  fitting_reads ps c Waiting Stops e rs = cc
  fitting_reads ps c Waiting (Next d) e rs = cc
  fitting_reads ps c Done (Respond t) e rs = cc
  fitting_reads ps c Done (Ask a) e rs = cc
  fitting_reads ps c Done Stops e rs = cc
  fitting_reads ps c Done (Next d) e rs = cc

  -- a reader that rests gives nothing where the next request doesn't fit
  abbrev quiet : Stand → List Request → Part
  quiet s rs = record { events = []; rest = unwrap_or (rest_of s) Over; unread = rs }

  stays : (ps : StopList) (c : ℕ) (s : Stand) → is_some (rest_of s) ≡ true → (rs : List Request) → resumes s rs ≡ false → ahead_at style s c ps rs ≡ quiet s rs
  stays ps c (Reading held) e rs f = cc
  stays ps c (Paused None) e [] f = refl
  stays ps c (Paused None) e (Next d ∷ rs) f = cc
  stays ps c (Paused None) e (Ask a ∷ rs) f = refl
  stays ps c (Paused None) e (Stops ∷ rs) f = refl
  stays ps c (Paused None) e (Respond t ∷ rs) f = refl
  stays ps c (Paused (Some p)) e [] f = refl
  stays ps c (Paused (Some p)) e (Next d ∷ rs) f = cc
  stays ps c (Paused (Some p)) e (Ask a ∷ rs) f = refl
  stays ps c (Paused (Some p)) e (Stops ∷ rs) f = refl
  stays ps c (Paused (Some p)) e (Respond t ∷ rs) f = refl
  stays ps c Waiting e [] f = refl
  stays ps c Waiting e (Respond t ∷ rs) f = cc
  stays ps c Waiting e (Ask a ∷ rs) f = refl
  stays ps c Waiting e (Stops ∷ rs) f = refl
  stays ps c Waiting e (Next d ∷ rs) f = refl
  stays ps c Done e rs f = refl

  pub resting : (ps : StopList) (c : ℕ) (s : Stand) (x : Rest) → rest_of s ≡ Some x → (rs : List Request) → resumes s rs ≡ false → ahead_at style s c ps rs ≡ record { events = []; rest = x; unread = rs }
  resting ps c s x e rs f =
      stays ps c s (ap is_some e) rs f
      ∙ ap (λ (o : Option Rest). let p : Part = record { events = []; rest = unwrap_or o Over; unread = rs } in p) e

pub tells_twice : (es fs : Steps) (p : Part) → tells es (tells fs p) ≡ tells (es ++ fs) p
tells_twice es fs p = ap (λ (l : Steps). let q : Part = record p { events = l } in q) (sym (append_assoc es fs p.events))

-- with the event that comes, if one comes, behind the others
pub tells_more : (old new : Steps) (p q : Part) (e : Option (ℕ × Event)) → p ≡ tells (listed e) q → new ≡ old ++ listed e → tells old p ≡ tells new q
tells_more old new p q e h k = ap (tells old) h ∙ tells_twice old (listed e) q ∙ ap (λ es. tells es q) (sym k)

pub tells_none : (es : Steps) (x : Rest) (rs : List Request) → tells es (record { events = []; rest = x; unread = rs }) ≡ record { events = es; rest = x; unread = rs }
tells_none es x rs = ap (λ (l : Steps). let q : Part = record { events = l; rest = x; unread = rs } in q) (append-nil es)

is_reading : (s : Stand) → rest_of s ≡ None → (held : List Tree) × (s ≡ Reading held)
is_reading (Reading held) e = (held, refl)
is_reading (Paused p) e = cc
is_reading Waiting e = cc
is_reading Done e = cc

-- What was read, where no request goes on: at a rest the stops that are left don't matter, and otherwise none are left.
pub reads_on : (es : Steps) (r : Reader) (ps : StopList) (left : List Request) (T : StopList → Part) → ((qs : StopList) → T qs ≡ tells es (ahead r (ps ++ qs) left)) → resumes r.stand left ≡ false →
    (rest : Option Rest) → rest_of r.stand ≡ rest → (rest ≡ None → ps ≡ []) → (ns : Option (List (List ℕ))) → r.names ≡ ns → ReadsOn es rest ns T
reads_on es r ps left T h f (Some x) e n ns same =
    (left, λ qs. h qs ∙ ap (tells es) (resting (style_with r.names) (ps ++ qs) r.chunk r.stand x e left f) ∙ tells_none es x left)
reads_on es r ps left T h f None e n ns same =
    let s : (held : List Tree) × (r.stand ≡ Reading held) = is_reading r.stand e in (
      r.chunk,
      s.0,
      left,
      λ qs.
          h qs
          ∙ ap (λ l. tells es (ahead r (l ++ qs) left)) (n refl)
          ∙ ap (λ x. tells es (ahead_at (style_with r.names) x r.chunk qs left)) s.1
          ∙ ap (λ y. tells es (part_of (style_with y) qs r.chunk s.0 left)) same,
    )

-- ---- one stop, one request

-- a reader that reads on, after one stop more
pub read_brings : (old new : Reader) (held : List Tree) → old.stand ≡ Reading held → (k : ℕ) (s : Stop) (m : Moved) → m ≡ after_stop (style_with old.names) old.chunk k s held →
    new ≡ record { chunk = old.chunk; names = old.names; stand = m.stand } → (qs : StopList) (rs : List Request) → ahead old ((k, s) ∷ qs) rs ≡ tells (listed m.event) (ahead new qs rs)
unfolding part_of
read_brings old new held e k s m is becomes qs rs =
    ap (λ x. ahead_at (style_with old.names) x old.chunk ((k, s) ∷ qs) rs) e
    ∙ stop_reads (style_with old.names) qs old.chunk k s held rs
    ∙ ap (λ x. behind (style_with old.names) old.chunk x qs rs) (sym is)
    ∙ ap (λ y. tells (listed m.event) (ahead y qs rs)) (sym becomes)

-- a reader that rests, after a request that fits
pub resume_brings : (old new : Reader) (r : Request) → is_fitting old.stand r ≡ true → (c : ℕ) → c ≡ chunk_after r old.chunk → (s : Stand) → s ≡ old.stand → (m : Moved) → m ≡ after_fitting (style_with old.names) c s →
    new ≡ record { chunk = c; names = old.names; stand = m.stand } → (qs : StopList) (rs : List Request) → ahead old qs (r ∷ rs) ≡ tells (listed m.event) (ahead new qs rs)
resume_brings old new r fits c chunk s stand m is becomes qs rs =
    fitting_reads (style_with old.names) qs old.chunk old.stand r fits rs
    ∙ ap (λ k. behind (style_with old.names) k (after_fitting (style_with old.names) k old.stand) qs rs) (sym chunk)
    ∙ ap (λ x. behind (style_with old.names) c (after_fitting (style_with old.names) c x) qs rs) (sym stand)
    ∙ ap (λ x. behind (style_with old.names) c x qs rs) (sym is)
    ∙ ap (λ y. tells (listed m.event) (ahead y qs rs)) (sym becomes)

-- ---- over prefixes

module _ (ns : Option (List (List ℕ))) (c : ℕ) (ps : StopList) (rs : List Request) (es fs : Steps) (old new : Reader) (h : HasGiven ns c ps rs es old) (same : new.names ≡ old.names) where
  pub stop_given : (p : ℕ × Stop) → ((qs : StopList) (more : List Request) → ahead old (p ∷ qs) more ≡ tells fs (ahead new qs more)) → HasGiven ns c (ps ++ p ∷ []) rs (es ++ fs) new
  stop_given p brings = record {
    same_names = same ∙ h.same_names;
    part = λ qs more.
        ap (λ l. part_of (style_with ns) l c [] (rs ++ more)) (append_assoc ps (p ∷ []) qs)
        ∙ h.part (p ∷ qs) more
        ∙ ap (tells es) (brings qs more)
        ∙ tells_twice es fs (ahead new qs more);
  }

  pub request_given : (r : Request) → ((qs : StopList) (more : List Request) → ahead old qs (r ∷ more) ≡ tells fs (ahead new qs more)) → HasGiven ns c ps (rs ++ r ∷ []) (es ++ fs) new
  request_given r brings = record {
    same_names = same ∙ h.same_names;
    part = λ qs more.
        ap (λ l. part_of (style_with ns) (ps ++ qs) c [] l) (append_assoc rs (r ∷ []) more)
        ∙ h.part qs (r ∷ more)
        ∙ ap (tells es) (brings qs more)
        ∙ tells_twice es fs (ahead new qs more);
  }

-- ---- all stops

nothing_ahead : (style : Style) (c : ℕ) (s : Stand) → ahead_at style s c [] [] ≡ record { events = []; rest = rest_at_end s; unread = [] }
unfolding part_of
nothing_ahead style c (Reading held) = refl
nothing_ahead style c (Paused None) = refl
nothing_ahead style c (Paused (Some p)) = refl
nothing_ahead style c Waiting = refl
nothing_ahead style c Done = refl

pub rests_as_the_part : RestsAsThePart
rests_as_the_part ns c ps rs es r h =
    ap (λ l. part_of (style_with ns) l c [] rs) (sym (append-nil ps))
    ∙ ap (λ l. part_of (style_with ns) (ps ++ []) c [] l) (sym (append-nil rs))
    ∙ h.part [] []
    ∙ ap (tells es) (nothing_ahead (style_with r.names) r.chunk r.stand)
    ∙ tells_none es (rest_at_end r.stand) []

-- before the first stop
pub starts_reading : (ns : Option (List (List ℕ))) (c : ℕ) (r : Reader) → r ≡ record { chunk = c; names = ns; stand = Reading [] } → HasGiven ns c [] [] [] r
starts_reading ns c r e = record { same_names = ap (λ (x : Reader). x.names) e; part = λ qs more. ap (λ x. tells [] (ahead x qs more)) (sym e) }
