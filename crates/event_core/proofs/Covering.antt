-- What was read of the first stops of a query is the part of all its stops, as far as these go.
use Rattle.std.proofs.Common.{◌≡◌, ℕ, ◌+◌, ◌≤◌, ◌<◌, Bool, true, false, List, [], ◌∷◌, ◌++◌, length, Option, Some, None, refl, ap, sym, subst, ◌∙◌, append-nil, length-append, arith}
use Rattle.std.specs.List.{All}
use Rattle.std.specs.Option.{MatchOption}
use Rattle.std.proofs.lemmas.List.Elements.{All-from_recursion, recursion_from_All}
use Rattle.term_core.specs.Tree.{Tree}
use Rattle.event_core.specs.declared.stop.Stop.{Stop}
use Rattle.event_core.specs.declared.stop.Stop.TheVariants as stop
use Rattle.event_core.specs.declared.event.Event.{Event}
use Rattle.event_core.specs.declared.request.Request.{Request}
use Rattle.event_core.specs.declared.rest.Rest.{Rest}
use Rattle.event_core.specs.declared.rest.Rest.TheVariants.{Prompting}
use Rattle.event_core.specs.declared.reader.Stand.TheVariants.{Reading}
use Rattle.event_core.specs.declared.reader.Reader.{Reader}
use Rattle.event_core.specs.Parts.{Part, part_of, replies}
use Rattle.event_core.specs.Endings.{AfterStop, HasEnd}
use Rattle.event_core.specs.Reaching.{IsBegun, IsWhole, ReadsOn, rest_behind}
use Rattle.event_core.specs.Readers.{style_with, ahead, tells}
use Rattle.event_core.proofs.Coming.{stops_tell, lengthens_too}
use Rattle.event_core.proofs.Keeping.{events_each, each_first}
use Rattle.event_core.proofs.Reaching.{Each}
use Rattle.event_core.proofs.Readers.{tells_none}

abbrev Stops : Type 0
Stops = List (ℕ × Stop)

abbrev Steps : Type 0
Steps = List (ℕ × Event)

one_ends : (k : ℕ) (s : Stop) → AfterStop ⊥ s 0 (HasEnd ⊥ []) → HasEnd ⊥ ((k, s) ∷ []) 0
unfolding HasEnd
one_ends k s h = h

module _ (ns : Option (List (List ℕ))) (ps : Stops) (c : ℕ) (rs : List Request) where
  abbrev pub part_with : Stops → Part
  part_with qs = part_of (style_with ns) qs c [] rs

  -- what was read, and where the query rests
  abbrev pub Read : Steps → Option Rest → Type 0
  Read es rest = ReadsOn es rest ns (λ qs. part_with (ps ++ qs))

  nothing : (d : ℕ) (held : List Tree) (qs : List Request) → part_of (style_with ns) [] d held qs ≡ record { events = []; rest = Prompting; unread = qs }
  unfolding part_of
  nothing d held qs = refl

  is_whole : (p : Part) (es : Steps) (x : Rest) (qs : List Request) → p ≡ record { events = es; rest = x; unread = qs } → IsWhole p es x
  is_whole p es x qs e = record { events = sym (ap (λ (y : Part). y.events) e); rest = sym (ap (λ (y : Part). y.rest) e) }

  at_rest : (es : Steps) (x : Rest) → Read es (Some x) → (qs : Stops) → IsWhole (part_with (ps ++ qs)) es x
  at_rest es x h qs = is_whole (part_with (ps ++ qs)) es x h.0 (h.1 qs)

  at_end : (es : Steps) → Read es None → IsWhole (part_with ps) es Prompting
  at_end es h = is_whole (part_with ps) es Prompting h.2 (ap part_with (sym (append-nil ps)) ∙ h.3 [] ∙ ap (tells es) (nothing h.0 h.1 h.2) ∙ tells_none es Prompting h.2)

  begun : (es : Steps) → Read es None → (n : ℕ) (all : Stops) → IsBegun n ps all → IsBegun n es (part_with all).events
  begun es h n all b = record {
    further = (part_of (style_with ns) b.further h.0 h.1 h.2).events;
    are = ap (λ l. (part_with l).events) b.are ∙ ap (λ (p : Part). p.events) (h.3 b.further);
    later = All-from_recursion (λ e. n ≤ e.0) (part_of (style_with ns) b.further h.0 h.1 h.2).events
        (events_each (λ k. n ≤ k) (style_with ns) b.further (recursion_from_All (λ s. n ≤ s.0) b.further b.later) h.0 h.1 h.2);
  }

  -- where the stops end otherwise than outside, an event is left
  event_left : (es : Steps) → Read es None → (qs : Stops) → HasEnd ⊥ (ps ++ qs) (length (replies rs)) → length es < length (part_with (ps ++ qs)).events
  event_left es h qs w =
      let some : Stops = (0, stop.NoMore) ∷ [] in
      let behind : (xs : Stops) → length (part_with (ps ++ xs)).events ≡ length es + length (part_of (style_with ns) xs h.0 h.1 h.2).events =
      (λ xs. ap (λ (p : Part). length p.events) (h.3 xs) ∙ length-append es _) in
      let known : length (part_with ps).events ≡ length es + 0 =
      ap (λ l. length (part_with l).events) (sym (append-nil ps)) ∙ behind [] ∙ ap (λ (p : Part). length es + length p.events) (nothing h.0 h.1 h.2) in
      let more : 0 < length (part_of (style_with ns) some h.0 h.1 h.2).events = stops_tell (style_with ns) some 0 (one_ends 0 stop.NoMore tt) h.0 h.1 h.2 in
      let l : length (part_with ps).events < length (part_with (ps ++ some)).events = omega (arith, known, behind some, more) in
      let g : length (part_with ps).events < length (part_with (ps ++ qs)).events = lengthens_too (style_with ns) ps some qs c [] rs w l in
      omega (arith, known, g)

  told : (es : Steps) (rest : Option Rest) → Read es rest → (more : Steps) × ((part_with (ps ++ [])).events ≡ es ++ more)
  told es (Some x) h = ([], ap (λ (p : Part). p.events) (h.1 []) ∙ sym (append-nil es))
  told es None h = ((part_of (style_with ns) [] h.0 h.1 h.2).events, ap (λ (p : Part). p.events) (h.3 []))

  pub in_time : (es : Steps) (rest : Option Rest) → Read es rest → (n : ℕ) → All (λ s. s.0 ≤ n) ps → All (λ e. e.0 ≤ n) es
  in_time es rest h n w =
      let t : (more : Steps) × ((part_with (ps ++ [])).events ≡ es ++ more) = told es rest h in
      let each : Each (λ k. k ≤ n) (part_with (ps ++ [])).events =
      events_each (λ k. k ≤ n) (style_with ns) (ps ++ []) (subst (Each (λ k. k ≤ n)) (sym (append-nil ps)) (recursion_from_All (λ s. s.0 ≤ n) ps w)) c [] rs in
      All-from_recursion (λ e. e.0 ≤ n) es (each_first (λ k. k ≤ n) es t.0 (subst (Each (λ k. k ≤ n)) t.1 each))

  -- What was read is all of the part, or begins it where the query goes on behind these stops.
  module _ (all : Stops) (goes_on : Bool) (steps : ℕ) (ended : goes_on ≡ false → ps ≡ all) (more : goes_on ≡ true → IsBegun steps ps all) where
    pub reached : (es : Steps) (rest : Option Rest) → Read es rest → (limit : ℕ) → (goes_on ≡ true → steps < limit) →
        MatchOption (rest_behind rest goes_on) ((steps < limit) × IsBegun steps es (part_with all).events) (λ x. IsWhole (part_with all) es x)
    reached es rest h limit fewer = by rest goes_on h refl
      where
        by : (r : Option Rest) (b : Bool) → Read es r → goes_on ≡ b → MatchOption (rest_behind r b) ((steps < limit) × IsBegun steps es (part_with all).events) (λ x. IsWhole (part_with all) es x)
        by (Some x) true k e = subst (λ l. IsWhole (part_with l) es x) (sym (more e).are) (at_rest es x k (more e).further)
        by (Some x) false k e = subst (λ l. IsWhole (part_with l) es x) (append-nil ps ∙ ended e) (at_rest es x k [])
        by None true k e = (fewer e, begun es k steps all (more e))
        by None false k e = subst (λ l. IsWhole (part_with l) es Prompting) (ended e) (at_end es k)

    pub left_to_come : (es : Steps) (rest : Option Rest) → Read es rest → HasEnd ⊥ all (length (replies rs)) → rest_behind rest goes_on ≡ None → length es < length (part_with all).events
    left_to_come es rest h w n = by rest goes_on h refl n
      where
        by : (r : Option Rest) (b : Bool) → Read es r → goes_on ≡ b → rest_behind r b ≡ None → length es < length (part_with all).events
        by (Some x) b k e m = cc
        by None false k e m = cc
        by None true k e m =
            subst (λ l. length es < length (part_with l).events) (sym (more e).are)
            (event_left es k (more e).further (subst (λ l. HasEnd ⊥ l (length (replies rs))) (more e).are w))

-- by a reader before its first stop
pub read_from_start : (r : Reader) (ps : Stops) (rs : List Request) (es : Steps) (rest : Option Rest) (ns ms : Option (List (List ℕ))) (c : ℕ) → r ≡ record { chunk = c; names = ns; stand = Reading [] } → ns ≡ ms →
    ReadsOn es rest r.names (λ qs. ahead r (ps ++ qs) rs) → Read ms ps c rs es rest
read_from_start r ps rs es rest ns ms c e n h =
    subst (λ l. Read l ps c rs es rest) n (subst (λ (x : Reader). ReadsOn es rest x.names (λ qs. ahead x (ps ++ qs) rs)) e h)
