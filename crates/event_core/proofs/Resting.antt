-- A query that rests has given all its events.
use Rattle.std.proofs.Common.{◌≡◌, ℕ, Bool, true, false, List, [], ◌++◌, map, length, take, drop, refl, ap, sym, ◌∙◌, append-nil}
use Rattle.std.proofs.Math.Seq.{take-length, drop-append_seam}
use Rattle.std.proofs.lemmas.List.{drop-map, length-map}
use Rattle.event_core.specs.declared.event.Event.{Event}
use Rattle.event_core.specs.declared.rest.Rest.{Rest}
use Rattle.event_core.specs.declared.rest.Rest.TheVariants.{More, Prompting, Over}
use Rattle.event_core.specs.Full.{Spec, Query, part_of, events_of, span, Place, Free, In, Closed, at, closes, comes_to, gives_all_at, gives_all}

abbrev pub told : List (ℕ × Event) → List Event
told es = map (λ x. x.1) es

-- the events behind the first g
pub told-span : (xs : List (ℕ × Event)) (old new : List Event) (g : ℕ) → told xs ≡ old ++ new → g ≡ length old → told (drop g (take (length xs) xs)) ≡ new
told-span xs old new g h e =
    ap (λ l. told (drop g l)) (take-length xs)
    ∙ sym (drop-map (λ x. x.1) g xs)
    ∙ ap (λ l. drop g l) h
    ∙ ap (λ n. drop n (old ++ new)) e
    ∙ drop-append_seam old new

module _ (spec : Spec) where
  pub none_left : (q : Query) → span spec q (length (events_of spec q)) (length (events_of spec q)) ≡ []
  none_left q = told-span (events_of spec q) (told (events_of spec q)) [] (length (events_of spec q)) (sym (append-nil _)) (sym (length-map (events_of spec q) (λ y. y.1)))

  pub closes_rests : (b : Bool) (es : List Event) → gives_all spec (closes b es) ≡ closes b es
  closes_rests true es = refl
  closes_rests false es = refl

  comes_to_rests : (q : Query) (r : Rest) → (part_of spec q).rest ≡ r → (es : List Event) → gives_all spec (comes_to spec q r es) ≡ comes_to spec q r es
  comes_to_rests q More e es =
      ap (λ r. comes_to spec q r (es ++ span spec q (length (events_of spec q)) (length (events_of spec q)))) e
      ∙ ap (λ l. at (In q (length (events_of spec q))) l) (ap (λ l. es ++ l) (none_left q) ∙ append-nil es)
  comes_to_rests q Prompting e es =
      ap (λ r. comes_to spec q r (es ++ span spec q (length (events_of spec q)) (length (events_of spec q)))) e
      ∙ ap (λ l. at (In q (length (events_of spec q))) l) (ap (λ l. es ++ l) (none_left q) ∙ append-nil es)
  comes_to_rests q Over e es = closes_rests spec.destroys es

  pub rests : (p : Place) (es : List Event) → gives_all spec (gives_all_at spec p es) ≡ gives_all_at spec p es
  rests Free es = refl
  rests (In q g) es = comes_to_rests q (part_of spec q).rest refl (es ++ span spec q g (length (events_of spec q)))
  rests Closed es = refl
