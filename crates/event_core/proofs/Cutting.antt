-- The stops of a trace, one at a time.
use Rattle.std.proofs.Common.{◌≡◌, ℕ, Bool, true, false, List, [], ◌∷◌, ◌++◌, if◌then◌else◌, refl, ap, sym, ◌∙◌, append_assoc}
use Rattle.term_core.specs.Tree.{Tree}
use Rattle.solve_model.specs.declared.answers.TraceMark.{TraceMark}
use Rattle.event_core.specs.declared.stop.Stop.{Stop}
use Rattle.event_core.specs.declared.stop.Stop.TheVariants as stop
use Rattle.event_core.specs.Stops.{mark_stop, is_followed, stops_of, resource_error, stop_fits, cut_at}

module _ (fits : Tree → Bool) where
  -- what stands for a stop
  abbrev pub told_stop : Bool → Stop → Stop
  told_stop b s = if b then s else stop.Ball resource_error

  cut_one : (b : Bool) (p : ℕ × Stop) (ps : List (ℕ × Stop)) → b ≡ stop_fits fits p.1 → cut_at fits (p ∷ ps) ≡ (elim b as (λ x. List (ℕ × Stop)) [ true ↦ p ∷ cut_at fits ps | false ↦ (p.0, stop.Ball resource_error) ∷ [] ])
  unfolding cut_at
  cut_one b p ps h = ap (λ x. elim x as (λ y. List (ℕ × Stop)) [ true ↦ p ∷ cut_at fits ps | false ↦ (p.0, stop.Ball resource_error) ∷ [] ]) (sym h)

  follow_one : (o : Bool) (m : ℕ × TraceMark) (ms : List (ℕ × TraceMark)) (e : List (ℕ × Stop)) → o ≡ is_followed m.1 → stops_of (m ∷ ms) e ≡ (m.0, mark_stop m.1) ∷ (elim o as (λ x. List (ℕ × Stop)) [ true ↦ stops_of ms e | false ↦ [] ])
  unfolding stops_of
  follow_one o m ms e h = ap (λ x. (m.0, mark_stop m.1) ∷ (elim x as (λ y. List (ℕ × Stop)) [ true ↦ stops_of ms e | false ↦ [] ])) (sym h)

  -- a mark after which the trace goes on
  marked : (before : List (ℕ × Stop)) (m : ℕ × TraceMark) (ms : List (ℕ × TraceMark)) (e : List (ℕ × Stop)) → stop_fits fits (mark_stop m.1) ≡ true → is_followed m.1 ≡ true →
      (before ++ (m.0, mark_stop m.1) ∷ []) ++ cut_at fits (stops_of ms e) ≡ before ++ cut_at fits (stops_of (m ∷ ms) e)
  marked before m ms e h g =
      append_assoc before ((m.0, mark_stop m.1) ∷ []) (cut_at fits (stops_of ms e))
      ∙ ap (λ l. before ++ l) (sym (cut_one true (m.0, mark_stop m.1) (stops_of ms e) (sym h)))
      ∙ ap (λ l. before ++ cut_at fits l) (sym (follow_one true m ms e (sym g)))

  -- the last mark: a stop that doesn't fit, or one that nothing follows
  marked_last : (b o : Bool) (before : List (ℕ × Stop)) (m : ℕ × TraceMark) (ms : List (ℕ × TraceMark)) (e : List (ℕ × Stop)) → b ≡ stop_fits fits (mark_stop m.1) → o ≡ is_followed m.1 → (b ≡ true → o ≡ false) →
      before ++ (m.0, told_stop b (mark_stop m.1)) ∷ [] ≡ before ++ cut_at fits (stops_of (m ∷ ms) e)
  unfolding cut_at
  marked_last true false before m ms e h g n =
      ap (λ l. before ++ l) (sym (cut_one true (m.0, mark_stop m.1) [] h)) ∙ ap (λ l. before ++ cut_at fits l) (sym (follow_one false m ms e g))
  marked_last true true before m ms e h g n = absurd (no (n refl))
    where
      no : true ≡ false → ⊥
      no p = cc
  marked_last false o before m ms e h g n =
      ap (λ l. before ++ l) (sym (cut_one false (m.0, mark_stop m.1) _ h)) ∙ ap (λ l. before ++ cut_at fits l) (sym (follow_one o m ms e g))

  module _ (before after : List (ℕ × Stop)) (k : ℕ) (mark : TraceMark) (told : Stop) (b : Bool) (told_is : told ≡ mark_stop mark) (b_is : b ≡ stop_fits fits told) (after_is : after ≡ before ++ (k, told_stop b told) ∷ []) (ms : List (ℕ × TraceMark)) (e : List (ℕ × Stop)) where
    pub goes_on : b ≡ true → is_followed mark ≡ true → after ++ cut_at fits (stops_of ms e) ≡ before ++ cut_at fits (stops_of ((k, mark) ∷ ms) e)
    goes_on y g =
        ap (λ l. l ++ cut_at fits (stops_of ms e)) (after_is ∙ ap (λ x. before ++ (k, told_stop x told) ∷ []) y ∙ ap (λ s. before ++ (k, s) ∷ []) told_is)
        ∙ marked before (k, mark) ms e (ap (stop_fits fits) (sym told_is) ∙ sym b_is ∙ y) g

    pub stays : (o : Bool) → o ≡ is_followed mark → (b ≡ true → o ≡ false) → after ≡ before ++ cut_at fits (stops_of ((k, mark) ∷ ms) e)
    stays o g n =
        after_is ∙ ap (λ s. before ++ (k, told_stop b s) ∷ []) told_is
        ∙ marked_last b o before (k, mark) ms e (b_is ∙ ap (stop_fits fits) told_is) g n

  -- the end's own stop
  pub ended : (b : Bool) (before : List (ℕ × Stop)) (k : ℕ) (s : Stop) → b ≡ stop_fits fits s → before ++ (k, told_stop b s) ∷ [] ≡ before ++ cut_at fits ((k, s) ∷ [])
  unfolding cut_at
  ended true before k s h = ap (λ l. before ++ l) (sym (cut_one true (k, s) [] h))
  ended false before k s h = ap (λ l. before ++ l) (sym (cut_one false (k, s) [] h))
