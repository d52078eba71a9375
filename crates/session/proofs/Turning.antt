-- What a turn cuts out of the events of its query is as a turn is to be.
use Rattle.std.proofs.Common.{◌≡◌, ℕ, zero, suc, ◌+◌, ◌-◌, ◌≤◌, ◌<◌, min, true, List, [], ◌∷◌, ◌++◌, length, take, drop, slice_get, Option, Some, None, All, refl, ap, sym, subst, ◌∙◌, append-nil, length-append, ◌⊎◌, inl, inr, arith}
use Rattle.std.specs.Prelude.{AllPairs}
use Rattle.std.specs.Option.{option_map}
use Rattle.std.proofs.lemmas.Bool.{cases_lt, cases_eq}
use Rattle.std.proofs.lemmas.List.{drop-take, drop-append-le, take-append-le, take_min, length-take, length-drop, drop_at}
use Rattle.std.proofs.lemmas.List.Elements.{All-head, All-tail, All-cons, All-nil, All-take, All-drop, All-weaker, All-from_get_or}
use Rattle.event_core.specs.declared.event.Event.{Event}
use Rattle.event_core.specs.Parts.{Part}
use Rattle.event_core.specs.Reaching.{IsBegun}
use Rattle.session.specs.Turns.{last_step, IsFull, Turned, Starving}
use Rattle.session.specs.TurnsKept.{ends_at}

-- ---- places in lists

module _ {A : Type 0} where
  get_take : (r : ℕ) (xs : List A) (k : ℕ) (y : A) → slice_get (take r xs) k ≡ Some y → slice_get xs k ≡ Some y
  get_take zero xs k y e = cc
  get_take (suc r) [] k y e = cc
  get_take (suc r) (x ∷ xs) zero y e = e
  get_take (suc r) (x ∷ xs) (suc k) y e = get_take r xs k y e

  get_drop : (e : ℕ) (xs : List A) (k : ℕ) (y : A) → slice_get (drop e xs) k ≡ Some y → slice_get xs (e + k) ≡ Some y
  get_drop zero xs k y h = let i : k ≡ 0 + k = omega arith in subst (λ (j : ℕ). slice_get xs j ≡ Some y) i h
  get_drop (suc e) [] k y h = cc
  get_drop (suc e) (x ∷ xs) k y h = let i : suc (e + k) ≡ suc e + k = omega arith in subst (λ (j : ℕ). slice_get (x ∷ xs) j ≡ Some y) i (get_drop e xs k y h)

  in_drop : (e : ℕ) (xs : List A) (k : ℕ) (y : A) → slice_get xs (e + k) ≡ Some y → slice_get (drop e xs) k ≡ Some y
  in_drop zero xs k y h = let i : 0 + k ≡ k = omega arith in subst (λ (j : ℕ). slice_get xs j ≡ Some y) i h
  in_drop (suc e) [] k y h = cc
  in_drop (suc e) (x ∷ xs) k y h = let i : suc e + k ≡ suc (e + k) = omega arith in in_drop e xs k y (subst (λ (j : ℕ). slice_get (x ∷ xs) j ≡ Some y) i h)

  pub get_append : (xs ys : List A) (k : ℕ) (y : A) → slice_get xs k ≡ Some y → slice_get (xs ++ ys) k ≡ Some y
  get_append [] ys k y e = cc
  get_append (x ∷ xs) ys zero y e = e
  get_append (x ∷ xs) ys (suc k) y e = get_append xs ys k y e

  get_some : (xs : List A) (k : ℕ) → k < length xs → (y : A) × (slice_get xs k ≡ Some y)
  get_some [] k l = absurd (omega (arith, l))
  get_some (x ∷ xs) zero l = (x, refl)
  get_some (x ∷ xs) (suc k) l = get_some xs k (omega (arith, l))

  all_at : (P : A → Type 0) (xs : List A) (i : ℕ) (y : A) → All P xs → slice_get xs i ≡ Some y → P y
  all_at P [] i y h e = cc
  all_at P (x ∷ xs) zero y h e = subst (λ (z : Option A). at z) e (All-head P x xs h)
    where
      at : Option A → Type 0
      at None = Unit {0}
      at (Some z) = P z
  all_at P (x ∷ xs) (suc i) y h e = all_at P xs i y (All-tail P x xs h) e

  -- what holds of the first e, which go past L, holds of the first one behind L
  holds_behind : (P : A → Type 0) (L : List A) (f : A) (fs : List A) (e : ℕ) → length L < e → All P (take e (L ++ f ∷ fs)) → P f
  holds_behind P [] f fs zero l h = absurd (omega (arith, l))
  holds_behind P [] f fs (suc e) l h = All-head P f (take e fs) h
  holds_behind P (x ∷ xs) f fs zero l h = absurd (omega (arith, l))
  holds_behind P (x ∷ xs) f fs (suc e) l h = holds_behind P xs f fs e (omega (arith, l)) (All-tail P x (take e (xs ++ f ∷ fs)) h)

  -- the events after the first e, and at most r of them, of those that were reached
  cut_is : (xs L F : List A) (e r : ℕ) → xs ≡ L ++ F → e ≤ length L → take r (drop e L) ≡ drop e (take (e + length (take r (drop e L))) xs)
  cut_is xs L F e r h l =
      let k : length (take r (drop e L)) ≡ min r (length (drop e L)) = length-take r (drop e L) in
      sym (drop-take e (length (take r (drop e L))) xs
      ∙ ap (λ z. take (length (take r (drop e L))) (drop e z)) h
      ∙ ap (λ z. take (length (take r (drop e L))) z) (drop-append-le e L F l)
      ∙ take-append-le (length (take r (drop e L))) (drop e L) F (omega (arith, k))
      ∙ ap (λ z. take z (drop e L)) k
      ∙ take_min r (drop e L))

-- ---- lists whose numbers never fall

abbrev pub Rises : {A : Type 0} → List (ℕ × A) → Type 0
Rises [] = Unit {0}
Rises (x ∷ xs) = All (λ y. x.0 ≤ y.0) xs × Rises xs

module _ {A : Type 0} where
  pub rises : (xs : List (ℕ × A)) → AllPairs (λ x y. x.0 ≤ y.0) xs → Rises xs
  rises [] h = tt
  rises (x ∷ xs) h = (
    All-from_get_or (λ y. x.0 ≤ y.0) xs x (λ i l. h 0 (suc i) x (omega arith) (omega (arith, l))),
    rises xs (λ i j d l m. h (suc i) (suc j) d (omega (arith, l)) (omega (arith, m))),
  )

  -- what follows the i-th has no smaller ones, and what is before it no greater ones
  pub rises_after : (xs : List (ℕ × A)) (i : ℕ) (y : ℕ × A) → Rises xs → slice_get xs i ≡ Some y → All (λ x. y.0 ≤ x.0) (drop (suc i) xs)
  rises_after [] i y h e = cc
  rises_after (x ∷ xs) zero y h e = subst (λ (z : Option (ℕ × A)). at z) e h.0
    where
      at : Option (ℕ × A) → Type 0
      at None = Unit {0}
      at (Some z) = All (λ w. z.0 ≤ w.0) xs
  rises_after (x ∷ xs) (suc i) y h e = rises_after xs i y h.1 e

  pub rises_before : (xs : List (ℕ × A)) (i : ℕ) (y : ℕ × A) → Rises xs → slice_get xs i ≡ Some y → All (λ x. x.0 ≤ y.0) (take (suc i) xs)
  rises_before [] i y h e = cc
  rises_before (x ∷ xs) zero y h e = All-cons (λ z. z.0 ≤ y.0) x [] (subst (λ (z : Option (ℕ × A)). at z) e (omega arith)) (All-nil (λ z. z.0 ≤ y.0))
    where
      at : Option (ℕ × A) → Type 0
      at None = Unit {0}
      at (Some z) = x.0 ≤ z.0
  rises_before (x ∷ xs) (suc i) y h e = All-cons (λ z. z.0 ≤ y.0) x (take (suc i) xs) (all_at (λ z. x.0 ≤ z.0) xs i y h.0 e) (rises_before xs i y h.1 e)

-- ---- a turn that starts after n steps and e events of the part, and reaches `reach` steps

module _ (p : Part) (L : List (ℕ × Event)) (n e b r reach : ℕ) where
  abbrev E : List (ℕ × Event)
  E = p.events

  abbrev cut : List (ℕ × Event)
  cut = take r (drop e L)

  abbrev made : ℕ
  made = length cut

  -- all events were reached, or those that come within the budget
  pub record Within : Type 0 where
    pub all_steps : reach ≡ n + b
    pub fewer : length L < length E
    pub begun : IsBegun reach L E

  abbrev pub Reached : Type 0
  Reached = (L ≡ E) ⊎ Within

  module _ (known : Reached) (in_time : All (λ x. x.0 ≤ reach) L) (reach_most : reach ≤ n + b) (some : 0 < b) (has_room : 0 < r)
      (more : e < length E) (before : All (λ x. x.0 ≤ n) (take e E)) (later : All (λ x. n ≤ x.0) (drop e E)) (up : Rises E) where
    record Further : Type 0 where
      behind : List (ℕ × Event)
      are : E ≡ L ++ behind

    further : Reached → Further
    further (inl same) = record { behind = []; are = sym same ∙ sym (append-nil L) }
    further (inr w) = record { behind = w.begun.further; are = w.begun.are }

    abbrev F : List (ℕ × Event)
    F = (further known).behind

    E_is : E ≡ L ++ F
    E_is = (further known).are

    enough : Reached → e ≤ length L
    enough (inl same) = let k : length L ≡ length E = ap (λ (l : List (ℕ × Event)). length l) same in omega (arith, k, more)
    enough (inr w) = go w.begun.further w.begun.are w.begun.later (cases_lt (length L) e)
      where
        go : (fs : List (ℕ × Event)) → E ≡ L ++ fs → All (λ x. reach ≤ x.0) fs → (length L < e) ⊎ (e ≤ length L) → e ≤ length L
        go fs h l (inr k) = k
        go [] h l (inl k) = let g : length E ≡ length L = ap (λ (z : List (ℕ × Event)). length z) (h ∙ append-nil L) in absurd (omega (arith, g, w.fewer))
        go (f ∷ fs) h l (inl k) =
            let low : f.0 ≤ n = holds_behind (λ x. x.0 ≤ n) L f fs e k (subst (λ (z : List (ℕ × Event)). All (λ x. x.0 ≤ n) (take e z)) h before) in
            let high : reach ≤ f.0 = All-head (λ x. reach ≤ x.0) f fs l in
            absurd (omega (arith, low, high, w.all_steps, some))

    made_is : made ≡ min r (length L - e)
    made_is = length-take r (drop e L) ∙ ap (λ k. min r k) (length-drop e L)

    pub in_reached : e + made ≤ length L
    in_reached = let h : e ≤ length L = enough known in omega (arith, h, made_is)

    pub in_part : length L ≤ length E
    in_part = let h : length E ≡ length L + length F = ap (λ (l : List (ℕ × Event)). length l) E_is ∙ length-append L F in omega (arith, h)

    pub cut_from_part : cut ≡ drop e (take (e + made) E)
    cut_from_part = cut_is E L F e r E_is (enough known)

    -- where it is full
    module _ (full : IsFull p e r made) (S : ℕ) (o : Option ℕ) (o_is : o ≡ last_step made cut) (S_is : S ≡ ends_at true o reach - n) where
      has_some : IsFull p e r made → 0 < made
      has_some (inl h) = omega (arith, h, has_room)
      has_some (inr h) = omega (arith, h, more)

      ends_with : (k : ℕ) → made ≡ suc k → Turned p n e b r S made
      ends_with k is =
          let got : (y : ℕ × Event) × (slice_get cut k ≡ Some y) = get_some cut k (omega (arith, is)) in
          let y : ℕ × Event = got.0 in
          let in_L : slice_get L (e + k) ≡ Some y = get_drop e L k y (get_take r (drop e L) k y got.1) in
          let in_E : slice_get E (e + k) ≡ Some y = ap (λ (z : List (ℕ × Event)). slice_get z (e + k)) E_is ∙ get_append L F (e + k) y in_L in
          let early : y.0 ≤ reach = all_at (λ x. x.0 ≤ reach) L (e + k) y in_time in_L in
          let late : n ≤ y.0 = all_at (λ x. n ≤ x.0) (drop e E) k y later (in_drop e E k y in_E) in
          let last : o ≡ Some y.0 = o_is ∙ ap (λ m. last_step m cut) is ∙ ap (λ z. option_map (λ (x : ℕ × Event). x.0) z) got.1 in
          let there : S ≡ y.0 - n = S_is ∙ ap (λ z. ends_at true z reach - n) last in
          let upto : n + S ≡ y.0 = omega (arith, there, late) in
          let place : e + made ≡ suc (e + k) = omega (arith, is) in
          record {
            in_budget = omega (arith, there, early, reach_most);
            in_room = omega (arith, made_is);
            within = omega (arith, in_reached, in_part);
            moves = inr (omega (arith, is));
            none_missed =
                All-weaker (λ x. y.0 ≤ x.0) (λ x. n + S ≤ x.0) (λ x h. omega (arith, h, upto)) (drop (e + made) E)
                (subst (λ i. All (λ x. y.0 ≤ x.0) (drop i E)) (sym place) (rises_after E (e + k) y up in_E));
            none_early =
                All-drop (λ x. x.0 ≤ n + S) e (take (e + made) E)
                (All-weaker (λ x. x.0 ≤ y.0) (λ x. x.0 ≤ n + S) (λ x h. omega (arith, h, upto)) (take (e + made) E)
                (subst (λ i. All (λ x. x.0 ≤ y.0) (take i E)) (sym place) (rises_before E (e + k) y up in_E)));
            stopped = λ h. ap (λ i. last_step i E) place ∙ ap (λ z. option_map (λ (x : ℕ × Event). x.0) z) in_E ∙ ap Some (sym upto);
            ran_on = λ h. absurd (h full);
          }

      at_some : (m : ℕ) → made ≡ m → 0 < m → Turned p n e b r S made
      at_some zero is l = absurd (omega (arith, l))
      at_some (suc k) is l = ends_with k is

      pub full_turned : Turned p n e b r S made
      full_turned = at_some made refl (has_some full)

    -- where it isn't full, its steps are made
    module _ (isnt : ¬ IsFull p e r made) (S : ℕ) (S_is : S ≡ reach - n) where
      all_of_them : Reached → e + made ≡ length L
      all_of_them x = go (cases_eq made r)
        where
          go : (made ≡ r) ⊎ (made ≡ r → ⊥) → e + made ≡ length L
          go (inl h) = absurd (isnt (inl h))
          go (inr h) = let l : e ≤ length L = enough known in omega (arith, h, made_is, l)

      pub open_turned : Reached → Turned p n e b r S made
      open_turned (inl same) = absurd (isnt (inr (all_of_them known ∙ ap (λ (l : List (ℕ × Event)). length l) same)))
      open_turned (inr w) =
          let upto : n + S ≡ reach = omega (arith, S_is, w.all_steps) in
          let place : e + made ≡ length L = all_of_them known in
          record {
            in_budget = omega (arith, S_is, w.all_steps);
            in_room = omega (arith, made_is);
            within = omega (arith, in_reached, in_part);
            moves = inl (omega (arith, S_is, w.all_steps, some));
            none_missed =
                All-weaker (λ x. reach ≤ x.0) (λ x. n + S ≤ x.0) (λ x h. omega (arith, h, upto)) (drop (e + made) E)
                (subst (λ (z : List (ℕ × Event)). All (λ x. reach ≤ x.0) z)
                (sym (ap (λ (z : List (ℕ × Event)). drop (e + made) z) w.begun.are ∙ drop_at L w.begun.further (e + made) (sym place))) w.begun.later);
            none_early =
                All-drop (λ x. x.0 ≤ n + S) e (take (e + made) E)
                (All-weaker (λ x. x.0 ≤ reach) (λ x. x.0 ≤ n + S) (λ x h. omega (arith, h, upto)) (take (e + made) E)
                (subst (λ (z : List (ℕ × Event)). All (λ x. x.0 ≤ reach) z)
                (sym (ap (λ (z : List (ℕ × Event)). take (e + made) z) w.begun.are ∙ take-append-le (e + made) L w.begun.further in_reached)) (All-take (λ x. x.0 ≤ reach) (e + made) L in_time)));
            stopped = λ h. absurd (isnt h);
            ran_on = λ h. omega (arith, S_is, w.all_steps);
          }

-- want of memory at the turn's start
pub starved_at_start : (p : Part) (n e b r : ℕ) → 0 < r → e < length p.events → All (λ x. n ≤ x.0) (drop e p.events) → Starving p n e b r 0 0
starved_at_start p n e b r room more later =
    let none : drop e (take (e + 0) p.events) ≡ [] = drop-take e 0 p.events in
    record {
      in_budget = omega arith;
      in_room = room;
      unfinished = omega (arith, more);
      none_missed =
          let i : e + 0 ≡ e = omega arith in
          subst (λ k. All (λ x. n + 0 ≤ x.0) (drop k p.events)) (sym i) (All-weaker (λ x. n ≤ x.0) (λ x. n + 0 ≤ x.0) (λ x h. omega (arith, h)) (drop e p.events) later);
      none_early = subst (λ (z : List (ℕ × Event)). All (λ x. x.0 ≤ n + 0) z) (sym none) (All-nil (λ x. x.0 ≤ n + 0));
    }
