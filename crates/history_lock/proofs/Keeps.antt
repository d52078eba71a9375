-- Each kind of step keeps the rule.
use Rattle.std.proofs.Common.{◌≡◌, ◌≢◌, ℕ, zero, suc, ◌+◌, ◌%◌, ◌^◌, ◌<◌, ◌≤◌, Bool, ◌⊎◌, inl, inr, ⊎_elim, List, [], ◌∷◌, ◌++◌, length, take, get_or, set, sym, refl, ap, ◌∙◌, subst, arith, true, false, true≢false, length-append, append-nil, if◌then◌else◌, eqb, eq-eqb, ne_eqb}
use Rattle.std.specs.Prelude.{Option as Option', Some, None, nat_lt}
use mathlib.Core.Logic.{dite}
use mathlib.Core.Option.{Option, some, none, some-ne-none, some-injective}
use Rattle.std.proofs.lemmas.Bool.Decides.{nat_tests}
use Rattle.std.proofs.lemmas.List.{take-append-le}
use native.Mathlib.Decide.{ℕ_discrete}
use lib.ListN.{get_elem?}
use lib.Seq.{set-get_or}
use Rattle.atomic_table.specs.Table.{State, Me, step, keeps, takes, gives, stepped, opening, Allows, Splits, Joins, rest, put_back}
use Rattle.atomic_table.proofs.Lists.{at_set, set_here, set_again, at_longer, at_last, at_snoc}
use Rattle.history_lock.specs.declared.view.View.{View}
use Rattle.history_lock.specs.declared.view.Stage.{Stage}
use Rattle.history_lock.specs.declared.view.Stage.TheVariants.{Idle, Waiting, Holding}
use Rattle.history_lock.specs.Views.{times, IsIn, StartsWith, Closes, ClosedWithin, AddsOne, at_stage, view, mine_after, one_less, newcomer, joined, spent, Finds}
use Rattle.history_lock.specs.Rule.{has_ticket, holds_slot, once_below, InLine, Placed, Fits, Kept, Draws, Looks, Adds, Leaves}
use Rattle.history_lock.proofs.Sums.{place_below, head_is, take_snoc, take_whole, snoc_at, starts_length, starts_longer, times_append, total_append, total_set, total_same, total_one, total_two}
use Rattle.history_lock.proofs.Line.{first_is, drawn_next, served_next, fits_longer, fits_taken, fits_left, all_set, placed_stays, few_in_line}

module _ {E T : Type 0} (history : T → List E) (closes : List E → E → ℕ → Type 0) where
  abbrev Vw : Type 0
  Vw = View E

  abbrev St : Type 0
  St = State (Option' T) Vw

  abbrev M : Type 0
  M = Me (Option' T) Vw

  abbrev Rule : ℕ → St → Type 0
  Rule seats = Kept history closes seats

  -- kind 1
  pub draws : (seats slots id : ℕ) (m : M) → m.0.stage ≡ Idle → Allows (Rule seats) slots id m 0 (λ n. (n + 1) % 2 ^ 64) (Draws history closes (step slots 0 1 0 none) m)
  draws seats slots id m idle s r _ at _ = let n : ℕ = get_or s.words 0 0 in let w : Vw = at_stage m.0 (Waiting n) in
      let is : n ≡ (r.serving + length r.line) % 2 ^ 64 = ap (λ (ws : List ℕ). get_or ws 0 0) r.words in
      let one : length (r.line ++ id ∷ []) ≡ length r.line + 1 = length-append r.line (id ∷ []) in
      let up : (n + 1) % 2 ^ 64 ≡ (r.serving + length (r.line ++ id ∷ [])) % 2 ^ 64 =
      ap (λ (x : ℕ). (x + 1) % 2 ^ 64) is ∙ (drawn_next r.serving (length r.line) ∙ ap (λ (x : ℕ). (r.serving + x) % 2 ^ 64) (sym one)) in
      let fits = r.each id m.0 at in (
        w,
        keeps,
        tt,
        record {
          serving = r.serving;
          line = r.line ++ id ∷ [];
          log = r.log;
          home = r.home;
          words = ap (λ (ws : List ℕ). set ws 0 ((n + 1) % 2 ^ 64)) r.words ∙ ap (λ (x : ℕ). x ∷ r.serving ∷ length r.log ∷ []) up;
          small = r.small;
          homes = r.homes;
          few = r.few;
          tickets = let t = total_set (λ (v : Vw). has_ticket v.stage) s.views id m.0 w at in let z : has_ticket m.0.stage ≡ 0 = ap has_ticket idle in let b = r.tickets in omega arith;
          spares = let a = total_same (λ (v : Vw). 1 + v.spare) s.views id m.0 w at refl in let b = r.spares in omega arith;
          placed = placed_stays history closes r.line (r.line ++ id ∷ []) r.log s.views id m.0 w at (λ h. true≢false (sym h ∙ ap holds_slot idle)) (λ j. at_longer r.line (id ∷ []) 0 j) r.home r.placed;
          each = all_set history closes (Fits history closes r.serving (r.line ++ id ∷ []) r.log r.home) s.views id w
              record { prefix = fits.prefix; below = fits.below; in_line = (length r.line, at_last r.line id (length r.line) refl, is); closed = fits.closed }
              (λ j u _ e. fits_longer history closes r.serving r.line r.log r.home id j u (r.each j u e));
          once = λ k. total_same (λ (v : Vw). times k v.mine) s.views id m.0 w at refl ∙ r.once k;
        },
        refl,
      )

  -- a step that changes nothing
  same : (seats : ℕ) (s : St) (r : Rule seats s) (i id : ℕ) (m : M) → get_elem? s.views id ≡ some m.0 → Rule seats (stepped s i (get_or s.words i 0) id m.1 m.0 keeps)
  same seats s r i id m at = subst (λ (x : List ℕ × List Vw). Rule seats record { words = x.0; homes = s.homes; views = x.1 }) (λ k. (sym (set-get_or s.words i 0) k, sym (set_again s.views id m.0 at) k)) r

  -- the first in the line finds the value at home
  found_home : (seats id t : ℕ) (s : St) (r : Rule seats s) (v : Vw) → get_elem? s.views id ≡ some v → v.stage ≡ Waiting t → get_elem? r.line 0 ≡ some id
      → (home : Option (Option' T)) → Placed history closes r.line r.log s.views home → (x : T) × (home ≡ some (Some x)) × (history x ≡ r.log)
  found_home seats id t s r v at is first (some y) p = (p.0, ap some p.1, p.2)
  found_home seats id t s r v at is first none p = let e : p.0 ≡ id = some-injective p.0 id (sym p.4 ∙ first) in
      let u : p.1 ≡ v = some-injective p.1 v (sym p.2 ∙ ((λ i. get_elem? s.views (e i)) ∙ at)) in
      absurd (true≢false (sym p.3 ∙ (ap (λ (z : Vw). holds_slot z.stage) u ∙ ap holds_slot is)))

  once_le : (p n : ℕ) → once_below p n ≤ 1
  once_le p n = grind (arith, nat_tests)

  -- kind 2, where the ticket is served
  serve : (seats id t : ℕ) (m : M) (s : St) (r : Rule seats s) → m.0.stage ≡ Waiting t → get_elem? s.views id ≡ some m.0 → get_or s.words 1 0 ≡ t
      → (x : T) × (get_elem? s.homes 0 ≡ some (some (Some x))) × Rule seats (stepped s 1 (get_or s.words 1 0) id m.1 (view (history x) m.0.mine (Holding t) m.0.spare) (takes 0 (Some x)))
      × Finds history closes m.0 x
  serve seats id t m s r is at found =
      let fits = r.each id m.0 at in
      let line = subst (InLine history closes r.serving r.line r.log r.home id m.0.seen) is fits.in_line in
      let now : r.serving ≡ t = sym (ap (λ (ws : List ℕ). get_or ws 1 0) r.words) ∙ found in
      let k0 : line.0 ≡ 0 = first_is r.serving line.0 r.small (few_in_line history closes seats line.0 id s r line.1) (now ∙ line.2) in
      let first : get_elem? r.line 0 ≡ some id = subst (λ (k : ℕ). get_elem? r.line k ≡ some id) k0 line.1 in
      let h = found_home seats id t s r m.0 at is first r.home r.placed in
      let x : T = h.0 in let w : Vw = view (history x) m.0.mine (Holding t) m.0.spare in
      let pre : StartsWith (history x) m.0.seen = subst (λ (l : List E). StartsWith l m.0.seen) (sym h.2) fits.prefix in
      let closed : ClosedWithin closes (history x) m.0.mine = subst (λ (l : List E). ClosedWithin closes l m.0.mine) (sym h.2) fits.closed in
      let longer = starts_length (history x) m.0.seen pre in (
        x,
        ap (λ (hs : List (Option (Option' T))). get_elem? hs 0) r.homes ∙ ap some h.1,
        record {
          serving = r.serving;
          line = r.line;
          log = r.log;
          home = none;
          words = set-get_or s.words 1 0 ∙ r.words;
          small = r.small;
          homes = ap (λ (hs : List (Option (Option' T))). set hs 0 none) r.homes;
          few = r.few;
          tickets = total_same (λ (v : Vw). has_ticket v.stage) s.views id m.0 w at (sym (ap has_ticket is)) ∙ r.tickets;
          spares = let a = total_same (λ (v : Vw). 1 + v.spare) s.views id m.0 w at refl in let b = r.spares in omega arith;
          placed = (id, w, set_here s.views id w (place_below s.views id m.0 at), refl, first);
          each = all_set history closes (Fits history closes r.serving r.line r.log none) s.views id w
              record {
                prefix = ([], sym (append-nil (history x) ∙ h.2));
                below = λ k i. let b = fits.below k i in omega arith;
                in_line = (first, sym now, h.2, refl);
                closed = fits.closed;
              }
              (λ j u ne e. let f = r.each j u e in fits_taken history closes r.serving r.line r.log r.log r.home none id j u first ne f.prefix f.closed f);
          once = λ k. total_same (λ (v : Vw). times k v.mine) s.views id m.0 w at refl ∙ r.once k;
        },
        (pre, (closed, (fits.below, λ k. let o = total_one (λ (v : Vw). times k v.mine) s.views id m.0 at in let q = r.once k in let l = once_le k (length r.log) in omega arith))),
      )

  abbrev ticket_of : Stage → ℕ
  ticket_of Idle = 0
  ticket_of (Waiting t) = t
  ticket_of (Holding t) = t

  -- kind 2
  pub looks : (seats slots id t : ℕ) (m : M) → m.0.stage ≡ Waiting t → Allows (Rule seats) slots id m 1 (λ n. n) (Looks history closes (step slots 1 0 0 none) m)
  looks seats slots id t m is s r _ at _ = let n : ℕ = get_or s.words 1 0 in dite (ℕ_discrete n t)
      (λ hit. let v = serve seats id t m s r is at hit in let x : T = v.0 in (
        view (history x) m.0.mine (Holding t) m.0.spare,
        takes 0 (Some x),
        v.1,
        v.2,
        λ t' is'. let e : t ≡ t' = ap ticket_of (sym is ∙ is') in
            ((λ _. (x, (λ i. (view (history x) m.0.mine (Holding (e i)) m.0.spare, (0, Some x) ∷ m.1)), v.3)), λ not. absurd (not (hit ∙ e))),
      ))
      (λ miss. (m.0, keeps, tt, same seats s r 1 id m at, λ t' is'. let e : t ≡ t' = ap ticket_of (sym is ∙ is') in ((λ hit. absurd (miss (hit ∙ sym e))), λ _. refl)))

  abbrev mark : ℕ → ℕ → ℕ
  mark n p = if eqb n p then 1 else 0

  once_more : (p n : ℕ) → once_below p n + mark n p ≡ once_below p (n + 1)
  once_more p n = grind (arith, nat_tests)

  here_is : (n : ℕ) → mark n n ≡ 1
  here_is n = grind (arith, nat_tests)

  else_is : (p n : ℕ) → n ≢ p → mark n p ≡ 0
  else_is p n ne = ap (λ (b : Bool). if b then 1 else 0) (ne_eqb n p ne)

  -- another's positions are not closed by an entry that closes none of them
  closed_other : (log : List E) (e : E) (u : List ℕ) → ClosedWithin closes log u → ((p : ℕ) → p < length log → closes log e p → IsIn p u → ⊥) → ClosedWithin closes (log ++ e ∷ []) u
  closed_other log e u old none_new k p c in_u = ⊎_elim
      (λ (a : (k < length log) × (get_elem? log k ≡ some c.1.0)). let lt = a.0 in old k p (c.0, (c.1.0, a.1, subst (λ (l : List E). closes l c.1.0 p) (take_snoc log e k (omega arith)) c.1.2)) in_u)
      (λ (a : (k ≡ length log) × (e ≡ c.1.0)). let here = a.0 in let lt = c.0 in
      let all : take k (log ++ e ∷ []) ≡ log = take_snoc log e k (omega arith) ∙ (ap (λ (n : ℕ). take n log) a.0 ∙ take_whole log) in
      absurd (none_new p (omega arith) (subst (λ (z : List E × E). closes z.0 z.1 p) (λ i. (all i, sym a.1 i)) c.1.2) in_u))
      (snoc_at log e c.1.0 k c.1.1)

  closed_own : (log : List E) (e : E) (u : List ℕ) → ClosedWithin closes log u → ClosedWithin closes (log ++ e ∷ []) (u ++ length log ∷ [])
  closed_own log e u old k p c in_u = ⊎_elim
      (λ (a : (k < length log) × (get_elem? log k ≡ some c.1.0)). let lt = a.0 in let lt' = c.0 in let n : ℕ = length log in
      let was : IsIn p u = let z = else_is p n (λ e. omega arith) in omega (arith, times_append p u (n ∷ []), in_u) in
      let is : IsIn k u = old k p (c.0, (c.1.0, a.1, subst (λ (l : List E). closes l c.1.0 p) (take_snoc log e k (omega arith)) c.1.2)) was in
      omega (arith, times_append k u (n ∷ []), is))
      (λ (a : (k ≡ length log) × (e ≡ c.1.0)). subst (λ (z : ℕ). IsIn z (u ++ length log ∷ [])) (sym a.0) (let o = here_is (length log) in omega (arith, times_append (length log) u (length log ∷ []))))
      (snoc_at log e c.1.0 k c.1.1)

  below_own : (n p : ℕ) (u : List ℕ) → ((k : ℕ) → IsIn k u → k < n) → IsIn p (u ++ n ∷ []) → p < n + 1
  below_own n p u old in_u = dite (ℕ_discrete n p) (λ e. omega arith)
      (λ ne. let z = else_is p n ne in let i : IsIn p u = omega (arith, times_append p u (n ∷ []), in_u) in let b = old p i in omega arith)

  mod_small : (n : ℕ) → n < 2 ^ 64 → n % 2 ^ 64 ≡ n
  mod_small n lt = omega arith

  -- the history grows in the hands of the first in the line
  grown : (seats id t k : ℕ) (m : M) (s : St) (r : Rule seats s) (h' : List E) (mine' : List ℕ) → m.0.stage ≡ Holding t → get_elem? s.views id ≡ some m.0
      → length h' ≡ length m.0.seen + k → length h' < 2 ^ 64
      → ((u : List E) → StartsWith m.0.seen u → StartsWith h' u) → ((p : ℕ) → IsIn p mine' → p < length h') → ClosedWithin closes h' mine'
      → ((j : ℕ) (u : Vw) → j ≢ id → get_elem? s.views j ≡ some u → ClosedWithin closes h' u.mine)
      → ((p : ℕ) → times p mine' + once_below p (length m.0.seen) ≡ times p m.0.mine + once_below p (length h'))
      → Rule seats (stepped s 2 ((get_or s.words 2 0 + k) % 2 ^ 64) id m.1 (view h' mine' m.0.stage m.0.spare) keeps)
  grown seats id t k m s r h' mine' is at long short pre below own others counts =
      let w : Vw = view h' mine' m.0.stage m.0.spare in
      let fits = r.each id m.0 at in
      let line = subst (InLine history closes r.serving r.line r.log r.home id m.0.seen) is fits.in_line in
      let seen : m.0.seen ≡ r.log = line.2 in
      let was : get_or s.words 2 0 ≡ length m.0.seen = ap (λ (ws : List ℕ). get_or ws 2 0) r.words ∙ ap length (sym seen) in
      let up : (get_or s.words 2 0 + k) % 2 ^ 64 ≡ length h' = ap (λ (n : ℕ). (n + k) % 2 ^ 64) was ∙ (ap (λ (n : ℕ). n % 2 ^ 64) (sym long) ∙ mod_small (length h') short) in record {
        serving = r.serving;
        line = r.line;
        log = h';
        home = r.home;
        words = ap (λ (ws : List ℕ). set ws 2 ((get_or s.words 2 0 + k) % 2 ^ 64)) r.words ∙ ap (λ (n : ℕ). (r.serving + length r.line) % 2 ^ 64 ∷ r.serving ∷ n ∷ []) up;
        small = r.small;
        homes = r.homes;
        few = r.few;
        tickets = total_same (λ (v : Vw). has_ticket v.stage) s.views id m.0 w at refl ∙ r.tickets;
        spares = let a = total_same (λ (v : Vw). 1 + v.spare) s.views id m.0 w at refl in let b = r.spares in omega arith;
        placed = subst (Placed history closes r.line h' (set s.views id w)) (sym line.3) (id, w, set_here s.views id w (place_below s.views id m.0 at), ap holds_slot is, line.0);
        each = all_set history closes (Fits history closes r.serving r.line h' r.home) s.views id w
            record {
              prefix = ([], sym (append-nil h'));
              below = below;
              in_line = subst (InLine history closes r.serving r.line h' r.home id h') (sym is) (line.0, line.1, refl, line.3);
              closed = own;
            }
            (λ j u ne e. let f = r.each j u e in fits_taken history closes r.serving r.line r.log h' r.home r.home id j u line.0 ne (pre u.seen (subst (λ (l : List E). StartsWith l u.seen) (sym seen) f.prefix)) (others j u ne e) f);
        once = λ p. let a = total_set (λ (v : Vw). times p v.mine) s.views id m.0 w at in let b = r.once p in let c = counts p in
            let d : once_below p (length m.0.seen) ≡ once_below p (length r.log) = ap (λ (l : List E). once_below p (length l)) seen in omega arith;
      }

  mine_same : (mine : List ℕ) (h h' : List E) → length h' ≡ length h → mine_after mine h h' ≡ mine
  mine_same mine h h' e = ap (λ (b : Bool). if b then mine else mine ++ length h ∷ []) (eq-eqb (length h') (length h) e)

  mine_more : (mine : List ℕ) (h h' : List E) → length h' ≢ length h → mine_after mine h h' ≡ mine ++ length h ∷ []
  mine_more mine h h' e = ap (λ (b : Bool). if b then mine else mine ++ length h ∷ []) (ne_eqb (length h') (length h) e)

  adds_at : (seats id t k : ℕ) (m : M) (s : St) (r : Rule seats s) (h' : List E) → m.0.stage ≡ Holding t → get_elem? s.views id ≡ some m.0
      → length h' ≡ length m.0.seen + k → length h' < 2 ^ 64 → AddsOne closes m.0.mine m.0.seen h'
      → Rule seats (stepped s 2 ((get_or s.words 2 0 + k) % 2 ^ 64) id m.1 (view h' (mine_after m.0.mine m.0.seen h') m.0.stage m.0.spare) keeps)
  adds_at seats id t k m s r h' is at long short (inl e) = let fits = r.each id m.0 at in
      let line = subst (InLine history closes r.serving r.line r.log r.home id m.0.seen) is fits.in_line in
      let n : length h' ≡ length m.0.seen = ap length e in let mine : List ℕ = m.0.mine in let whole : h' ≡ r.log = e ∙ line.2 in
      subst (λ (x : List ℕ). Rule seats (stepped s 2 ((get_or s.words 2 0 + k) % 2 ^ 64) id m.1 (view h' x m.0.stage m.0.spare) keeps)) (sym (mine_same mine m.0.seen h' n))
      (grown seats id t k m s r h' mine is at long short (λ u p. subst (λ (l : List E). StartsWith l u) (sym e) p) (λ p i. let b = fits.below p i in omega arith)
      (subst (λ (l : List E). ClosedWithin closes l mine) (sym whole) fits.closed)
      (λ j u ne a. subst (λ (l : List E). ClosedWithin closes l u.mine) (sym whole) (r.each j u a).closed)
      (λ p. ap (λ (x : ℕ). times p mine + once_below p x) (sym n)))
  adds_at seats id t k m s r h' is at long short (inr a) = let fits = r.each id m.0 at in
      let line = subst (InLine history closes r.serving r.line r.log r.home id m.0.seen) is fits.in_line in
      let h : List E = m.0.seen in let mine : List ℕ = m.0.mine in let e : E = a.0 in let ok = a.2 in
      let n : length h' ≡ length h + 1 = ap length a.1 ∙ length-append h (e ∷ []) in
      let mine' : List ℕ = mine ++ length h ∷ [] in
      let closed : ClosedWithin closes h mine = subst (λ (l : List E). ClosedWithin closes l mine) (sym line.2) fits.closed in
      subst (λ (x : List ℕ). Rule seats (stepped s 2 ((get_or s.words 2 0 + k) % 2 ^ 64) id m.1 (view h' x m.0.stage m.0.spare) keeps)) (sym (mine_more mine h h' (λ z. omega arith)))
      (grown seats id t k m s r h' mine' is at long short (λ u p. subst (λ (l : List E). StartsWith l u) (sym a.1) (starts_longer h u e p))
      (λ p i. let b = below_own (length h) p mine fits.below i in omega arith)
      (subst (λ (l : List E). ClosedWithin closes l mine') (sym a.1) (closed_own h e mine closed))
      (λ j u ne b. subst (λ (l : List E). ClosedWithin closes l u.mine) (sym a.1) (closed_other h e u.mine (subst (λ (l : List E). ClosedWithin closes l u.mine) (sym line.2) (r.each j u b).closed)
      (λ p lt c in_u. let mine_too : IsIn p mine = ok p lt c in let two = total_two (λ (v : Vw). times p v.mine) s.views id j m.0 u (λ z. ne (sym z)) at b in
      let o = r.once p in let l = once_le p (length r.log) in omega (arith, mine_too, in_u))))
      (λ p. let m1 = once_more p (length h) in let t1 = times_append p mine (length h ∷ []) in let q : once_below p (length h') ≡ once_below p (length h + 1) = ap (once_below p) n in omega arith))

  abbrev first_or : T → List (ℕ × Option' T) → T
  first_or x [] = x
  first_or x (c ∷ cs) = elim c.1 as (λ (o : Option' T). T) [ None ↦ x | Some y ↦ y ]

  -- kind 4
  pub adds : (seats slots id t k : ℕ) (m : M) (x : T) (cs : List (ℕ × Option' T)) → m.0.stage ≡ Holding t → m.1 ≡ (0, Some x) ∷ cs → AddsOne closes m.0.mine m.0.seen (history x)
      → length (history x) ≡ length m.0.seen + k → length (history x) < 2 ^ 64 → Allows (Rule seats) slots id m 2 (λ n. (n + k) % 2 ^ 64) (Adds history closes (step slots 2 k 0 none) m)
  adds seats slots id t k m x cs is has one long short s r _ at _ = (
    view (history x) (mine_after m.0.mine m.0.seen (history x)) m.0.stage m.0.spare,
    keeps,
    tt,
    adds_at seats id t k m s r (history x) is at long short one,
    λ x' cs' has'. let e : x ≡ x' = ap (first_or x) (sym has ∙ has') in ap (λ (z : T). (view (history z) (mine_after m.0.mine m.0.seen (history z)) m.0.stage m.0.spare, m.1)) e,
  )

  -- kind 6
  pub leaves : (seats slots id t : ℕ) (m : M) (x : T) (cs : List (ℕ × Option' T)) → m.0.stage ≡ Holding t → m.1 ≡ (0, Some x) ∷ cs → history x ≡ m.0.seen
      → Allows (Rule seats) slots id m 1 (λ n. (n + 1) % 2 ^ 64) (Leaves history closes (step slots 1 1 0 none) m)
  leaves seats slots id t m x cs is has seen s r _ at _ = let w : Vw = at_stage m.0 Idle in
      let fits = r.each id m.0 at in
      let line = subst (InLine history closes r.serving r.line r.log r.home id m.0.seen) is fits.in_line in
      let tail = head_is r.line id line.0 in
      let now : get_or s.words 1 0 ≡ r.serving = ap (λ (ws : List ℕ). get_or ws 1 0) r.words in
      let up : ℕ = (r.serving + 1) % 2 ^ 64 in
      let len : length r.line ≡ suc (length tail.0) = ap length tail.1 in
      let tickets' : (r.serving + length r.line) % 2 ^ 64 ≡ (up + length tail.0) % 2 ^ 64 = ap (λ (n : ℕ). (r.serving + n) % 2 ^ 64) len ∙ served_next r.serving (length tail.0) in (
        w,
        gives,
        tt,
        record {
          serving = up;
          line = tail.0;
          log = r.log;
          home = some (Some x);
          words = ap (λ (ws : List ℕ). set ws 1 ((get_or s.words 1 0 + 1) % 2 ^ 64)) r.words ∙ (λ i. tickets' i ∷ (now i + 1) % 2 ^ 64 ∷ length r.log ∷ []);
          small = omega arith;
          homes = ap (put_back s.homes) has ∙ ap (λ (hs : List (Option (Option' T))). set hs 0 (some (Some x))) r.homes;
          few = r.few;
          tickets = let a = total_set (λ (v : Vw). has_ticket v.stage) s.views id m.0 w at in let z : has_ticket m.0.stage ≡ 1 = ap has_ticket is in let b = r.tickets in omega arith;
          spares = let a = total_same (λ (v : Vw). 1 + v.spare) s.views id m.0 w at refl in let b = r.spares in omega arith;
          placed = (x, refl, seen ∙ line.2);
          each = all_set history closes (Fits history closes up tail.0 r.log (some (Some x))) s.views id w
              record { prefix = fits.prefix; below = fits.below; in_line = tt; closed = fits.closed }
              (λ j u ne e. fits_left history closes r.serving r.line tail.0 r.log r.home (some (Some x)) id j u tail.1 ne (r.each j u e));
          once = λ k. total_same (λ (v : Vw). times k v.mine) s.views id m.0 w at refl ∙ r.once k;
        },
        refl,
      )

  -- the same, of a seat that is known by an equation
  pub adds_as : (seats slots id t k : ℕ) (m : M) (v : Vw) (x : T) (cs : List (ℕ × Option' T)) → m ≡ (v, (0, Some x) ∷ cs) → v.stage ≡ Holding t → AddsOne closes v.mine v.seen (history x)
      → length (history x) ≡ length v.seen + k → length (history x) < 2 ^ 64 → Allows (Rule seats) slots id m 2 (λ n. (n + k) % 2 ^ 64) (Adds history closes (step slots 2 k 0 none) m)
  adds_as seats slots id t k m v x cs e is one long short = let m' : M = (v, (0, Some x) ∷ cs) in
      subst (λ (z : M). Allows (Rule seats) slots id z 2 (λ n. (n + k) % 2 ^ 64) (Adds history closes (step slots 2 k 0 none) z)) (sym e) (adds seats slots id t k m' x cs is refl one long short)

  pub leaves_as : (seats slots id t : ℕ) (m : M) (v : Vw) (x : T) (cs : List (ℕ × Option' T)) → m ≡ (v, (0, Some x) ∷ cs) → v.stage ≡ Holding t → history x ≡ v.seen
      → Allows (Rule seats) slots id m 1 (λ n. (n + 1) % 2 ^ 64) (Leaves history closes (step slots 1 1 0 none) m)
  leaves_as seats slots id t m v x cs e is seen = let m' : M = (v, (0, Some x) ∷ cs) in
      subst (λ (z : M). Allows (Rule seats) slots id z 1 (λ n. (n + 1) % 2 ^ 64) (Leaves history closes (step slots 1 1 0 none) z)) (sym e) (leaves seats slots id t m' x cs is refl seen)

  -- the seat after kind 4
  pub added_as : (slots k found : ℕ) (m m' : M) (v : Vw) (x : T) (cs : List (ℕ × Option' T)) → m ≡ (v, (0, Some x) ∷ cs) → Adds history closes (step slots 2 k 0 none) m found m'
      → m' ≡ (view (history x) (mine_after v.mine v.seen (history x)) v.stage v.spare, (0, Some x) ∷ cs)
  added_as slots k found m m' v x cs e a = a x cs (ap (λ (z : M). z.1) e) ∙ ap (λ (z : M). (view (history x) (mine_after z.0.mine z.0.seen (history x)) z.0.stage z.0.spare, z.1)) e

  pub left_as : (slots found : ℕ) (m m' : M) (v : Vw) (x : T) (cs : List (ℕ × Option' T)) → m ≡ (v, (0, Some x) ∷ cs) → Leaves history closes (step slots 1 1 0 none) m found m' → m' ≡ (at_stage v Idle, cs)
  left_as slots found m m' v x cs e a = a ∙ ap (λ (z : M). (at_stage z.0 Idle, rest z.1)) e

  abbrev holding : Vw → T → List (ℕ × Option' T) → M
  holding v x cs = (v, (0, Some x) ∷ cs)

  pub carried : (m : M) (v : Vw) (x : T) (y : Option' T) → m.1 ≡ (0, y) ∷ [] → holding v x (rest m.1) ≡ holding v x []
  carried m v x y e = ap (λ (cs : List (ℕ × Option' T)). holding v x (rest cs)) e

  pub front_is : (m : M) (v : Vw) (x : T) (cs : List (ℕ × Option' T)) → m ≡ holding v x cs → m.1 ≡ (0, Some x) ∷ rest m.1
  front_is m v x cs e = ap (λ (z : M). z.1) e ∙ ap (λ (z : M). (0, Some x) ∷ rest z.1) (sym e)

  pub adds_length : (mine : List ℕ) (h h' : List E) → AddsOne closes mine h h' → length h ≤ length h'
  adds_length mine h h' (inl e) = let n : length h' ≡ length h = ap length e in omega arith
  adds_length mine h h' (inr a) = let n : length h' ≡ length h + 1 = ap length a.1 ∙ length-append h (a.0 ∷ []) in omega arith

  no_views : (v : Vw) (id : ℕ) (u : Vw) → get_elem? (v ∷ []) id ≡ some u → v ≡ u
  no_views v zero u e = some-injective v u e
  no_views v (suc id) u e = absurd (some-ne-none u (sym e))

  none_in : (k : ℕ) → IsIn k [] → ⊥
  none_in k i = omega arith

  fresh : (serving : ℕ) (line : List ℕ) (log seen : List E) (home : Option (Option' T)) (id spare : ℕ) → StartsWith log seen → Fits history closes serving line log home id (view seen [] Idle spare)
  fresh serving line log seen home id spare pre = record { prefix = pre; below = λ k i. absurd (none_in k i); in_line = tt; closed = λ k p c i. absurd (none_in p i) }

  never : (k : ℕ) → 0 ≡ once_below k 0
  never k = grind (arith, nat_tests)

  -- the table at the start
  pub begins : (spare : ℕ) (x : T) → spare + 1 < 2 ^ 32 → history x ≡ [] → Rule (spare + 1) (opening (0 ∷ 0 ∷ 0 ∷ []) (Some x ∷ []) (view [] [] Idle spare))
  begins spare x few empty = record {
    serving = 0;
    line = [];
    log = [];
    home = some (Some x);
    words = refl;
    small = omega arith;
    homes = refl;
    few = few;
    tickets = refl;
    spares = omega arith;
    placed = (x, refl, empty);
    each = λ id v e. subst (Fits history closes 0 [] [] (some (Some x)) id) (no_views (view [] [] Idle spare) id v e) (fresh 0 [] [] [] (some (Some x)) id spare ([], refl));
    once = λ k. never k;
  }

  placed_longer : (line : List ℕ) (log : List E) (views : List Vw) (n : Vw) (home : Option (Option' T)) → Placed history closes line log views home → Placed history closes line log (views ++ n ∷ []) home
  placed_longer line log views n (some y) p = p
  placed_longer line log views n none p = (p.0, p.1, at_longer views (n ∷ []) p.0 p.1 p.2, p.3, p.4)

  -- kind 7
  pub splits : (seats id : ℕ) (v : Vw) → 0 < v.spare → v.stage ≡ Idle → Splits (Rule seats) id v (one_less v) (newcomer v)
  splits seats id v some_spare idle s r at = let w : Vw = one_less v in let n : Vw = newcomer v in let vs : List Vw = set s.views id w in let fits = r.each id v at in record {
    serving = r.serving;
    line = r.line;
    log = r.log;
    home = r.home;
    words = r.words;
    small = r.small;
    homes = r.homes;
    few = r.few;
    tickets = let a = total_append (λ (u : Vw). has_ticket u.stage) vs n in let b = total_same (λ (u : Vw). has_ticket u.stage) s.views id v w at refl in let c = r.tickets in omega arith;
    spares = let a = total_append (λ (u : Vw). 1 + u.spare) vs n in let b = total_set (λ (u : Vw). 1 + u.spare) s.views id v w at in let c = r.spares in omega arith;
    placed = placed_longer r.line r.log vs n r.home (placed_stays history closes r.line r.line r.log s.views id v w at (λ h. true≢false (sym h ∙ ap holds_slot idle)) (λ j e. e) r.home r.placed);
    each = λ j u e. ⊎_elim
        (all_set history closes (Fits history closes r.serving r.line r.log r.home) s.views id w
        record { prefix = fits.prefix; below = fits.below; in_line = fits.in_line; closed = fits.closed } (λ i x _ y. r.each i x y) j u)
        (λ (is : n ≡ u). subst (Fits history closes r.serving r.line r.log r.home j) is (fresh r.serving r.line r.log v.seen r.home j 0 fits.prefix)) (at_snoc vs n u j e);
    once = λ k. let a = total_append (λ (u : Vw). times k u.mine) vs n in let b = total_same (λ (u : Vw). times k u.mine) s.views id v w at refl in let c = r.once k in omega arith;
  }

  longer_starts : (log a b : List E) → StartsWith log a → StartsWith log b → (x : Bool) → StartsWith log (if x then b else a)
  longer_starts log a b p q true = q
  longer_starts log a b p q false = p

  longest_at : (a b : List E) (x : Bool) → nat_lt (length a) (length b) ≡ x → (length a ≤ length (if x then b else a)) × (length b ≤ length (if x then b else a))
  longest_at a b true e = let l : length a < length b = grind (arith, nat_tests) in (omega arith, omega arith)
  longest_at a b false e = let l : length b ≤ length a = grind (arith, nat_tests) in (omega arith, omega arith)

  in_either : (k : ℕ) (a b : List ℕ) → IsIn k (a ++ b) → IsIn k a ⊎ IsIn k b
  in_either k a b i = dite (ℕ_discrete (times k a) 0) (λ e. inr (omega (arith, times_append k a b, i))) (λ ne. inl (omega arith))

  in_left : (k : ℕ) (a b : List ℕ) → IsIn k a → IsIn k (a ++ b)
  in_left k a b i = omega (arith, times_append k a b, i)

  in_right : (k : ℕ) (a b : List ℕ) → IsIn k b → IsIn k (a ++ b)
  in_right k a b i = omega (arith, times_append k a b, i)

  -- kind 8
  pub joins : (seats id : ℕ) (v : Vw) (other : ℕ) (w : Vw) → v.stage ≡ Idle → w.stage ≡ Idle → Joins (Rule seats) id v other w (joined v w) spent
  joins seats id v other w idle idle' s r at two at' = let b : Vw = joined v w in let vs : List Vw = set s.views id b in
      let was : get_elem? s.views other ≡ some w = ⊎_elim (λ x. absurd (two x.0)) (λ x. x.1) (at_set s.views id other b w at') in
      let fv = r.each id v at in let fw = r.each other w was in let long = longest_at v.seen w.seen (nat_lt (length v.seen) (length w.seen)) refl in record {
        serving = r.serving;
        line = r.line;
        log = r.log;
        home = r.home;
        words = r.words;
        small = r.small;
        homes = r.homes;
        few = r.few;
        tickets = let x = total_same (λ (u : Vw). has_ticket u.stage) s.views id v b at refl in let y = total_same (λ (u : Vw). has_ticket u.stage) vs other w spent at' (sym (ap has_ticket idle')) in let c = r.tickets in omega arith;
        spares = let x = total_same (λ (u : Vw). 1 + u.spare) s.views id v b at refl in let y = total_set (λ (u : Vw). 1 + u.spare) vs other w spent at' in let c = r.spares in omega arith;
        placed = placed_stays history closes r.line r.line r.log vs other w spent at' (λ h. true≢false (sym h ∙ ap holds_slot idle')) (λ j e. e) r.home
            (placed_stays history closes r.line r.line r.log s.views id v b at (λ h. true≢false (sym h ∙ ap holds_slot idle)) (λ j e. e) r.home r.placed);
        each = all_set history closes (Fits history closes r.serving r.line r.log r.home) vs other spent (fresh r.serving r.line r.log [] r.home other 0 (r.log, refl))
            (λ i u _. all_set history closes (Fits history closes r.serving r.line r.log r.home) s.views id b
            record {
              prefix = longer_starts r.log v.seen w.seen fv.prefix fw.prefix (nat_lt (length v.seen) (length w.seen));
              below = λ k i. ⊎_elim (λ (x : IsIn k v.mine). let l = fv.below k x in let m = long.0 in omega arith) (λ (x : IsIn k w.mine). let l = fw.below k x in let m = long.1 in omega arith) (in_either k v.mine w.mine i);
              in_line = subst (InLine history closes r.serving r.line r.log r.home id b.seen) (sym idle) tt;
              closed = λ k p c i. ⊎_elim (λ (x : IsIn p v.mine). in_left k v.mine w.mine (fv.closed k p c x)) (λ (x : IsIn p w.mine). in_right k v.mine w.mine (fw.closed k p c x)) (in_either p v.mine w.mine i);
            } (λ i x _ y. r.each i x y) i u);
        once = λ k. let x = total_set (λ (u : Vw). times k u.mine) s.views id v b at in let y = total_set (λ (u : Vw). times k u.mine) vs other w spent at' in let c = r.once k in let d = times_append k v.mine w.mine in omega arith;
      }

  take_front : (xs ys : List E) (k : ℕ) → k ≤ length xs → take k (xs ++ ys) ≡ take k xs
  take_front xs ys k le = take-append-le k xs ys le

  at_front : (xs ys : List E) (k : ℕ) (e : E) → k < length xs → get_elem? (xs ++ ys) k ≡ some e → get_elem? xs k ≡ some e
  at_front [] ys k e lt at = absurd (omega arith)
  at_front (x ∷ xs) ys zero e lt at = at
  at_front (x ∷ xs) ys (suc k) e lt at = at_front xs ys k e (omega arith) at

  -- what a pass added and no entry that it has seen closes is there, and still open
  pub still_open : (v : Vw) (x : T) (p : ℕ) (e : E) → Finds history closes v x → get_elem? v.seen p ≡ some e → IsIn p v.mine → ((k : ℕ) → Closes closes v.seen k p → ⊥)
      → (get_elem? (history x) p ≡ some e) × ((k : ℕ) → Closes closes (history x) k p → ⊥)
  still_open v x p e f at own unclosed = let pre = f.0 in (
    subst (λ (l : List E). get_elem? l p ≡ some e) (sym pre.1) (at_longer v.seen pre.0 p e at),
    λ k c. let lt = f.1.1.0 k (f.1.0 k p c own) in
        let there : get_elem? v.seen k ≡ some c.1.0 = at_front v.seen pre.0 k c.1.0 lt (subst (λ (l : List E). get_elem? l k ≡ some c.1.0) pre.1 c.1.1) in
        let same : take k (history x) ≡ take k v.seen = ap (λ (l : List E). take k l) pre.1 ∙ take_front v.seen pre.0 k (omega arith) in
        unclosed k (c.0, (c.1.0, there, subst (λ (l : List E). closes l c.1.0 p) same c.1.2)),
  )
