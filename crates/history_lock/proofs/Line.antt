-- What a change of the line leaves.
use Rattle.std.proofs.Common.{◌≡◌, ◌≢◌, ℕ, zero, suc, ◌+◌, ◌%◌, ◌^◌, ◌<◌, ◌≤◌, ⊎_elim, List, [], ◌∷◌, ◌++◌, set, sym, ap, ◌∙◌, subst, arith, true, true≢false}
use Rattle.std.proofs.Math.Nat.{mod-add-mod}
use Rattle.std.specs.Prelude.{Option as Option'}
use mathlib.Core.Option.{Option, some, none, some-injective}
use lib.ListN.{get_elem?}
use Rattle.atomic_table.specs.Table.{State}
use Rattle.atomic_table.proofs.Lists.{at_set, set_else, at_longer, one_turn}
use Rattle.history_lock.specs.declared.view.View.{View}
use Rattle.history_lock.specs.declared.view.Stage.{Stage}
use Rattle.history_lock.specs.declared.view.Stage.TheVariants.{Idle, Waiting, Holding}
use Rattle.history_lock.specs.Views.{StartsWith, ClosedWithin}
use Rattle.history_lock.specs.Rule.{has_ticket, holds_slot, InLine, Placed, Fits, Kept}
use Rattle.history_lock.proofs.Sums.{place_below, total_le}

-- the first in the line has the ticket that is served
pub first_is : (serving k : ℕ) → serving < 2 ^ 64 → k < 2 ^ 32 → serving ≡ (serving + k) % 2 ^ 64 → k ≡ 0
first_is serving k small few is =
    let e : serving ≡ serving + k = one_turn serving (serving + k) (2 ^ 64) (omega arith) (omega arith) (omega arith) in omega arith

pub served_next : (s n : ℕ) → (s + suc n) % 2 ^ 64 ≡ ((s + 1) % 2 ^ 64 + n) % 2 ^ 64
served_next s n = let e : s + suc n ≡ (s + 1) + n = omega arith in ap (λ (x : ℕ). x % 2 ^ 64) e ∙ sym (mod-add-mod (s + 1) (2 ^ 64) n)

pub drawn_next : (s n : ℕ) → ((s + n) % 2 ^ 64 + 1) % 2 ^ 64 ≡ (s + (n + 1)) % 2 ^ 64
drawn_next s n = let e : (s + n) + 1 ≡ s + (n + 1) = omega arith in mod-add-mod (s + n) (2 ^ 64) 1 ∙ ap (λ (x : ℕ). x % 2 ^ 64) e

ticket_le : {E : Type 0} (v : View E) → has_ticket v.stage ≤ 1 + v.spare
ticket_le v = elim v.stage as (λ (st : Stage). has_ticket st ≤ 1 + v.spare) [ Idle ↦ omega arith | Waiting t ↦ omega arith | Holding t ↦ omega arith ]

module _ {E T : Type 0} (history : T → List E) (closes : List E → E → ℕ → Type 0) where
  not_holding : (serving : ℕ) (line : List ℕ) (log seen : List E) (home : Option (Option' T)) (id j : ℕ) → get_elem? line 0 ≡ some id → j ≢ id
      → (st : Stage) → InLine history closes serving line log home j seen st → holds_slot st ≡ true → ⊥
  not_holding serving line log seen home id j first ne Idle l is = true≢false (sym is)
  not_holding serving line log seen home id j first ne (Waiting t) l is = true≢false (sym is)
  not_holding serving line log seen home id j first ne (Holding t) l is = ne (some-injective j id (sym l.0 ∙ first))

  -- one joins the line at its end
  line_longer : (serving : ℕ) (line : List ℕ) (log seen : List E) (home : Option (Option' T)) (id j : ℕ) (st : Stage)
      → InLine history closes serving line log home j seen st → InLine history closes serving (line ++ id ∷ []) log home j seen st
  line_longer serving line log seen home id j Idle l = tt
  line_longer serving line log seen home id j (Waiting t) l = (l.0, at_longer line (id ∷ []) l.0 j l.1, l.2)
  line_longer serving line log seen home id j (Holding t) l = (at_longer line (id ∷ []) 0 j l.0, l.1, l.2, l.3)

  pub fits_longer : (serving : ℕ) (line : List ℕ) (log : List E) (home : Option (Option' T)) (id j : ℕ) (v : View E)
      → Fits history closes serving line log home j v → Fits history closes serving (line ++ id ∷ []) log home j v
  fits_longer serving line log home id j v f = record { prefix = f.prefix; below = f.below; in_line = line_longer serving line log v.seen home id j v.stage f.in_line; closed = f.closed }

  -- the first takes the slot, or its history grows
  line_taken : (serving : ℕ) (line : List ℕ) (log log' seen : List E) (home home' : Option (Option' T)) (id j : ℕ) → get_elem? line 0 ≡ some id → j ≢ id → (st : Stage)
      → InLine history closes serving line log home j seen st → InLine history closes serving line log' home' j seen st
  line_taken serving line log log' seen home home' id j first ne Idle l = tt
  line_taken serving line log log' seen home home' id j first ne (Waiting t) l = l
  line_taken serving line log log' seen home home' id j first ne (Holding t) l = absurd (ne (some-injective j id (sym l.0 ∙ first)))

  pub fits_taken : (serving : ℕ) (line : List ℕ) (log log' : List E) (home home' : Option (Option' T)) (id j : ℕ) (v : View E) → get_elem? line 0 ≡ some id → j ≢ id
      → StartsWith log' v.seen → ClosedWithin closes log' v.mine → Fits history closes serving line log home j v → Fits history closes serving line log' home' j v
  fits_taken serving line log log' home home' id j v first ne pre closed f = record { prefix = pre; below = f.below; in_line = line_taken serving line log log' v.seen home home' id j first ne v.stage f.in_line; closed = closed }

  -- the first leaves
  moved_up : (serving t : ℕ) (tail : List ℕ) (id j k : ℕ) → j ≢ id → get_elem? (id ∷ tail) k ≡ some j → t ≡ (serving + k) % 2 ^ 64
      → (i : ℕ) × (get_elem? tail i ≡ some j) × (t ≡ ((serving + 1) % 2 ^ 64 + i) % 2 ^ 64)
  moved_up serving t tail id j zero ne at is = absurd (ne (sym (some-injective id j at)))
  moved_up serving t tail id j (suc i) ne at is = (i, at, is ∙ served_next serving i)

  line_left : (serving : ℕ) (line tail : List ℕ) (log seen : List E) (home home' : Option (Option' T)) (id j : ℕ) → line ≡ id ∷ tail → j ≢ id → (st : Stage)
      → InLine history closes serving line log home j seen st → InLine history closes ((serving + 1) % 2 ^ 64) tail log home' j seen st
  line_left serving line tail log seen home home' id j is ne Idle l = tt
  line_left serving line tail log seen home home' id j is ne (Waiting t) l = moved_up serving t tail id j l.0 ne (subst (λ (x : List ℕ). get_elem? x l.0 ≡ some j) is l.1) l.2
  line_left serving line tail log seen home home' id j is ne (Holding t) l = absurd (ne (sym (some-injective id j (subst (λ (x : List ℕ). get_elem? x 0 ≡ some j) is l.0))))

  pub fits_left : (serving : ℕ) (line tail : List ℕ) (log : List E) (home home' : Option (Option' T)) (id j : ℕ) (v : View E) → line ≡ id ∷ tail → j ≢ id
      → Fits history closes serving line log home j v → Fits history closes ((serving + 1) % 2 ^ 64) tail log home' j v
  fits_left serving line tail log home home' id j v is ne f = record { prefix = f.prefix; below = f.below; in_line = line_left serving line tail log v.seen home home' id j is ne v.stage f.in_line; closed = f.closed }

  -- a view of all, after one has changed
  pub all_set : (F : ℕ → View E → Type 0) (views : List (View E)) (id : ℕ) (w : View E) → F id w → ((j : ℕ) (u : View E) → j ≢ id → get_elem? views j ≡ some u → F j u)
      → (j : ℕ) (u : View E) → get_elem? (set views id w) j ≡ some u → F j u
  all_set F views id w mine others j u e = ⊎_elim (λ (x : (j ≡ id) × (w ≡ u)). subst (λ (y : ℕ × View E). F y.0 y.1) (λ i. (sym x.0 i, x.1 i)) mine)
      (λ (x : (j ≢ id) × (get_elem? views j ≡ some u)). others j u x.0 x.1) (at_set views id j w u e)

  -- the holder stays, where another's view changes
  pub placed_stays : (line line' : List ℕ) (log : List E) (views : List (View E)) (id : ℕ) (v w : View E) → get_elem? views id ≡ some v → (holds_slot v.stage ≡ true → ⊥)
      → ((j : ℕ) → get_elem? line 0 ≡ some j → get_elem? line' 0 ≡ some j) → (home : Option (Option' T)) → Placed history closes line log views home → Placed history closes line' log (set views id w) home
  placed_stays line line' log views id v w at not first (some y) p = p
  placed_stays line line' log views id v w at not first none p =
      let ne : p.0 ≢ id = λ e. not (ap (λ (u : View E). holds_slot u.stage) (some-injective v p.1 (sym at ∙ (λ i. get_elem? views (sym e i)) ∙ p.2)) ∙ p.3) in
      (p.0, p.1, set_else views id p.0 w ne ∙ p.2, p.3, first p.0 p.4)

  -- no more are in the line than there are seats
  pub few_in_line : (seats k j : ℕ) (s : State (Option' T) (View E)) (r : Kept history closes seats s) → get_elem? r.line k ≡ some j → k < 2 ^ 32
  few_in_line seats k j s r at = let a = place_below r.line k j at in let b = total_le (λ (v : View E). has_ticket v.stage) (λ (v : View E). 1 + v.spare) s.views ticket_le in
      let c = r.tickets in let d = r.spares in let e = r.few in omega arith
