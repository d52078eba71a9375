-- The rule of the lock: words ticket, serving and entries, and the slot of the value.
use Rattle.std.specs.Prelude.{◌≡◌, ◌≢◌, ℕ, ◌+◌, ◌%◌, ◌^◌, ◌<◌, ◌≤◌, List, [], ◌∷◌, length, if◌then◌else◌, nat_lt, true, false, Bool, Option as Option', Some}
use mathlib.Core.Option.{Option, some, none}
use lib.ListN.{get_elem?}
use Rattle.atomic_table.specs.Table.{State, Me, Step, rest}
use Rattle.history_lock.specs.declared.view.View.{View}
use Rattle.history_lock.specs.declared.view.Stage.{Stage}
use Rattle.history_lock.specs.declared.view.Stage.TheVariants.{Idle, Waiting, Holding}
use Rattle.history_lock.specs.Views.{times, IsIn, StartsWith, ClosedWithin, at_stage, view, mine_after, Finds}

abbrev pub has_ticket : Stage → ℕ
has_ticket Idle = 0
has_ticket (Waiting t) = 1
has_ticket (Holding t) = 1

abbrev pub holds_slot : Stage → Bool
holds_slot Idle = false
holds_slot (Waiting t) = false
holds_slot (Holding t) = true

abbrev pub once_below : ℕ → ℕ → ℕ
once_below k n = if nat_lt k n then 1 else 0

module _ {E : Type 0} where
  abbrev pub total : (View E → ℕ) → List (View E) → ℕ
  total f [] = 0
  total f (v ∷ vs) = f v + total f vs

module _ {E T : Type 0} (history : T → List E) (closes : List E → E → ℕ → Type 0) where
  -- a seat with a ticket stands in the line; the one that holds stands first, and has seen all
  abbrev pub InLine : ℕ → List ℕ → List E → Option (Option' T) → ℕ → List E → Stage → Type 0
  InLine serving line log home id seen Idle = Unit {0}
  InLine serving line log home id seen (Waiting t) = (k : ℕ) × (get_elem? line k ≡ some id) × (t ≡ (serving + k) % 2 ^ 64)
  InLine serving line log home id seen (Holding t) = (get_elem? line 0 ≡ some id) × (t ≡ serving) × (seen ≡ log) × (home ≡ none)

  -- the slot is empty just where the first in the line holds
  abbrev pub Placed : List ℕ → List E → List (View E) → Option (Option' T) → Type 0
  Placed line log views none = (id : ℕ) × (v : View E) × (get_elem? views id ≡ some v) × (holds_slot v.stage ≡ true) × (get_elem? line 0 ≡ some id)
  Placed line log views (some y) = (x : T) × (y ≡ Some x) × (history x ≡ log)

  pub record Fits (serving : ℕ) (line : List ℕ) (log : List E) (home : Option (Option' T)) (id : ℕ) (v : View E) : Type 0 where
    pub prefix : StartsWith log v.seen
    pub below : (k : ℕ) → IsIn k v.mine → k < length v.seen
    pub in_line : InLine serving line log home id v.seen v.stage
    pub closed : ClosedWithin closes log v.mine

  pub record Kept (seats : ℕ) (s : State (Option' T) (View E)) : Type 0 where
    pub serving : ℕ
    pub line : List ℕ
    pub log : List E
    pub home : Option (Option' T)
    pub words : s.words ≡ (serving + length line) % 2 ^ 64 ∷ serving ∷ length log ∷ []
    pub small : serving < 2 ^ 64
    pub homes : s.homes ≡ home ∷ []
    pub few : seats < 2 ^ 32
    pub tickets : total (λ v. has_ticket v.stage) s.views ≡ length line
    pub spares : total (λ v. 1 + v.spare) s.views ≤ seats
    pub placed : Placed line log s.views home
    pub each : (id : ℕ) (v : View E) → get_elem? s.views id ≡ some v → Fits serving line log home id v
    pub once : (k : ℕ) → total (λ v. times k v.mine) s.views ≡ once_below k (length log)

  abbrev Sat : Type 0
  Sat = Me (Option' T) (View E)

  -- kind 1: the seat has a ticket
  abbrev pub Draws : Step (Option' T) → Sat → ℕ → Sat → Type 0
  Draws st m found m' = m' ≡ (at_stage m.0 (Waiting found), m.1)

  -- the seat has the slot, with a value whose history begins with all that it had seen
  abbrev pub Takes : Sat → ℕ → Sat → Type 0
  Takes m t m' = (x : T) × (m' ≡ (view (history x) m.0.mine (Holding t) m.0.spare, (0, Some x) ∷ m.1)) × Finds history closes m.0 x

  -- kind 2: where its ticket is served, it takes the slot and has seen the history
  abbrev pub Looks : Step (Option' T) → Sat → ℕ → Sat → Type 0
  Looks st m found m' = (t : ℕ) → m.0.stage ≡ Waiting t → (found ≡ t → Takes m t m') × (found ≢ t → m' ≡ m)

  -- kind 4: the history is that of the value in its slot
  abbrev pub Adds : Step (Option' T) → Sat → ℕ → Sat → Type 0
  Adds st m found m' = (x : T) (cs : List (ℕ × Option' T)) → m.1 ≡ (0, Some x) ∷ cs → m' ≡ (view (history x) (mine_after m.0.mine m.0.seen (history x)) m.0.stage m.0.spare, m.1)

  -- kind 6: the slot is at home, and the seat has no ticket
  abbrev pub Leaves : Step (Option' T) → Sat → ℕ → Sat → Type 0
  Leaves st m found m' = m' ≡ (at_stage m.0 Idle, rest m.1)
