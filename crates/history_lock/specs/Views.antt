-- What a seat at the lock knows, and what a history with it has to keep.
use Rattle.std.specs.Prelude.{◌≡◌, ℕ, ◌+◌, ◌<◌, ◌≤◌, List, [], ◌∷◌, ◌++◌, length, take, ◌⊎◌, if◌then◌else◌, ◌==◌, ◌-◌, nat_lt}
use mathlib.Core.Option.{some}
use lib.ListN.{get_elem?}
use Rattle.history_lock.specs.declared.view.View.{View}
use Rattle.history_lock.specs.declared.view.Stage.{Stage}
use Rattle.history_lock.specs.declared.view.Stage.TheVariants.{Idle}

-- how often k stands in the list
abbrev pub times : ℕ → List ℕ → ℕ
times k [] = 0
times k (x ∷ xs) = (if x == k then 1 else 0) + times k xs

abbrev pub IsIn : ℕ → List ℕ → Type 0
IsIn k xs = 0 < times k xs

module _ {E : Type 0} where
  -- xs begins with seen
  abbrev pub StartsWith : List E → List E → Type 0
  StartsWith xs seen = (rest : List E) × (xs ≡ seen ++ rest)

  abbrev pub view : List E → List ℕ → Stage → ℕ → View E
  view seen mine stage spare = record { seen = seen; mine = mine; stage = stage; spare = spare }

  abbrev pub at_stage : View E → Stage → View E
  at_stage v st = view v.seen v.mine st v.spare

  -- what a split leaves, and what the new seat has
  abbrev pub one_less : View E → View E
  one_less v = view v.seen v.mine v.stage (v.spare - 1)

  abbrev pub newcomer : View E → View E
  newcomer v = view v.seen [] Idle 0

  abbrev pub longer : List E → List E → List E
  longer a b = if nat_lt (length a) (length b) then b else a

  -- the longer history and both lists of positions
  abbrev pub joined : View E → View E → View E
  joined v w = view (longer v.seen w.seen) (v.mine ++ w.mine) v.stage v.spare

  abbrev pub spent : View E
  spent = view [] [] Idle 0

  module _ (closes : List E → E → ℕ → Type 0) where
    -- the entry at k closes the earlier position p
    abbrev pub Closes : List E → ℕ → ℕ → Type 0
    Closes log k p = (p < k) × ((e : E) × (get_elem? log k ≡ some e) × closes (take k log) e p)

    -- an entry that closes one of these positions is one of them
    abbrev pub ClosedWithin : List E → List ℕ → Type 0
    ClosedWithin log mine = (k p : ℕ) → Closes log k p → IsIn p mine → IsIn k mine

    -- at most one entry is added, and it closes only such positions
    abbrev pub AddsOne : List ℕ → List E → List E → Type 0
    AddsOne mine h h' = (h' ≡ h) ⊎ ((e : E) × (h' ≡ h ++ e ∷ []) × ((p : ℕ) → p < length h → closes h e p → IsIn p mine))

  -- the positions with that of the entry that was added to h, if one was
  abbrev pub mine_after : List ℕ → List E → List E → List ℕ
  mine_after mine h h' = if length h' == length h then mine else mine ++ length h ∷ []

  -- each of one's positions is one of an entry that was seen
  abbrev pub IsBelow : View E → Type 0
  IsBelow v = (k : ℕ) → IsIn k v.mine → k < length v.seen

  -- no position stands twice in the list: so of a joined pass, no position is of both
  abbrev pub IsOnce : View E → Type 0
  IsOnce v = (k : ℕ) → times k v.mine ≤ 1

  -- what a call may find: the history begins with all that was seen, and no entry of another closes a position of one's own
  abbrev pub Finds : {T : Type 0} → (T → List E) → (List E → E → ℕ → Type 0) → View E → T → Type 0
  Finds history closes v x = StartsWith (history x) v.seen × (ClosedWithin closes (history x) v.mine × (IsBelow v × IsOnce v))
