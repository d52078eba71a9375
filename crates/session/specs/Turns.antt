-- What one turn of a query makes of the events of its part.
use Rattle.std.specs.Prelude.{◌≡◌, ℕ, zero, suc, ◌+◌, ◌≤◌, ◌<◌, Bool, true, false, ◌⊎◌, List, length, Option, Some, None, All, take, drop, slice_get, option_map}
use Rattle.event_core.specs.declared.event.Event.{Event}
use Rattle.event_core.specs.Parts.{Part}

-- the step of the last of the first e events
abbrev pub last_step : ℕ → List (ℕ × Event) → Option ℕ
last_step zero es = None
last_step (suc e) es = option_map (λ x. x.0) (slice_get es e)

-- The turn fills its room, or it comes to the rest of the part.
abbrev pub IsFull : Part → (e room events : ℕ) → Type 0
IsFull p e room events = (events ≡ room) ⊎ (e + events ≡ length p.events)

-- A turn that starts with n steps and e events of the part, and makes so many steps and events.
pub record Turned (p : Part) (n e budget room steps events : ℕ) : Type 0 where
  pub in_budget : steps ≤ budget
  pub in_room : events ≤ room
  pub within : e + events ≤ length p.events
  pub moves : (0 < steps) ⊎ (0 < events)
  -- of the events after the first e, all of earlier steps are among those of the turn, and none of later ones is
  pub none_missed : All (λ x. n + steps ≤ x.0) (drop (e + events) p.events)
  pub none_early : All (λ x. x.0 ≤ n + steps) (drop e (take (e + events) p.events))
  -- a full turn ends at its last event, and any other uses up its budget
  pub stopped : IsFull p e room events → last_step (e + events) p.events ≡ Some (n + steps)
  pub ran_on : ¬ IsFull p e room events → steps ≡ budget

-- a turn that ended by want of memory: it didn't come to the rest of the part
pub record Starving (p : Part) (n e budget room steps events : ℕ) : Type 0 where
  pub in_budget : steps ≤ budget
  pub in_room : events < room
  pub unfinished : e + events < length p.events
  pub none_missed : All (λ x. n + steps ≤ x.0) (drop (e + events) p.events)
  pub none_early : All (λ x. x.0 ≤ n + steps) (drop e (take (e + events) p.events))

abbrev pub Turns : Part → (n e budget room steps events : ℕ) → Bool → Type 0
Turns p n e budget room steps events true = Starving p n e budget room steps events
Turns p n e budget room steps events false = Turned p n e budget room steps events
