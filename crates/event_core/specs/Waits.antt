-- Events that are handed out together (Lager and Wielemaker, TPLP 2014, section 3).
use Rattle.std.specs.Prelude.{ℕ, List}
use Rattle.event_core.specs.declared.event.Event.{Event}

-- the events in order, and the number of the first
pub record Waits : Type 0 where
  pub first : ℕ
  pub events : List Event
