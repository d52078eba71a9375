use Rattle.std.proofs.Common.{◌≡◌, ℕ, List, ◌++◌}
use Rattle.std.specs.Vec.Iter.{into_iter_items}
use Rattle.event_core.specs.declared.stop.Stop.{Stop}
use Rattle.event_core.specs.Texts.{quoted}
use Rattle.event_core.specs.Fits.{fits}
use Rattle.event_core.specs.Stops.{stops_of, cut_at}
use Rattle.event_core.proofs.stops.add_marks.Given as goal

abbrev pub invariant-loop-step : goal.invariant-loop-step
invariant-loop-step l =
    (end : List (ℕ × Stop)) → l.stops.items ++ cut_at (fits quoted) (stops_of (into_iter_items l.step-iterator) end) ≡ l.initial.stops.items ++ cut_at (fits quoted) (stops_of l.fn.marks end)
