use Rattle.std.proofs.Common.{◌≡◌, ℕ, List, ◌++◌, false}
use Rattle.std.specs.Vec.Iter.{into_iter_items}
use Rattle.event_core.specs.declared.stop.Stop.{Stop}
use Rattle.event_core.specs.Readers.{ahead, resumes, tells}
use Rattle.event_core.proofs.reached.read_stops.Given as goal

abbrev pub invariant-loop-step : goal.invariant-loop-step
invariant-loop-step l = record {
  brings : (qs : List (ℕ × Stop)) → ahead l.fn.reader (l.fn.stops.items ++ qs) l.fn.requests ≡ tells l.events (ahead l.reader (into_iter_items l.step-iterator ++ qs) l.left);
  rests : resumes l.reader.stand l.left ≡ false;
  names : l.reader.names ≡ l.fn.reader.names;
}
