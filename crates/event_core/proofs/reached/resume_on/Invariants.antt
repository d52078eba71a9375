use Rattle.std.proofs.Common.{◌≡◌, ℕ, List, length}
use Rattle.event_core.specs.declared.stop.Stop.{Stop}
use Rattle.event_core.specs.Readers.{ahead, tells}
use Rattle.event_core.proofs.reached.resume_on.Given as goal

abbrev pub invariant-loop-request : goal.invariant-loop-request
invariant-loop-request l = record {
  brings : (qs : List (ℕ × Stop)) → tells l.fn.events (ahead l.fn.reader qs l.fn.requests) ≡ tells l.events (ahead l.reader qs l.left);
  names : l.reader.names ≡ l.fn.reader.names;
}

abbrev pub decreases-loop-request : goal.decreases-loop-request
decreases-loop-request l = length l.left
