use Rattle.std.proofs.Common.{◌≡◌, take}
use Rattle.event_core.specs.Parts.{replies}
use Rattle.event_core.proofs.stops.replies_of.Given as goal

abbrev pub invariant-loop-request : goal.invariant-loop-request
invariant-loop-request l = l.found.items ≡ replies (take l.request-index l.requests)
