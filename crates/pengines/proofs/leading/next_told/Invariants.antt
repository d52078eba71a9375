use Rattle.std.proofs.Common.{◌≡◌, true, length}
use Rattle.pengines.specs.Printed.{left, IsLedOn}
use Rattle.pengines.proofs.leading.next_told.Given as goal

abbrev pub invariant-loop-event : goal.invariant-loop-event
invariant-loop-event l = record {
  led : IsLedOn l.session;
  same : left l.initial.session true l.initial.lines.items ≡ left l.session true l.lines.items;
}

abbrev pub decreases-loop-event : goal.decreases-loop-event
decreases-loop-event l = length l.lines.items
