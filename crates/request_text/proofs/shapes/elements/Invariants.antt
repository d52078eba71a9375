use Rattle.std.proofs.Common.{◌≡◌, ◌≤◌, ◌-◌, length}
use Rattle.request_text.specs.Shapes.{elements}
use Rattle.request_text.proofs.TermShapes.{behind}
use Rattle.request_text.proofs.shapes.elements.Given as goal

abbrev pub invariant-loop-alloc : goal.invariant-loop-alloc
invariant-loop-alloc l = record {
  found : elements l.fn.term ≡ behind l.items.items (elements l.rest);
  few : length l.items.items ≤ l.most;
}

abbrev pub decreases-loop-alloc : goal.decreases-loop-alloc
decreases-loop-alloc l = l.most - length l.items.items
