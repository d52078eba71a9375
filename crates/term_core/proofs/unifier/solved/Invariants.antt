use Rattle.std.proofs.Common.{◌≡◌, [], drop}
use Rattle.term_core.specs.Preorder.{AreTermNodes}
use Rattle.term_core.specs.Sides.{pending}
use Rattle.term_core.specs.Unifier.{solution, turns}
use Rattle.term_core.proofs.unifier.solved.Given as goal

abbrev pub invariant-loop-at : goal.invariant-loop-at
invariant-loop-at l = record {
  left : AreTermNodes (drop l.at l.left.items);
  right : AreTermNodes (drop l.at l.right.items);
  same : solution (pending (drop l.at l.left.items) (drop l.at l.right.items)) l.found ≡ solution (pending l.fn.left.items l.fn.right.items) [];
}

abbrev pub decreases-loop-at : goal.decreases-loop-at
decreases-loop-at l = turns (pending (drop l.at l.left.items) (drop l.at l.right.items)) l.found
