use Rattle.std.proofs.Common.{◌≡◌, length}
use Rattle.solve_model.specs.Run.{World, Ran, after, cut_to}
use Rattle.solve_model.specs.Search.{resumed}
use Rattle.solve_model.proofs.frames.drop_above.Given as goal

abbrev pub invariant-loop-frame : goal.invariant-loop-frame
invariant-loop-frame l =
    (w : World) (r : Ran) → resumed w l.stack.frames.items (after r (cut_to l.level)) ≡ resumed w l.fn.stack.frames.items (after r (cut_to l.level))

abbrev pub decreases-loop-frame : goal.decreases-loop-frame
decreases-loop-frame l = length l.stack.frames.items
