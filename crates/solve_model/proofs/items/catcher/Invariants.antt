use Rattle.std.proofs.Common.{◌≡◌, ◌-◌, length, take}
use Rattle.solve_model.specs.Run.{catcher}
use Rattle.solve_model.specs.Search.{items_of}
use Rattle.solve_model.proofs.items.catcher.Given as goal

abbrev pub invariant-loop-i : goal.invariant-loop-i
invariant-loop-i l = catcher (items_of (take (length l.items - l.i) l.items)) ≡ catcher (items_of l.items)
