use Rattle.std.proofs.Common.{◌≡◌, true, take}
use Rattle.std.specs.List.{list_all}
use Rattle.sandbox_walk.specs.Passes.{opens}
use Rattle.sandbox_walk.proofs.positions.all_open.Given as goal

abbrev pub invariant-loop-item : goal.invariant-loop-item
invariant-loop-item l = list_all opens (take l.item-index l.found) ≡ true
