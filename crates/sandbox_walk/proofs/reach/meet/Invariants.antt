use Rattle.std.proofs.Common.{take}
use Rattle.sandbox_walk.specs.Seen.{HasMet}
use Rattle.sandbox_walk.proofs.reach.meet.Given as goal

abbrev pub invariant-loop-item : goal.invariant-loop-item
invariant-loop-item l = HasMet (take l.item-index l.found) l.fn.walk l.walk
