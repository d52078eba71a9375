use Rattle.std.proofs.Common.{◌≡◌, true, take}
use Rattle.std.specs.List.{list_all}
use Rattle.sandbox_walk.proofs.bodies.are_all.Given as goal

abbrev pub invariant-loop-flag : goal.invariant-loop-flag
invariant-loop-flag l = list_all (λ b. b) (take l.flag-index l.flags) ≡ true
