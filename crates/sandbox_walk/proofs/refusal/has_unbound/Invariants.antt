use Rattle.std.proofs.Common.{◌≡◌, false, take}
use Rattle.std.specs.List.{list_any}
use Rattle.sandbox_walk.specs.Verdict.{is_unbound}
use Rattle.sandbox_walk.proofs.refusal.has_unbound.Given as goal

abbrev pub invariant-loop-item : goal.invariant-loop-item
invariant-loop-item l = list_any is_unbound (take l.item-index l.found) ≡ false
