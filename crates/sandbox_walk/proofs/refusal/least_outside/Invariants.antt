use Rattle.std.proofs.Common.{◌≡◌, ◌-◌, length, drop}
use Rattle.std.specs.Option.{option_map}
use Rattle.sandbox_walk.specs.Verdict.{least_outside}
use Rattle.sandbox_walk.proofs.refusal.least_outside.Given as goal

abbrev pub invariant-loop-i : goal.invariant-loop-i
invariant-loop-i l = option_map (λ pi. pi.now) l.least ≡ least_outside l.table (drop (length l.found - l.i) l.found)
