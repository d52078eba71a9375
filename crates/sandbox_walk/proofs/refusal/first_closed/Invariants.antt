use Rattle.std.proofs.Common.{◌≡◌, ◌-◌, length, drop}
use Rattle.std.specs.Option.{option_map}
use Rattle.sandbox_walk.specs.Verdict.{first_closed}
use Rattle.sandbox_walk.proofs.refusal.first_closed.Given as goal

abbrev pub invariant-loop-i : goal.invariant-loop-i
invariant-loop-i l = option_map (λ c. (c.0.now, c.1.now)) l.first ≡ first_closed (drop (length l.found - l.i) l.found)
