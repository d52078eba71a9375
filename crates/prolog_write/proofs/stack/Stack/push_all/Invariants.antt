use Rattle.std.proofs.Common.{◌≡◌, ◌-◌, map, drop, length}
use Rattle.prolog_write.specs.Duties.{duty_of, pushed}
use Rattle.prolog_write.proofs.stack.Stack.push_all.Given as goal

abbrev pub invariant-loop-i : goal.invariant-loop-i
invariant-loop-i l = l.self ≡ pushed l.initial.self (map (duty_of l.initial.self.mode) (drop (length l.upcoming - l.i) l.upcoming))
