use Rattle.std.proofs.Common.{◌-◌, length, drop}
use Rattle.solve_model.specs.Dropping.{NoneCollect}
use Rattle.solve_model.proofs.collecting.innermost.Given as goal

abbrev pub invariant-loop-i : goal.invariant-loop-i
invariant-loop-i l = NoneCollect (drop (length l.frames - l.i) l.frames)
