use Rattle.std.proofs.Common.{◌≡◌, ◌-◌, length, drop}
use Rattle.program.specs.Symbols.{node_bodies}
use Rattle.program.proofs.bodies.is_body.Given as goal

abbrev pub invariant-loop-i : goal.invariant-loop-i
invariant-loop-i l = l.bodies.items ≡ node_bodies (drop (length l.nodes - l.i) l.nodes)
