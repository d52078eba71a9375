use Rattle.std.proofs.Common.{◌≡◌, ◌-◌, length, drop, reverse}
use Rattle.sandbox_walk.specs.Pending.{tree_bodies, bodies_at}
use Rattle.sandbox_walk.proofs.bodies.bodies_at.Given as goal

abbrev pub invariant-loop-i : goal.invariant-loop-i
invariant-loop-i l = record {
  trees : l.trees.items ≡ tree_bodies (drop (length l.nodes - l.i) l.nodes);
  bodies : l.bodies.items ≡ reverse (bodies_at (drop (length l.nodes - l.i) l.nodes));
}
