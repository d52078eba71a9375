use Rattle.std.proofs.Common.{◌≡◌, ◌++◌, length}
use Rattle.session.proofs.ring.move_first.Given as goal

-- what was moved, and behind it what is left
abbrev pub invariant-loop-i : goal.invariant-loop-i
invariant-loop-i g l = record {
  split : l.to.items ++ l.from.items ≡ l.fn.from.items;
  count : length l.to.items ≡ l._i;
  places : l.to.capacity ≡ l.fn.to.capacity;
  kept : l.from.capacity ≡ l.fn.from.capacity;
}
