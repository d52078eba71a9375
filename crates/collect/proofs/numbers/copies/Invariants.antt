use Rattle.std.proofs.Common.{◌≡◌, take}
use Rattle.builtin_table.specs.Solutions.{copies, after_copies}
use Rattle.collect.proofs.numbers.copies.Given as goal

abbrev pub invariant-loop-term : goal.invariant-loop-term
invariant-loop-term l = record {
  copies : l.copies.items ≡ copies l.first (take l.term-index l.terms);
  next : l.next ≡ after_copies l.first (take l.term-index l.terms);
}
