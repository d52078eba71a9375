use Rattle.std.proofs.Common.{◌≡◌, take}
use Rattle.builtin_table.specs.Solutions.{after_copies}
use Rattle.collect.proofs.numbers.variable_count.Given as goal

abbrev pub invariant-loop-term : goal.invariant-loop-term
invariant-loop-term l = l.count ≡ after_copies 0 (take l.term-index l.terms)
