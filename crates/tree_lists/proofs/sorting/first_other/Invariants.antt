use Rattle.std.proofs.Common.{◌≡◌, drop, not}
use Rattle.std.specs.List.{find}
use Rattle.builtin_table.specs.Sorting.{is_pair}
use Rattle.tree_lists.proofs.sorting.first_other.Given as goal

abbrev pub invariant-loop-term : goal.invariant-loop-term
invariant-loop-term l = find (λ t. not (is_pair t)) (drop l.term-index l.terms) ≡ find (λ t. not (is_pair t)) l.terms
