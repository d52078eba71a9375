use Rattle.std.proofs.Common.{◌≡◌, drop}
use Rattle.std.specs.List.{list_any}
use Rattle.builtin_table.specs.Outcomes.{is_variable}
use Rattle.tree_results.proofs.lists.has_variable.Given as goal

abbrev pub invariant-loop-term : goal.invariant-loop-term
invariant-loop-term l = list_any is_variable (drop l.term-index l.terms) ≡ list_any is_variable l.terms
