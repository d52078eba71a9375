use Rattle.std.proofs.Common.{◌≡◌, ◌++◌, length}
use Rattle.term_core.specs.Flat.{parse}
use Rattle.builtin_table.specs.Solutions.{carets, behind_carets}
use Rattle.tree_results.proofs.Cells.{IsNodes}
use Rattle.solve_model.proofs.solutions.carets.Given as goal

abbrev pub invariant-loop-parts : goal.invariant-loop-parts
invariant-loop-parts l = record {
  nodes : IsNodes l.nodes;
  carets : l.found.items ++ carets (parse l.nodes) ≡ carets l.fn.goal;
  behind : behind_carets (parse l.nodes) ≡ behind_carets l.fn.goal;
}

abbrev pub decreases-loop-parts : goal.decreases-loop-parts
decreases-loop-parts l = length l.nodes
