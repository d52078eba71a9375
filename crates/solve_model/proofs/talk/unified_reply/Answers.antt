use Rattle.std.proofs.Common.{arith, ap, length, List, ℕ}
use Rattle.term_core.specs.Tree.{Tree, greatest}
use Rattle.term_core.specs.Variables.{occurrences}
use Rattle.tree_results.proofs.NewVariables.{greatest-numbered}
use Rattle.solve_model.proofs.talk.unified_reply.Goals as goal

pub rename-requires : goal.rename-requires
rename-requires c =
    omega (arith, ap (λ (t : Tree). greatest (occurrences t)) c.in_ok-numbered.ensures, greatest-numbered c.args.reply.now, ap (λ (xs : List ℕ). length xs) c.in_ok-variables.ensures)
