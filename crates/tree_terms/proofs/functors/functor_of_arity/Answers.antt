use Rattle.std.proofs.Common.{arith, ap, length, List}
use Rattle.term_core.specs.Tree.{Tree}
use Rattle.tree_results.proofs.NewVariables.{length-new_variables}
use Rattle.tree_terms.proofs.functors.functor_of_arity.Goals as goal

pub comp-requires-clause-few : goal.comp-requires-clause-few
comp-requires-clause-few c =
    omega (arith, c.deref.ensures.len, ap (λ (ts : List Tree). length ts) c.deref.ensures.value, ap (λ (ts : List Tree). length ts) c.in_ok-arguments-in-Atom.ensures, length-new_variables c.args.next c.args.count, c.requires)
