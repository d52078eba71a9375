use Rattle.std.proofs.Common.{◌≡◌, map, take}
use Rattle.term_core.specs.Substitution.{apply}
use Rattle.solve_model.proofs.catches.applied.Given as goal

abbrev pub invariant-loop-term : goal.invariant-loop-term
invariant-loop-term l = l.all.items ≡ map (apply l.subst) (take l.term-index l.terms)
