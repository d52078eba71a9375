use Rattle.std.proofs.Common.{◌≡◌, map, take}
use Rattle.term_core.specs.Tree.{variable}
use Rattle.event_core.proofs.names.variables_of.Given as goal

abbrev pub invariant-loop-number : goal.invariant-loop-number
invariant-loop-number l = l.variables.items ≡ map (λ p. variable p.1) (take l.number-index l.named)
