use Rattle.std.proofs.Common.{◌≡◌, ◌++◌, map, take}
use Rattle.term_core.specs.Substitution.{apply}
use Rattle.term_core.proofs.subst.Subst.followed_by.Given as goal

abbrev pub invariant-loop-pair : goal.invariant-loop-pair
invariant-loop-pair l = l.all ≡ map (λ p. (p.0, apply l.next p.1)) (take l.pair-index l.pair-items)

abbrev pub invariant-loop-pair-2 : goal.invariant-loop-pair-2
invariant-loop-pair-2 l = l.all ≡ l.initial.all ++ take l.pair-index l.pair-items
