use Rattle.std.proofs.Common.{◌≡◌, map, take, All}
use Rattle.std.specs.List.{flat_map}
use Rattle.term_core.specs.Tree.{IsTerm}
use Rattle.term_core.specs.Flat.{flatten}
use Rattle.term_core.specs.Substitution.{apply}
use Rattle.term_core.proofs.unifier.sides.Given as goal

abbrev pub invariant-loop-pair : goal.invariant-loop-pair
invariant-loop-pair l = record {
  left : l.left.items ≡ flat_map flatten (map (λ p. apply l.s p.0) (take l.pair-index l.pairs));
  right : l.right.items ≡ flat_map flatten (map (λ p. apply l.s p.1) (take l.pair-index l.pairs));
  left_terms : All (λ p. IsTerm (apply l.s p.0)) (take l.pair-index l.pairs);
  right_terms : All (λ p. IsTerm (apply l.s p.1)) (take l.pair-index l.pairs);
}
