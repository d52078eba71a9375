use Rattle.std.proofs.Common.{◌≡◌, drop, nat_lt}
use Rattle.std.specs.List.{list_all}
use Rattle.prims_tree.proofs.placed.offer_has_places.Given as goal

abbrev pub invariant-loop-pair : goal.invariant-loop-pair
invariant-loop-pair l =
    list_all (λ p. nat_lt p.0 l.count) (drop l.pair-index l.pair-items) ≡ list_all (λ p. nat_lt p.0 l.count) l.offer.pairs
