use Rattle.std.proofs.Common.{◌≡◌, map, filter, not, take}
use Rattle.program.specs.ByPredicate.{in_order}
use Rattle.program.specs.Kept.{clause_of}
use Rattle.program.specs.Source.{defines}
use Rattle.program.proofs.clause_map.without.Given as goal

abbrev pub invariant-loop-place : goal.invariant-loop-place
invariant-loop-place l =
    map (λ c. clause_of c.now) l.kept.items ≡ filter (λ c. not (defines l.other c.head)) (in_order l.by_arity (take l.place-index l.order))
