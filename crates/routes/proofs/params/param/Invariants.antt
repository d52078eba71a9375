use Rattle.std.proofs.Common.{◌≡◌}
use Rattle.form_urlencoded.specs.Parse.{raw_pairs_left}
use Rattle.routes.specs.Params.{first_param, first_among}
use Rattle.routes.proofs.params.param.Given as goal

abbrev pub invariant-pairs : goal.invariant-pairs
invariant-pairs l =
    (goal.iterator-pairs).can_next l.key-iterator ×
    (goal.iterator-pairs).is_finite l.key-iterator ×
    (first_among l.name (raw_pairs_left l.key-iterator) ≡ first_param l.query l.name)
