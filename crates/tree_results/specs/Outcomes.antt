-- What a primitive gives, as the definition has it.
use Rattle.std.specs.Prelude.{List, [], ◌∷◌, Option, Some, None}
use Rattle.term_core.specs.Tree.{Tree}
use Rattle.tree_results.specs.declared.results.Offer as kept_offer
use Rattle.tree_results.specs.declared.results.Outcome as kept
use Rattle.tree_results.specs.declared.results.Outcome.TheVariants as the
use Rattle.builtin_table.specs.Outcomes.{Outcome, Ball, Unknown}
use Rattle.tree_results.specs.Placed.{Result, results_for}

abbrev pub result_of : kept_offer.Offer → Result
result_of o = record { pairs = o.pairs; fresh = o.fresh }

abbrev pub results_of : Option kept_offer.Offer → List Result
results_of None = []
results_of (Some o) = result_of o ∷ []

-- for these arguments
unfoldable pub outcome_of : List Tree → kept.Outcome → Outcome
outcome_of ts (the.Result o) = results_for ts (results_of o)
outcome_of ts (the.Ball b) = Ball b
outcome_of ts the.Unknown = Unknown
