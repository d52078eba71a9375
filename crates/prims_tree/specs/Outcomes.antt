-- What a primitive gives, as the definition has it.
use Rattle.std.specs.Prelude.{◌≡◌, ℕ, true, List, ⊤}
use Rattle.std.specs.List.{list_all}
use Rattle.term_core.specs.Tree.{Tree}
use Rattle.tree_results.specs.Placed.{has_places, results_for}
use Rattle.prims_tree.specs.declared.outcome.Outcome as kept
use Rattle.prims_tree.specs.declared.outcome.Outcome.TheVariants as the
use Rattle.prims_tree.specs.declared.outcome.PlacedOutcome as placed
use Rattle.prims_tree.specs.declared.outcome.PlacedOutcome.TheVariants as by_place
use Rattle.builtin_table.specs.Primitives.{Outcome, Offers, Ball, Unknown}

abbrev pub outcome_of : kept.Outcome → Outcome
outcome_of (the.Offers os) = Offers os
outcome_of (the.Ball b) = Ball b
outcome_of the.Unknown = Unknown

-- for these arguments
abbrev pub placed_outcome_of : List Tree → placed.PlacedOutcome → Outcome
placed_outcome_of ts (by_place.Offers rs) = results_for ts rs
placed_outcome_of ts (by_place.Ball b) = Ball b
placed_outcome_of ts by_place.Unknown = Unknown

-- each place of the results is that of one of so many arguments
abbrev pub OutcomeHasPlaces : (count : ℕ) → placed.PlacedOutcome → Type 0
OutcomeHasPlaces count (by_place.Offers rs) = list_all (has_places count) rs ≡ true
OutcomeHasPlaces count (by_place.Ball b) = ⊤
OutcomeHasPlaces count by_place.Unknown = ⊤
