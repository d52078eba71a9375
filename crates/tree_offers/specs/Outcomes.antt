-- What a primitive gives, as the definition has it.
use Rattle.std.specs.Prelude.{◌≡◌, ℕ, List, map, ⊤}
use Rattle.std.specs.List.{All}
use Rattle.term_core.specs.Tree.{Tree}
use Rattle.builtin_table.specs.Primitives.{Outcome, Offers, Ball, Unknown, primitive}
use Rattle.tree_offers.specs.Results.{for_arguments, IsOver, HasPlaces}
use Rattle.tree_offers.specs.declared.outcome.Outcome as kept
use Rattle.tree_offers.specs.declared.outcome.Outcome.TheVariants as the

-- the definition's outcome for these arguments
abbrev pub outcome_of : List Tree → kept.Outcome → Outcome
outcome_of ts (the.Offers rs) = Offers (map (for_arguments ts) rs)
outcome_of ts (the.Ball b) = Ball b

abbrev pub OutcomeHasPlaces : (count : ℕ) → kept.Outcome → Type 0
OutcomeHasPlaces count (the.Offers rs) = All (HasPlaces count) rs
OutcomeHasPlaces count (the.Ball b) = ⊤

-- there is such a primitive, and each pair of each of its results begins with one of the arguments
abbrev pub AreOver : List Tree → Outcome → Type 0
AreOver ts (Offers os) = All (IsOver ts) os
AreOver ts (Ball b) = ⊤
AreOver ts Unknown = ⊥

-- a primitive that has no new variables: its outcome is the same whatever number is next
pub record IsPlain (f : List ℕ) (ts : List Tree) : Type 0 where
  pub over : AreOver ts (primitive f ts 0)
  pub same : (next : ℕ) → primitive f ts next ≡ primitive f ts 0
