-- What a primitive gives over cells, as the definition has it.
use Rattle.std.specs.Prelude.{ℕ, ◌<◌, List, [], ◌∷◌, map, length, slice_index, ⊤}
use Rattle.std.specs.List.{All}
use Rattle.term_core.specs.Tree.{Tree}
use Rattle.builtin_table.specs.Primitives.{Outcome, Offers, Ball, Unknown}
use Rattle.store.specs.Cells.{Cells, IsCell, tree_of}
use Rattle.prims_term.specs.declared.outcome.Outcome as kept
use Rattle.prims_term.specs.declared.outcome.Outcome.TheVariants as the

-- the terms that a pair of an argument and a cell makes one
abbrev pub pair_trees : Cells → (args : List ℕ) → ℕ × ℕ → Tree × Tree
pair_trees s args p = (tree_of s (slice_index args p.0), tree_of s p.1)

-- where each result has so many new variables
abbrev pub outcome_of : Cells → (args : List ℕ) → (fresh : ℕ) → kept.Outcome → Outcome
outcome_of s args fresh (the.Offers os) = Offers (map (λ ps. record { pairs = map (pair_trees s args) ps; fresh = fresh }) os)
outcome_of s args fresh (the.Ball b) = Ball b

-- how many new variables a result has
abbrev pub fresh_of : Outcome → ℕ
fresh_of (Offers []) = 0
fresh_of (Offers (o ∷ os)) = o.fresh
fresh_of (Ball b) = 0
fresh_of Unknown = 0

-- each pair has an argument and a cell
abbrev pub HasCells : Cells → (args : List ℕ) → kept.Outcome → Type 0
HasCells s args (the.Offers os) = All (All (λ p. (p.0 < length args) × IsCell s p.1)) os
HasCells s args (the.Ball b) = ⊤
