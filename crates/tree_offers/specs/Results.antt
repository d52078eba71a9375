-- Results whose arguments are told by their places.
use Rattle.std.specs.Prelude.{◌≡◌, ℕ, ◌<◌, List, [], ◌∷◌, map, max}
use Rattle.std.specs.List.{All, Contains}
use Rattle.term_core.specs.Tree.{Tree}
use Rattle.term_core.specs.Substitution.{apply}
use Rattle.term_core.specs.Variables.{first_free}
use Rattle.builtin_table.specs.Primitives.{Offer}
use Rattle.store.specs.Cells.{Cells, IsCell, tree_of}
use Rattle.store.specs.declared.seen.Offer as kept
pub use Rattle.tree_results.specs.Placed.{Result, argument, pair_for, for_arguments, has_places, results_for}

-- each pair of the result has one of so many arguments
abbrev pub HasPlace : (count : ℕ) → ℕ × Tree → Type 0
HasPlace count p = p.0 < count

abbrev pub HasPlaces : (count : ℕ) → Result → Type 0
HasPlaces count r = All (HasPlace count) r.pairs

-- each pair of the result begins with one of the arguments
abbrev pub BeginsWith : List Tree → Tree × Tree → Type 0
BeginsWith ts p = Contains ts p.0

abbrev pub IsOver : List Tree → Offer → Type 0
IsOver ts o = All (BeginsWith ts) o.pairs

-- ---- cells for them

-- the next number after those of these terms' variables
abbrev pub next_after : ℕ → List (ℕ × Tree) → ℕ
next_after n [] = n
next_after n (p ∷ ps) = next_after (max n (first_free p.1)) ps

-- the term that a pair's cell stands for
abbrev pub pair_told : Cells → ℕ × ℕ → ℕ × Tree
pair_told s c = (c.0, tree_of s c.1)

abbrev pub PairHasCell : Cells → ℕ × ℕ → Type 0
PairHasCell s c = IsCell s c.1

-- a pair's term under these bindings
abbrev pub pair_bound : List (ℕ × Tree) → ℕ × Tree → ℕ × Tree
pair_bound b p = (p.0, apply b p.1)

-- The pairs of an offer are those of a result, where each cell stands for the result's term under the store's bindings.
pub record Offered (old new : Cells) (ps : List (ℕ × Tree)) (cs : List (ℕ × ℕ)) : Type 0 where
  pub trees : map (pair_told new) cs ≡ map (pair_bound old.bound) ps
  pub cells : All (PairHasCell new) cs
  pub next : new.next ≡ next_after old.next ps

-- the offer is the first of the results that were left, and the others are left now
abbrev pub IsNext : (old new : Cells) (before after : List Result) → kept.Offer → Type 0
IsNext old new [] after o = ⊥
IsNext old new (r ∷ rs) after o = Offered old new r.pairs o.pairs × (after ≡ rs)
