-- The items of a term are read as the term, numbered by first occurrence.
use Rattle.std.specs.Prelude.{◌≡◌, ℕ, ◌≤◌, true, false, nat_le, List, []}
use Rattle.std.specs.List.{list_all, AllByRecursion}
use Rattle.std.proofs.Common.{arith, sym}
use Rattle.term_core.specs.Tree.{Tree, depth}
use Rattle.term_core.specs.Flat.{flatten}
use Rattle.term_core.specs.Variables.{occurrences, variables, place_of, numbered}
use Rattle.prolog_grammar.specs.Readings.{Reading, IsReading, meaning}
use Rattle.prolog_grammar.specs.Read.{is_within}
use Rattle.prolog_read.specs.Reads.{has_range}
use Rattle.prolog_write.specs.declared.mode.Mode.{Mode}
use Rattle.prolog_write.specs.declared.place.Place.{Place}
use Rattle.prolog_write.specs.Text.{most}
use Rattle.read_back.specs.Sound.{IsSound}
use Rattle.read_back.proofs.Spelled.{Item, lexemes, item_variables, brackets}
use Rattle.read_back.proofs.TermLayout.{layout, items, read_as}
use Rattle.read_back.proofs.Ops.{before_row, between_row}
use Rattle.read_back.proofs.Fitting.{right}
use Rattle.read_back.proofs.Limits.{ranged, within}
use Rattle.read_back.proofs.Meaning.{means}
use Rattle.read_back.proofs.Nesting.{brackets_below}
use Rattle.read_back.proofs.Order.{item_variables-items}
use Rattle.read_back.proofs.Yields.{yields}

-- the number of a variable by first occurrence
abbrev pub key : Tree → ℕ → ℕ
key t n = place_of n (variables t)

-- items that are read as a term, where none of their tokens stands before them
pub record AreRead (t : Tree) (xs : List Item) : Type 0 where
  pub reading : Reading
  pub is_reading : IsReading before_row between_row (lexemes (key t) false xs) reading
  pub means : numbered t ≡ meaning reading
  pub order : item_variables xs ≡ occurrences t
  pub brackets : AllByRecursion (λ n. n ≤ 4000) (brackets 0 xs)
  pub integers : list_all has_range (flatten (numbered t)) ≡ true
  pub within : is_within (numbered t) ≡ true

small : (p n : ℕ) → nat_le p n ≡ true → n ≤ 1200 → nat_le p 1200 ≡ true
small p n e h = grind (arith, e, h)

pub are_read : (m : Mode) (t : Tree) (at : Place) → IsSound t → depth t ≤ 1000 → most at ≤ 1200 → AreRead t (items (layout m t at) [])
unfolding lexemes
are_read m t at s d p =
    let k = key t in
    let r = right k m t at in
    record {
      reading = read_as k false (layout m t at);
      is_reading = record { fits = r.fits false; priority = small _ (most at) (r.priority false) p; tokens = sym (yields k false (layout m t at) []) };
      means = sym (means k m t at s.arguments false);
      order = item_variables-items m t at s.arguments;
      brackets = brackets_below m t at s.arguments d;
      integers = ranged k t s.values;
      within = within k t s.arguments d;
    }
