-- The results that are left of a text's parts, by the places of the arguments.
use Rattle.std.specs.Prelude.{ℕ, suc, ◌+◌, ◌-◌, pos, List, [], ◌∷◌, ◌++◌, map, length, take, drop, Option, Some, None, nat_lt, if◌then◌else◌}
use Rattle.std.specs.List.{flat_map, range_with_len}
use Rattle.term_core.specs.Tree.{Tree, integer}
use Rattle.builtin_table.specs.Outcomes.{Outcome}
use Rattle.builtin_table.specs.Texts.{atom_of}
use Rattle.tree_results.specs.Placed.{Result, results_for}
use Rattle.tree_results.specs.Outcomes.{outcome_of}
use Rattle.tree_texts.specs.declared.splits.Splits.{Splits}
use Rattle.tree_texts.specs.declared.parts.Parts.{Parts}
use Rattle.tree_texts.specs.declared.outcome.TextOutcome.{TextOutcome}
use Rattle.tree_texts.specs.declared.outcome.TextOutcome.TheVariants as the

-- ---- two parts, by the length of the first

abbrev pub placed_split : List ℕ → ℕ → Result
placed_split cs k = record { pairs = (0, atom_of (take k cs)) ∷ (1, atom_of (drop k cs)) ∷ []; fresh = 0 }

abbrev pub splits_of : Splits → List Result
splits_of s = map (placed_split s.characters.items) (range_with_len s.at (suc (length s.characters.items) - s.at))

-- ---- parts, by their places and lengths

abbrev pub placed_part : List ℕ → (start len : ℕ) → Result
placed_part cs start len =
    record { pairs = (1, integer (pos start)) ∷ (2, integer (pos len)) ∷ (3, integer (pos (length cs - start - len))) ∷ (4, atom_of (take len (drop start cs))) ∷ []; fresh = 0 }

abbrev pub placed_at : List ℕ → (start len : ℕ) → List Result
placed_at cs start len = map (placed_part cs start) (range_with_len len (suc (length cs) - start - len))

abbrev pub placed_from : List ℕ → (start : ℕ) → List Result
placed_from cs start = flat_map (λ k. placed_at cs k 0) (range_with_len start (suc (length cs) - start))

-- those at the place, from the length on, and those of later places
abbrev pub parts_of : Parts → List Result
parts_of p = placed_at p.characters.items p.start p.len ++ placed_from p.characters.items (p.start + 1)

-- the place and the length of the first of them
abbrev pub place_of : Parts → Option (ℕ × ℕ)
place_of p =
    if nat_lt (length p.characters.items) (p.start + p.len) then (if nat_lt p.start (length p.characters.items) then Some (p.start + 1, 0) else None)
    else Some (p.start, p.len)

-- ---- outcomes

-- for these arguments
abbrev pub text_outcome_of : List Tree → TextOutcome → Outcome
text_outcome_of ts (the.Parts p) = results_for ts (parts_of p)
text_outcome_of ts (the.Splits s) = results_for ts (splits_of s)
text_outcome_of ts (the.Outcome o) = outcome_of ts o
