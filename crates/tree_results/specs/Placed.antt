-- Results whose arguments are told by their places.
use Rattle.std.specs.Prelude.{ℕ, Bool, if◌then◌else◌, List, [], ◌∷◌, map, length, nat_lt, slice_index_or, refl}
use Rattle.std.specs.List.{list_all}
use Rattle.std.specs.Coded.{Coded, code_by, coded×, coded_ℕ, coded_list}
use Rattle.term_core.specs.Tree.{Tree, atom}
use Rattle.term_core.specs.Flat.{tree_code}
use Rattle.builtin_table.specs.Outcomes.{Offer, Outcome, Offers, Unknown}

-- A result: each pair has an argument's place, from 0, and the term that the argument is unified with.
pub record Result : Type 0 where
  pub pairs : List (ℕ × Tree)
  -- how many new variables the terms have
  pub fresh : ℕ

abbrev pub coded_result : Coded Result
coded_result =
    code_by (List (ℕ × Tree) × ℕ) (coded× (coded_list (coded× coded_ℕ tree_code)) coded_ℕ) (λ r. (r.pairs, r.fresh)) (λ p. record { pairs = p.0; fresh = p.1 }) (λ _. refl)

abbrev pub coded_results : Coded (List Result)
coded_results = coded_list coded_result

-- the definition's result for these arguments
abbrev pub argument : List Tree → ℕ → Tree
argument ts i = slice_index_or ts i (atom [])

abbrev pub pair_for : List Tree → ℕ × Tree → Tree × Tree
pair_for ts p = (argument ts p.0, p.1)

abbrev pub for_arguments : List Tree → Result → Offer
for_arguments ts r = record { pairs = map (pair_for ts) r.pairs; fresh = r.fresh }

-- whether each place of a result is that of one of so many arguments
abbrev pub has_places : (count : ℕ) → Result → Bool
has_places count r = list_all (λ p. nat_lt p.0 count) r.pairs

-- what these results come to for these arguments; nothing where a place isn't one of theirs
abbrev pub results_for : List Tree → List Result → Outcome
results_for ts rs = if list_all (has_places (length ts)) rs then Offers (map (for_arguments ts) rs) else Unknown

-- one result, in which the argument of this place is this term
abbrev pub equal_at : ℕ → Tree → Result
equal_at place t = record { pairs = (place, t) ∷ []; fresh = 0 }
