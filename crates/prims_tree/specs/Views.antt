-- The results that are left, as the definition has them.
use Rattle.std.specs.Prelude.{ℕ, List, ◌∷◌, Option, Some, None, refl, map, reverse}
use Rattle.std.specs.Coded.{Coded, code_by, coded×, coded_ℕ, coded_list}
use Rattle.term_core.specs.Tree.{Tree}
use Rattle.term_core.specs.Flat.{tree_code}
use Rattle.tree_results.specs.declared.results.Offer as placed
use Rattle.tree_results.specs.Placed.{Result}
use Rattle.tree_results.specs.Outcomes.{result_of, results_of}
use Rattle.tree_texts.specs.Parts.{splits_of, parts_of}
use Rattle.prims_tree.specs.declared.offer.Offer as kept
use Rattle.prims_tree.specs.declared.placed.Left.{Left}
use Rattle.prims_tree.specs.declared.placed.Left.TheVariants as left
use Rattle.builtin_table.specs.Primitives.{Offer}

abbrev pub offer_of : kept.Offer → Offer
offer_of o = record { pairs = o.pairs; fresh = o.fresh }

-- by the places of the arguments
abbrev pub results_left : Left → List Result
results_left (left.Ready o) = results_of o
results_left (left.Several os) = reverse (map result_of os.items)
results_left (left.Splits s) = splits_of s
results_left (left.Parts p) = parts_of p

-- the result that was asked for, where there is one, before the others
abbrev pub with_ahead : Option placed.Offer → List Result → List Result
with_ahead None rs = rs
with_ahead (Some o) rs = result_of o ∷ rs

abbrev pub coded_offer : Coded Offer
coded_offer =
    code_by (List (Tree × Tree) × ℕ) (coded× (coded_list (coded× tree_code tree_code)) coded_ℕ) (λ o. (o.pairs, o.fresh)) (λ p. record { pairs = p.0; fresh = p.1 }) (λ _. refl)

abbrev pub coded_offers : Coded (List Offer)
coded_offers = coded_list coded_offer
