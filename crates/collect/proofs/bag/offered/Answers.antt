use Rattle.std.proofs.Common.{List, [], ◌∷◌, map, ap, sym, subst, ◌∙◌}
use Rattle.std.specs.List.{All}
use Rattle.tree_results.specs.Placed.{Result, for_arguments}
use Rattle.tree_offers.specs.Results.{HasPlaces}
use Rattle.collect.proofs.Standing.{offers_for, places_within}
use Rattle.collect.proofs.bag.offered.Goals as goal

pub returns-clause-offers : goal.returns-clause-offers
returns-clause-offers c = λ w l.
    ap (λ (rs : List Result). map (for_arguments (w ∷ l ∷ [])) rs) (c.new.ensures ∙ c.in_ok-results.ensures) ∙ offers_for c.args.kind w l c.args.copies.now

pub returns-clause-places : goal.returns-clause-places
returns-clause-places c =
    subst (All (HasPlaces 2)) (sym (c.new.ensures ∙ c.in_ok-results.ensures)) (places_within c.args.kind c.args.copies.now)
