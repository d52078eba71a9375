-- What a bag offers, by the places of the witness and the list.
use Rattle.std.proofs.Common.{◌≡◌, List, [], ◌∷◌, map}
use Rattle.std.specs.List.{All}
use Rattle.term_core.specs.Tree.{Tree}
use Rattle.builtin_table.specs.Sorting.{sorted_set}
use Rattle.tree_results.specs.Placed.{for_arguments}
use Rattle.tree_lists.proofs.ForArguments.{groups_for, list_for, groups_within, list_within}
use Rattle.tree_offers.specs.Results.{HasPlaces}
use Rattle.collect.specs.declared.bag.BagKind.{BagKind}
use Rattle.collect.specs.declared.bag.BagKind.TheVariants.{Findall, Bagof, Setof}
use Rattle.collect.specs.Bags.{offers_by, placed_by}

pub offers_for : (k : BagKind) (w l : Tree) (ss : List Tree) → map (for_arguments (w ∷ l ∷ [])) (placed_by k ss) ≡ offers_by k w l ss
offers_for Findall w l ss = list_for w l ss
offers_for (Bagof n) w l ss = groups_for w l (λ ts. ts) ss
offers_for (Setof n) w l ss = groups_for w l sorted_set ss

pub places_within : (k : BagKind) (ss : List Tree) → All (HasPlaces 2) (placed_by k ss)
places_within Findall ss = list_within ss
places_within (Bagof n) ss = groups_within (λ ts. ts) ss
places_within (Setof n) ss = groups_within sorted_set ss
