-- What a bag's solutions offer (ISO/IEC 13211-1, 8.10).
use Rattle.std.specs.Prelude.{List, [], ◌∷◌}
use Rattle.term_core.specs.Tree.{Tree}
use Rattle.builtin_table.specs.Primitives.{Offer}
use Rattle.builtin_table.specs.Solutions.{findall_offers, bagof_offers, setof_offers}
use Rattle.builtin_table.specs.Sorting.{sorted_set}
use Rattle.tree_results.specs.Placed.{Result}
use Rattle.tree_lists.specs.Groups.{placed_groups, placed_list}
use Rattle.collect.specs.declared.bag.BagKind.{BagKind}
use Rattle.collect.specs.declared.bag.BagKind.TheVariants.{Findall, Bagof, Setof}

abbrev pub offers_by : BagKind → (witness list : Tree) → List Tree → List Offer
offers_by Findall w l ss = findall_offers l ss
offers_by (Bagof n) w l ss = bagof_offers w l ss
offers_by (Setof n) w l ss = setof_offers w l ss

-- the same over two arguments, told by their places: the witness and the list
abbrev pub placed_by : BagKind → List Tree → List Result
placed_by Findall ss = placed_list ss ∷ []
placed_by (Bagof n) ss = placed_groups (λ ts. ts) ss
placed_by (Setof n) ss = placed_groups sorted_set ss
