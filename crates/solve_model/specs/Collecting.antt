-- What the code of findall/3, bagof/3 and setof/3 keeps.
use Rattle.std.specs.Prelude.{Bool, false, ◌&&◌, ◌==◌, List, codes, bytes_eq}
use Rattle.term_core.specs.declared.node.Node.{Node}
use Rattle.term_core.specs.declared.node.Node.TheVariants as node
use Rattle.term_core.specs.Tree.{Tree}
use Rattle.builtin_table.specs.Primitives.{Offer}
use Rattle.builtin_table.specs.Solutions.{findall_offers, group_offers}
use Rattle.tree_lists.specs.declared.solutions.Arrangement.{Arrangement}
use Rattle.tree_lists.specs.Groups.{arranged}
use Rattle.solve_model.specs.declared.solutions.Collection.{Collection}
use Rattle.solve_model.specs.declared.solutions.Collection.TheVariants as collection

abbrev pub is_caret_node : Node → Bool
is_caret_node (node.Var n) = false
is_caret_node (node.Int z) = false
is_caret_node (node.Atom f) = false
is_caret_node (node.Comp f k) = k == 2 && bytes_eq f (codes "^")

-- bagof/3 or setof/3
abbrev pub grouping : Arrangement → Tree → Tree → List Tree → List Offer
grouping a w l = group_offers (arranged a) w l

abbrev pub offers_by : Collection → List Tree → List Offer
offers_by (collection.All l) = findall_offers l
offers_by (collection.Groups a w l) = group_offers (arranged a) w l
