-- List cells, by their first node.
use Rattle.std.specs.Prelude.{Bool, false, ◌&&◌, ◌==◌, codes, bytes_eq}
use Rattle.term_core.specs.declared.node.Node.{Node}
use Rattle.term_core.specs.declared.node.Node.TheVariants.{Var, Int, Atom, Comp}

abbrev pub is_cell_node : Node → Bool
is_cell_node (Var n) = false
is_cell_node (Int z) = false
is_cell_node (Atom f) = false
is_cell_node (Comp f k) = k == 2 && bytes_eq f (codes ".")
