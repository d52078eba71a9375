-- List cells, by their outermost symbol.
use Rattle.std.specs.Prelude.{Bool, false, ◌&&◌, ◌==◌, codes, bytes_eq}
use Rattle.term_core.specs.declared.node.Node.{Node}
use Rattle.term_core.specs.declared.node.Node.TheVariants.{Var, Int, Atom, Comp}

abbrev pub is_cell_symbol : Node → Bool
is_cell_symbol (Var n) = false
is_cell_symbol (Int z) = false
is_cell_symbol (Atom f) = false
is_cell_symbol (Comp f k) = k == 2 && bytes_eq f (codes ".")
