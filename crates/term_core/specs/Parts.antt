-- A term's outermost symbol and its arguments.
use Rattle.std.specs.Prelude.{List, []}
use Rattle.term_core.specs.declared.node.Node.{Node}
use Rattle.term_core.specs.declared.node.Node.TheVariants.{Var, Int, Atom, Comp}
use Rattle.term_core.specs.Tree.{Tree, variable, integer, atom, compound, tree_list, arity}

abbrev pub symbol_of : Tree → Node
symbol_of (variable n) = Var n
symbol_of (integer z) = Int z
symbol_of (atom f) = Atom f
symbol_of (compound f ts) = Comp f (arity ts)

abbrev pub arguments_of : Tree → List Tree
arguments_of (variable n) = []
arguments_of (integer z) = []
arguments_of (atom f) = []
arguments_of (compound f ts) = tree_list ts
