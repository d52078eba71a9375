-- What the terms of the code are: a variable's number has 64 bits and an integer 128, names are text, compounds have 1 to 1,024 arguments.
use Rattle.std.specs.Prelude.{◌<◌, ◌^◌, ℤ, pos, negsuc, ⊤}
use Rattle.std.specs.Str.{IsUtf8}
use Rattle.term_core.specs.declared.node.Node.{Node}
use Rattle.term_core.specs.declared.node.Node.TheVariants.{Var, Int, Atom, Comp}
use Rattle.term_core.specs.Tree.{Tree, variable, integer, atom, compound, Trees, no_trees, tree, IsTerm}

-- from -2^127 to 2^127 - 1
abbrev pub IsSized : ℤ → Type 0
IsSized (pos n) = n < 2 ^ 127
IsSized (negsuc n) = n < 2 ^ 127

-- of a node of a term
abbrev pub HasValue : Node → Type 0
HasValue (Var n) = n < 2 ^ 64
HasValue (Int z) = IsSized z
HasValue (Atom f) = IsUtf8 f
HasValue (Comp f k) = IsUtf8 f

abbrev mutual
  pub HasValues : Tree → Type 0
  HasValues (variable n) = n < 2 ^ 64
  HasValues (integer z) = IsSized z
  HasValues (atom f) = IsUtf8 f
  HasValues (compound f ts) = IsUtf8 f × HaveValues ts

  pub HaveValues : Trees → Type 0
  HaveValues no_trees = ⊤
  HaveValues (tree t ts) = HasValues t × HaveValues ts

pub record IsSound (t : Tree) : Type 0 where
  pub arguments : IsTerm t
  pub values : HasValues t
