-- What the code reads off a goal.
use Rattle.std.specs.Prelude.{ℕ, Bool, true, false, not, bytes_eq, codes, nat_le, ◌&&◌, ◌==◌, List}
use Rattle.std.specs.Ordering.{is_eq, int_cmp}
use Rattle.term_core.specs.declared.node.Node.{Node}
use Rattle.term_core.specs.declared.node.Node.TheVariants as node
use Rattle.term_core.specs.Tree.{Tree}
use Rattle.solve_model.specs.declared.goals.Row.{Row}
use Rattle.solve_model.specs.declared.goals.Row.TheVariants as row
use Rattle.solve_model.specs.declared.ready.Ready.{Ready}
use Rattle.solve_model.specs.declared.ready.Ready.TheVariants as made
use Rattle.solve_model.specs.Goals as goals

-- the row of this goal
abbrev pub row_as : Tree → Row → goals.Row
row_as t row.Succeeds = goals.Succeeds
row_as t row.Fails = goals.Fails
row_as t row.Cuts = goals.Cuts
row_as t (row.Both a b) = goals.Both a b
row_as t (row.Either a b) = goals.Either a b
row_as t (row.IfElse a b c) = goals.IfElse a b c
row_as t (row.Test a b c) = goals.Test a b c
row_as t (row.Differ a b) = goals.Differ a b
row_as t (row.Call g added) = goals.Call g added.items
row_as t (row.Catch a b c) = goals.Catch a b c
row_as t (row.Throw a) = goals.Throw a
row_as t (row.Output a) = goals.Output a
row_as t (row.Input a b) = goals.Input a b
row_as t (row.FindAll a b c) = goals.FindAll a b c
row_as t (row.BagOf a b c) = goals.BagOf a b c
row_as t (row.SetOf a b c) = goals.SetOf a b c
row_as t row.Predicate = goals.Predicate (goals.indicator_of t) t

abbrev pub ready_as : Ready → goals.Ready
ready_as (made.Runs t) = goals.Runs t
ready_as (made.Throws b) = goals.Throws b

-- whether a compound of this name and so many arguments is call/1 to call/8
abbrev pub is_call_of : List ℕ → ℕ → Bool
is_call_of f k = (nat_le 1 k && nat_le k 8) && bytes_eq f (codes "call")

-- the symbol of C -> T
abbrev pub is_arrow_symbol : Node → Bool
is_arrow_symbol (node.Var n) = false
is_arrow_symbol (node.Int z) = false
is_arrow_symbol (node.Atom f) = false
is_arrow_symbol (node.Comp f k) = k == 2 && bytes_eq f (codes "->")

-- whether terms that begin with these nodes differ, whatever their variables stand for
abbrev pub nodes_clash : Node → Node → Bool
nodes_clash (node.Var m) n = false
nodes_clash (node.Int y) (node.Var n) = false
nodes_clash (node.Int y) (node.Int z) = not (is_eq (int_cmp y z))
nodes_clash (node.Int y) (node.Atom b) = true
nodes_clash (node.Int y) (node.Comp g l) = true
nodes_clash (node.Atom a) (node.Var n) = false
nodes_clash (node.Atom a) (node.Int z) = true
nodes_clash (node.Atom a) (node.Atom b) = not (bytes_eq a b)
nodes_clash (node.Atom a) (node.Comp g l) = true
nodes_clash (node.Comp f k) (node.Var n) = false
nodes_clash (node.Comp f k) (node.Int z) = true
nodes_clash (node.Comp f k) (node.Atom b) = true
nodes_clash (node.Comp f k) (node.Comp g l) = not (bytes_eq f g && k == l)
