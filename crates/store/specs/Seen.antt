-- What a store tells of a cell.
use Rattle.std.specs.Prelude.{◌≡◌, ℕ, ◌<◌, ◌≤◌, Option, MatchOption}
use Rattle.std.specs.declared.vec.Vec.{Vec}
use Rattle.std.specs.declared.alloc.Global.{Global}
use Rattle.term_core.specs.declared.node.Node.{Node}
use Rattle.term_core.specs.declared.node.Node.TheVariants.{Var as VarNode, Int as IntNode, Atom as AtomNode, Comp as CompNode}
use Rattle.term_core.specs.Tree.{Tree}
use Rattle.store.specs.declared.seen.Seen.{Seen}
use Rattle.store.specs.declared.seen.Seen.TheVariants.{Var, Int, Atom, Comp}
use Rattle.store.specs.declared.seen.Taken.{Taken}
use Rattle.store.specs.declared.seen.Taken.TheVariants.{Term, TooLong}
use Rattle.term_core.specs.Flat.{flatten}
use Rattle.store.specs.Cells.{size}

-- the same as a node
abbrev pub seen_node : Seen → Node
seen_node (Var n) = VarNode n
seen_node (Int z) = IntNode z
seen_node (Atom f) = AtomNode f.now
seen_node (Comp f k) = CompNode f.now k

-- the tree itself where it has at most so many nodes
abbrev pub IsTaken : Tree → (limit : ℕ) → Taken → Type 0
IsTaken t limit (Term u) = (u ≡ t) × (size t ≤ limit)
IsTaken t limit TooLong = limit < size t

-- the nodes of a tree, where they are at most so many
abbrev pub HasNodes : Tree → (limit : ℕ) → Option (Vec Node Global) → Type 0
HasNodes t limit found =
    MatchOption found (limit < size t) (λ v. (v.items ≡ flatten t) × (size t ≤ limit))
