use Rattle.std.proofs.Common.{◌≡◌, [], length, reverse}
use Rattle.prolog_grammar.specs.Turn.{turned}
use Rattle.prolog_grammar.proofs.grammar.turn.turned.Given as goal

abbrev pub invariant-loop-node : goal.invariant-loop-node
invariant-loop-node l = turned (reverse l.fn.nodes.items) ([], []) ≡ turned (reverse l.left.items) (reverse l.turning.open.items, l.turning.put.items)

abbrev pub decreases-loop-node : goal.decreases-loop-node
decreases-loop-node l = length l.left.items
