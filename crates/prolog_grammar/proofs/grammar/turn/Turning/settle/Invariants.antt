use Rattle.std.proofs.Common.{◌≡◌, length, reverse}
use Rattle.prolog_grammar.specs.Turn.{settle}
use Rattle.prolog_grammar.proofs.grammar.turn.Turning.settle.Given as goal

abbrev pub invariant-loop-functor : goal.invariant-loop-functor
invariant-loop-functor l = settle (reverse l.fn.self.open.items) l.fn.self.put.items ≡ settle (reverse l.self.open.items) l.self.put.items

abbrev pub decreases-loop-functor : goal.decreases-loop-functor
decreases-loop-functor l = length l.self.open.items
