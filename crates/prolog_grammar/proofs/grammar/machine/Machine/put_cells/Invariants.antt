use Rattle.std.proofs.Common.{◌≡◌, ◌++◌, replicate}
use Rattle.prolog_grammar.specs.Stack.{cell}
use Rattle.prolog_grammar.proofs.grammar.machine.Machine.put_cells.Given as goal

abbrev pub invariant-loop : goal.invariant-loop
invariant-loop l = (l.self.nodes.items ≡ l.fn.self.nodes.items ++ replicate l.counter cell) × (l.self.frames.items ≡ l.fn.self.frames.items)
