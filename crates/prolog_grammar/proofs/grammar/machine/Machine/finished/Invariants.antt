use Rattle.std.proofs.Common.{◌≡◌, length, reverse}
use Rattle.prolog_grammar.specs.Stack as stack
use Rattle.prolog_grammar.proofs.grammar.machine.Machine.finished.Given as goal

abbrev pub invariant-loop-frame : goal.invariant-loop-frame
invariant-loop-frame l = stack.finished (reverse l.fn.self.frames.items) l.fn.self.nodes.items ≡ stack.finished (reverse l.self.frames.items) l.self.nodes.items

abbrev pub decreases-loop-frame : goal.decreases-loop-frame
decreases-loop-frame l = length l.self.frames.items
