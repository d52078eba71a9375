use Rattle.std.proofs.Common.{reverse, ◌≡◌, length}
use Rattle.prolog_grammar.specs.Stack as stack
use Rattle.prolog_grammar.proofs.grammar.machine.Machine.behind.Given as goal

abbrev pub invariant-loop-frame : goal.invariant-loop-frame
invariant-loop-frame l = stack.behind l.token l.row (reverse l.self.frames.items) l.self.nodes.items l.left ≡ stack.behind l.fn.token l.fn.row (reverse l.fn.self.frames.items) l.fn.self.nodes.items l.fn.priority

abbrev pub decreases-loop-frame : goal.decreases-loop-frame
decreases-loop-frame l = length l.self.frames.items
