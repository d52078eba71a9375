use Rattle.std.proofs.Common.{◌≡◌, [], drop}
use Rattle.op_table.specs.Table.{row}
use Rattle.prolog_grammar.specs.declared.grammar.frame.Now.TheVariants.{Wants}
use Rattle.prolog_grammar.specs.Stack as stack
use Rattle.prolog_grammar.specs.Stack.{kept}
use Rattle.prolog_grammar.proofs.grammar.reader.read_nodes.Given as goal

abbrev pub invariant-loop-token : goal.invariant-loop-token
invariant-loop-token l =
    stack.reading (λ f. row f l.ops.before) (λ f. row f l.ops.between) l.end l.tokens (Wants, [], []) ≡ stack.reading (λ f. row f l.ops.before) (λ f. row f l.ops.between) l.end (drop l.token-index l.tokens) (kept l.now l.machine.frames.items l.machine.nodes.items)
