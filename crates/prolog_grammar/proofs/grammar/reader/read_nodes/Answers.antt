use Rattle.std.proofs.Common.{ap, sym, ◌∙◌, Some, None, cond}
use Rattle.op_table.specs.Table.{row}
use Rattle.prolog_grammar.specs.Stack.{kept}
use Rattle.prolog_grammar.proofs.Tokens.{tells, refused, goes_on, at_end}
use Rattle.prolog_grammar.proofs.grammar.reader.read_nodes.Goals as goal

pub returns-in-Some-clause-err : goal.returns-in-Some-clause-err
returns-in-Some-clause-err c =
    tells _ c.in-Some.fault (c.loop-token.invariant
    ∙ refused (λ f. row f c.args.ops.now.before) (λ f. row f c.args.ops.now.between) c.args.end c.args.tokens.now c.loop-token.token-index c.token-item.result
    (kept c.loop-token.now c.loop-token.machine.frames.items c.loop-token.machine.nodes.items) (kept c.in_ok-now.now c.step.new.self.frames.items c.step.new.self.nodes.items) c.in-Some.fault
    c.loop-token-test.true c.token-item.is c.in_ok-now.ensures (sym c.refusal.ensures ∙ c.in-Some.is))

pub loop-token-preserved : goal.loop-token-preserved
loop-token-preserved c =
    c.loop-token.invariant
    ∙ goes_on (λ f. row f c.args.ops.now.before) (λ f. row f c.args.ops.now.between) c.args.end c.args.tokens.now c.loop-token.token-index c.token-item.result
    (kept c.loop-token.now c.loop-token.machine.frames.items c.loop-token.machine.nodes.items) (kept c.in_ok-now.now c.step.new.self.frames.items c.step.new.self.nodes.items)
    c.loop-token-test.true c.token-item.is c.in_ok-now.ensures (sym c.refusal.ensures ∙ c.in_default.is)

pub returns-then-not-branch-clause-err : goal.returns-then-not-branch-clause-err
returns-then-not-branch-clause-err c =
    c.loop-token.invariant
    ∙ at_end (λ f. row f c.args.ops.now.before) (λ f. row f c.args.ops.now.between) c.args.end c.args.tokens.now c.loop-token.token-index (kept c.loop-token.now c.loop-token.machine.frames.items c.loop-token.machine.nodes.items) None
    c.loop-token-test.false (c.in_ok-finish.ensures ∙ ap (λ b. cond b (Some c.finish.new.self.nodes.items) None) c.if-not-branch.true)

pub returns-clause-ok : goal.returns-clause-ok
returns-clause-ok c =
    c.loop-token.invariant
    ∙ at_end (λ f. row f c.args.ops.now.before) (λ f. row f c.args.ops.now.between) c.args.end c.args.tokens.now c.loop-token.token-index (kept c.loop-token.now c.loop-token.machine.frames.items c.loop-token.machine.nodes.items) (Some c.finish.new.self.nodes.items)
    c.loop-token-test.false (c.in_ok-finish.ensures ∙ ap (λ b. cond b (Some c.finish.new.self.nodes.items) None) c.if-not-branch.false)
