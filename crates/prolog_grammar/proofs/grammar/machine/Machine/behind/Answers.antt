use Rattle.std.proofs.Common.{refl, ap, ◌∙◌, ◌-◌, ◌++◌, [], take}
use Rattle.prolog_grammar.specs.Stack as stack
use Rattle.prolog_grammar.proofs.Steps.{turn, bottom, reverse_last, if_ok}
use Rattle.prolog_grammar.proofs.grammar.machine.Machine.behind.Goals as goal

pub returns-in-Some-going_on : goal.returns-in-Some-going_on
returns-in-Some-going_on c =
    if_ok c.shift.result (λ now h. h
    ∙ rw (c.in-Some-going_on.is, c.in_ok-push.ensures.items, reverse_last c.pop.new.self.items c.in-Some.frame) refl
    ∙ turn c.args.token.now c.args.row c.loop-frame.self.frames.items c.pop.new.self.items c.in-Some.frame c.loop-frame.self.nodes.items c.loop-frame.left c.going_on.result c.in-Some.ensures.items (c.going_on.ensures ∙ ap (λ n. stack.going_on n c.loop-frame.left c.args.row) c.most_at.ensures)
    ∙ c.loop-frame.invariant) c.shift.ensures

pub loop-frame-preserved-in-Prefix : goal.loop-frame-preserved-in-Prefix
loop-frame-preserved-in-Prefix c =
    rw (c.in_default-going_on.is, c.in-Prefix.is, c.in_ok-push-in-Prefix.ensures.items) refl
    ∙ turn c.args.token.now c.args.row c.loop-frame.self.frames.items c.pop.new.self.items c.in-Some.frame c.loop-frame.self.nodes.items c.loop-frame.left c.going_on.result c.in-Some.ensures.items (c.going_on.ensures ∙ ap (λ n. stack.going_on n c.loop-frame.left c.args.row) c.most_at.ensures)
    ∙ c.loop-frame.invariant

pub loop-frame-preserved : goal.loop-frame-preserved
loop-frame-preserved c =
    rw (c.in_default-going_on.is, c.in-Infix.is, c.in_ok-push-in-Infix.ensures.items) refl
    ∙ turn c.args.token.now c.args.row c.loop-frame.self.frames.items c.pop.new.self.items c.in-Some.frame c.loop-frame.self.nodes.items c.loop-frame.left c.going_on.result c.in-Some.ensures.items (c.going_on.ensures ∙ ap (λ n. stack.going_on n c.loop-frame.left c.args.row) c.most_at.ensures)
    ∙ c.loop-frame.invariant

pub returns-in-Bracket : goal.returns-in-Bracket
returns-in-Bracket c =
    if_ok c.closed.result (λ now h. h
    ∙ rw (c.in_default-going_on.is, c.in-Bracket.is) refl
    ∙ turn c.args.token.now c.args.row c.loop-frame.self.frames.items c.pop.new.self.items c.in-Some.frame c.loop-frame.self.nodes.items c.loop-frame.left c.going_on.result c.in-Some.ensures.items (c.going_on.ensures ∙ ap (λ n. stack.going_on n c.loop-frame.left c.args.row) c.most_at.ensures)
    ∙ c.loop-frame.invariant) c.closed.ensures

pub returns-in-Some-going_on-2 : goal.returns-in-Some-going_on-2
returns-in-Some-going_on-2 c =
    let none = c.in_default.ensures.rest ∙ ap (λ n. take (n - 1) c.loop-frame.self.frames.items) c.in_default.ensures.cases.0 in
    if_ok c.shift-in-Some-going_on-2.result (λ now h. h
    ∙ rw (c.in-Some-going_on-2.is, none) refl
    ∙ bottom c.args.token.now c.args.row c.loop-frame.self.frames.items c.loop-frame.self.nodes.items c.loop-frame.left c.going_on-2.result (c.in_default.ensures.items ∙ ap (λ l. l ++ []) none) c.going_on-2.ensures
    ∙ c.loop-frame.invariant) c.shift-in-Some-going_on-2.ensures

pub returns-in-None : goal.returns-in-None
returns-in-None c =
    let none = c.in_default.ensures.rest ∙ ap (λ n. take (n - 1) c.loop-frame.self.frames.items) c.in_default.ensures.cases.0 in
    rw (c.in-None.is, none) refl
    ∙ bottom c.args.token.now c.args.row c.loop-frame.self.frames.items c.loop-frame.self.nodes.items c.loop-frame.left c.going_on-2.result (c.in_default.ensures.items ∙ ap (λ l. l ++ []) none) c.going_on-2.ensures
    ∙ c.loop-frame.invariant
