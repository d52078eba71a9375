use Rattle.std.proofs.Common.{refl, ap, ◌∙◌, ◌-◌, take, arith}
use Rattle.prolog_grammar.proofs.Steps.{reverse_last}
use Rattle.prolog_grammar.proofs.Turning.{settle_more, settle_last, settle_none}
use Rattle.prolog_grammar.proofs.grammar.turn.Turning.settle.Goals as goal

pub returns-then-left-gt1 : goal.returns-then-left-gt1
returns-then-left-gt1 c =
    c.loop-functor.invariant
    ∙ settle_more c.loop-functor.self.open.items c.pop.new.self.items c.in-Some.functor c.in-Some.left c.loop-functor.self.put.items c.in-Some.ensures.items (grind (arith, c.if-left-gt1.true))
    ∙ rw (c.in_ok-push.ensures.items, reverse_last c.pop.new.self.items (c.in-Some.functor, c.in-Some.left - 1)) refl

pub loop-functor-preserved : goal.loop-functor-preserved
loop-functor-preserved c =
    c.loop-functor.invariant
    ∙ settle_last c.loop-functor.self.open.items c.pop.new.self.items c.in-Some.functor c.in-Some.left c.loop-functor.self.put.items c.in-Some.ensures.items (grind (arith, c.if-left-gt1.false))
    ∙ rw c.in_ok-push-2.ensures.items refl

pub returns : goal.returns
returns c =
    let none = c.in_default.ensures.rest ∙ ap (λ n. take (n - 1) c.loop-functor.self.open.items) c.in_default.ensures.cases.0 in
    c.loop-functor.invariant ∙ rw (c.in_default.ensures.items, none) (settle_none c.loop-functor.self.put.items)
