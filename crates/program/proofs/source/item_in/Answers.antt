use Rattle.std.proofs.Common.{length, ap, sym, ◌∙◌, arith}
use Rattle.program.specs.Symbols.{is_neck}
use Rattle.program.proofs.SourceLemmas.{IsNeck, neck_of, item_of_directive, item_of_rule, item_of_fact, one_taken, two_taken}
use Rattle.program.proofs.source.item_in.Goals as goal

pub returns-in-Some-None : goal.returns-in-Some-None
returns-in-Some-None c =
    let t = c.args.term.now in
    let neck : IsNeck t = neck_of t (ap is_neck (sym c.symbol.ensures) ∙ sym c.is_neck.ensures ∙ c.if-not-is_neck.false) in
    item_of_directive t c.in-Some-None.directive neck.functor
    (sym c.in_ok-arguments.ensures ∙ one_taken c.in_ok-arguments.arguments.items c.pop.new.self.items c.in-Some-None.directive c.in-Some-None.ensures.items (omega (arith, c.pop.new.self.ok.0, c.in-Some-None.ensures'.cases.0)))

pub returns-in-Some-Some : goal.returns-in-Some-Some
returns-in-Some-Some c =
    let t = c.args.term.now in
    let neck : IsNeck t = neck_of t (ap is_neck (sym c.symbol.ensures) ∙ sym c.is_neck.ensures ∙ c.if-not-is_neck.false) in
    item_of_rule t c.in-Some-Some.head c.in-Some-Some.body neck.functor
    (sym c.in_ok-arguments.ensures ∙ two_taken c.in_ok-arguments.arguments.items c.pop.new.self.items c.pop-2.new.self.items c.in-Some-Some.head c.in-Some-Some.body (omega (arith, ap length c.in_ok-arguments.ensures, neck.few)) c.in-Some-Some.ensures.items c.in-Some-Some.ensures'.items)

pub returns-then-not-is_neck : goal.returns-then-not-is_neck
returns-then-not-is_neck c =
    rw (← item_of_fact c.args.term.now (ap is_neck (sym c.symbol.ensures) ∙ sym c.is_neck.ensures ∙ c.if-not-is_neck.true)) c.fact.ensures
