use Rattle.std.proofs.Common.{sym, ◌∙◌, arith}
use Rattle.program.proofs.SourceLemmas.{rule_below, no_head, no_body, the_clause}
use Rattle.program.proofs.source.entry.Goals as goal

pub returns-in_default : goal.returns-in_default
returns-in_default c =
    no_head c.args.own c.args.term.now c.args.head c.args.body c.requires.rule (sym c.in_ok-pi.ensures ∙ c.in_default.is)

pub returns-then-not-branch : goal.returns-then-not-branch
returns-then-not-branch c =
    no_body c.args.own c.args.term.now c.args.head c.args.body c.requires.rule (sym c.in_ok-is_body.ensures ∙ c.if-not-branch.true)

pub invariant_of-result : goal.invariant_of-result
invariant_of-result c =
    let below = rule_below c.args.term.now c.args.head c.args.body c.requires.rule in
    record { head_below = omega (arith, below.0, c.in_ok-vars.ensures.ok); body_below = omega (arith, below.1, c.in_ok-vars.ensures.ok) }

pub returns : goal.returns
returns c =
    the_clause c.args.own c.args.term.now c.args.head c.args.body c.in-Some.pi c.in_ok-vars.vars c.requires.rule (sym c.in_ok-pi.ensures ∙ c.in-Some.is) (sym c.in_ok-is_body.ensures ∙ c.if-not-branch.false) (c.in_ok-vars.ensures.ok ∙ sym c.requires.numbered)
