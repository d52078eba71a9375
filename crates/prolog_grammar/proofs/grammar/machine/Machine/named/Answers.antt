use Rattle.std.proofs.Common.{reverse, refl, ap, sym, ◌∙◌, arith}
use Rattle.op_table.specs.Table.{row}
use Rattle.prolog_grammar.specs.declared.grammar.frame.Frame.TheVariants.{Prefix}
use Rattle.prolog_grammar.proofs.Steps.{reverse_last, if_ok, named_joined, named_alone, named_none, named_high, named_prefix}
use Rattle.prolog_grammar.proofs.grammar.machine.Machine.named.Goals as goal

pub returns-then-joins : goal.returns-then-joins
returns-then-joins c =
    if_ok c.joined.result (λ now h. h ∙ named_joined (λ f. row f c.args.ops.now.before) (λ f. row f c.args.ops.now.between) c.args.token.now c.args.word (reverse c.args.self.now.frames.items) c.args.self.now.nodes.items (sym c.joins.ensures ∙ c.if-joins.true)) c.joined.ensures

pub returns-then-stands_alone : goal.returns-then-stands_alone
returns-then-stands_alone c =
    if_ok c.behind.result (λ now h. h
    ∙ rw (c.in_ok-push.ensures.items, c.infix_row.ensures) refl
    ∙ named_alone (λ f. row f c.args.ops.now.before) (λ f. row f c.args.ops.now.between) c.args.token.now c.args.word (reverse c.args.self.now.frames.items) c.args.self.now.nodes.items (sym c.joins.ensures ∙ c.if-joins.false) (sym c.stands_alone.ensures ∙ c.if-stands_alone.true)) c.behind.ensures

pub returns-in_default : goal.returns-in_default
returns-in_default c =
    named_none (λ f. row f c.args.ops.now.before) (λ f. row f c.args.ops.now.between) c.args.token.now c.args.word (reverse c.args.self.now.frames.items) c.args.self.now.nodes.items (sym c.joins.ensures ∙ c.if-joins.false) (sym c.stands_alone.ensures ∙ c.if-stands_alone.false)
    (ap (λ f. row f c.args.ops.now.before) (sym c.as_str.ensures) ∙ sym c.prefix.ensures ∙ c.in_default.is)

pub returns-then-op-most : goal.returns-then-op-most
returns-then-op-most c =
    named_high (λ f. row f c.args.ops.now.before) (λ f. row f c.args.ops.now.between) c.args.token.now c.args.word (reverse c.args.self.now.frames.items) c.args.self.now.nodes.items c.in-Some.op (sym c.joins.ensures ∙ c.if-joins.false) (sym c.stands_alone.ensures ∙ c.if-stands_alone.false)
    (ap (λ f. row f c.args.ops.now.before) (sym c.as_str.ensures) ∙ sym c.prefix.ensures ∙ c.in-Some.is) (grind (arith, c.most.ensures, c.if-op-most.true))

pub returns : goal.returns
returns c =
    if_ok c.begins.result (λ now h. h
    ∙ rw (c.in_ok-push-2.ensures.items, reverse_last c.args.self.now.frames.items (Prefix c.args.word.text c.in-Some.op)) refl
    ∙ named_prefix (λ f. row f c.args.ops.now.before) (λ f. row f c.args.ops.now.between) c.args.token.now c.args.word (reverse c.args.self.now.frames.items) c.args.self.now.nodes.items c.in-Some.op (sym c.joins.ensures ∙ c.if-joins.false) (sym c.stands_alone.ensures ∙ c.if-stands_alone.false)
    (ap (λ f. row f c.args.ops.now.before) (sym c.as_str.ensures) ∙ sym c.prefix.ensures ∙ c.in-Some.is) (grind (arith, c.most.ensures, c.if-op-most.false))) c.begins.ensures
