use Rattle.std.proofs.Common.{◌+◌, ◌≤◌, ◌∙◌, sym, ap, length, ℕ, Option, Some, None, IfSome}
use Rattle.std.specs.Option.{option_or}
use Rattle.term_core.specs.Tokens as tokens
use Rattle.prolog_lex.specs.Lexed.{kind_of}
use Rattle.prolog_lex.proofs.Quoting.{resumed, quoted-resumed, quoted-turn, part-within, no_parts, resumed-closing, resumed-character, resumed-joint, resumed-refused}
use Rattle.prolog_lex.proofs.quotes.quoted.Goals as goal

pub loop-at-init : goal.loop-at-init
loop-at-init c = (quoted-resumed c.args.quote (kind_of c.args.kind) c.args.cs.now, c.requires.some, tt)

pub returns-in-Closing-clause-value : goal.returns-in-Closing-clause-value
returns-in-Closing-clause-value c =
    let kind = kind_of c.args.kind in
    let at = c.loop-at.at in
    let bad = c.loop-at.refused in
    let whole = quoted-turn (λ ps. tokens.closed kind (at + 1) bad) kind at bad c.args.quote tokens.closing c.args.cs.now _ _ c.loop-at.invariant.0 c.loop-at-test.true c.after.ensures c.in-Closing.ensures.value c.in-Closing.ensures.within (resumed-closing kind at bad) in
    c.closed.ensures ∙ sym whole

within_or : (n at : ℕ) (bad : Option ℕ) → IfSome bad (λ m. m ≤ n) → at ≤ n → IfSome (option_or bad (Some at)) (λ m. m ≤ n)
within_or n at None h l = l
within_or n at (Some m) h l = h

pub loop-at-preserved-in-Refused : goal.loop-at-preserved-in-Refused
loop-at-preserved-in-Refused c =
    let kind = kind_of c.args.kind in
    let at = c.loop-at.at in
    let bad = c.loop-at.refused in
    let i = c.loop-at.invariant in
    rw c.or-refused.ensures (
      quoted-turn (resumed kind (at + c.in-Refused.count) (option_or bad (Some at))) kind at bad c.args.quote (tokens.refused c.in-Refused.count) c.args.cs.now _ _ i.0 c.loop-at-test.true c.after.ensures c.in-Refused.ensures.value c.in-Refused.ensures.within (resumed-refused kind at c.in-Refused.count bad),
      part-within at c.in-Refused.count c.args.cs.now _ c.loop-at-test.true c.after.ensures c.in-Refused.ensures.within,
      within_or (length c.args.cs.now) at bad i.2 i.1,
    )

pub loop-at-preserved-in-Character : goal.loop-at-preserved-in-Character
loop-at-preserved-in-Character c =
    let kind = kind_of c.args.kind in
    let at = c.loop-at.at in
    let bad = c.loop-at.refused in
    let i = c.loop-at.invariant in (
      quoted-turn (resumed kind (at + c.in-Character.count) bad) kind at bad c.args.quote (tokens.character c.in-Character.field-0 c.in-Character.count) c.args.cs.now _ _ i.0 c.loop-at-test.true c.after.ensures c.in-Character.ensures.value c.in-Character.ensures.within (resumed-character kind at c.in-Character.field-0 c.in-Character.count bad),
      part-within at c.in-Character.count c.args.cs.now _ c.loop-at-test.true c.after.ensures c.in-Character.ensures.within,
      i.2,
    )

pub loop-at-preserved : goal.loop-at-preserved
loop-at-preserved c =
    let kind = kind_of c.args.kind in
    let at = c.loop-at.at in
    let bad = c.loop-at.refused in
    let i = c.loop-at.invariant in (
      quoted-turn (resumed kind (at + c.in-Joint.count) bad) kind at bad c.args.quote (tokens.joint c.in-Joint.count) c.args.cs.now _ _ i.0 c.loop-at-test.true c.after.ensures c.in-Joint.ensures.value c.in-Joint.ensures.within (resumed-joint kind at c.in-Joint.count bad),
      part-within at c.in-Joint.count c.args.cs.now _ c.loop-at-test.true c.after.ensures c.in-Joint.ensures.within,
      i.2,
    )

pub returns-clause-value : goal.returns-clause-value
returns-clause-value c =
    sym (c.loop-at.invariant.0 ∙ ap (resumed (kind_of c.args.kind) c.loop-at.at c.loop-at.refused) (no_parts c.args.quote c.loop-at.at c.args.cs.now c.loop-at-test.false))
