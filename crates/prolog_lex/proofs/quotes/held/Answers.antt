use Rattle.std.proofs.Common.{◌≡◌, ◌+◌, [], ◌++◌, ◌∙◌, sym, ap, drop, append-nil}
use Rattle.term_core.specs.Tokens as tokens
use Rattle.prolog_lex.proofs.Quoting.{held-first, held-character, parts-at, no_parts}
use Rattle.prolog_lex.proofs.quotes.held.Goals as goal
use Rattle.prolog_lex.proofs.quotes.held.Goals.{else-loop-at-test, then-loop-at-test+in-Closing}

pub loop-at-init : goal.loop-at-init
loop-at-init c = rw c.new-characters.ensures (held-first c.args.quote c.args.cs.now)

pub loop-at-preserved-in-Character : goal.loop-at-preserved-in-Character
loop-at-preserved-in-Character c =
    let i = c.loop-at.invariant in
    let turn = parts-at c.args.quote c.loop-at.at (tokens.character c.in-Character.c c.in-Character.count) c.args.cs.now _ c.loop-at-test.true c.after.ensures c.in-Character.ensures.value c.in-Character.ensures.within in
    rw c.in_ok-push-in-Character.ensures.ok
    (i ∙ ap (λ ps. c.loop-at.characters ++ tokens.characters_of ps) turn ∙ held-character c.loop-at.characters c.in-Character.c c.in-Character.count (tokens.parts c.args.quote 0 (drop (c.loop-at.at + c.in-Character.count) c.args.cs.now)))

pub loop-at-preserved-in-Joint : goal.loop-at-preserved-in-Joint
loop-at-preserved-in-Joint c =
    let i = c.loop-at.invariant in
    let turn = parts-at c.args.quote c.loop-at.at (tokens.joint c.in-Joint.count) c.args.cs.now _ c.loop-at-test.true c.after.ensures c.in-Joint.ensures.value c.in-Joint.ensures.within in
    (i ∙ ap (λ ps. c.loop-at.characters ++ tokens.characters_of ps) turn)

pub loop-at-preserved : goal.loop-at-preserved
loop-at-preserved c =
    let i = c.loop-at.invariant in
    let turn = parts-at c.args.quote c.loop-at.at (tokens.refused c.in-Refused.count) c.args.cs.now _ c.loop-at-test.true c.after.ensures c.in-Refused.ensures.value c.in-Refused.ensures.within in
    (i ∙ ap (λ ps. c.loop-at.characters ++ tokens.characters_of ps) turn)

pub returns : goal.returns
returns c =
    let i = c.loop-at.invariant in
    let left : tokens.characters_of (tokens.parts c.args.quote 0 (drop c.loop-at.at c.args.cs.now)) ≡ [] =
    elim c.loop-at-test.branch [
      | else-loop-at-test w ↦ ap tokens.characters_of (no_parts c.args.quote c.loop-at.at c.args.cs.now w.loop-at-test.false)
      | then-loop-at-test+in-Closing w ↦
          ap tokens.characters_of (parts-at c.args.quote c.loop-at.at tokens.closing c.args.cs.now _ w.loop-at-test.true w.after.ensures w.in-Closing.ensures.value w.in-Closing.ensures.within)
    ] in
    sym (i ∙ ap (λ t. c.loop-at.characters ++ t) left ∙ append-nil c.loop-at.characters)
