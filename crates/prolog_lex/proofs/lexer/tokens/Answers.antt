use Rattle.std.proofs.Common.{◌≡◌, ◌+◌, ◌∙◌, ap, rules, arith, take, drop, map, refl}
use Rattle.std.specs.Str.{chars}
use Rattle.std.proofs.lemmas.List.{map-append}
use Rattle.term_core.specs.Tokens as tokens
use Rattle.prolog_lex.specs.Lexed.{token_of, kind_of}
use Rattle.prolog_lex.specs.Scanned.{reason_of}
use Rattle.prolog_lex.proofs.Spans.{tokens_in_order}
use Rattle.prolog_lex.proofs.Turns.{before, read_from, size-take-drop, size-chars, after_layout, after_token, at_fault, none_left, some_left, before_one, before_end, before_fault}
use Rattle.prolog_lex.proofs.lexer.tokens.Goals as goal

pub loop-at-init : goal.loop-at-init
unfolding tokens.tokens
loop-at-init c =
    let same : c.as_slice-rest.result.now ≡ chars c.args.text.now = c.as_slice-rest.ensures.value ∙ c.in_ok-characters.ensures in
    let size = size-chars c.args.text.now c.utf8.text in
    rw (same, c.new-found.ensures.items) (refl, omega (arith, size), search rules)

pub loop-at-preserved-in-Layout : goal.loop-at-preserved-in-Layout
loop-at-preserved-in-Layout c =
    let i = c.loop-at.invariant in
    let rest = c.loop-at.rest.now in
    let sum = size-take-drop c.in-Layout.count rest in
    let some = some_left rest (omega arith) in
    rw (c.after-rest.ensures, c.place_behind-at.ensures) (
      i.0 ∙ ap (before (map token_of c.loop-at.found.items)) (after_layout c.loop-at.at c.in-Layout.count rest some c.in-Layout.ensures.value c.in-Layout.ensures.within),
      omega arith,
      i.2,
    )

pub loop-at-preserved : goal.loop-at-preserved
loop-at-preserved c =
    let i = c.loop-at.invariant in
    let rest = c.loop-at.rest.now in
    let done = map token_of c.loop-at.found.items in
    let next = read_from (c.loop-at.at + tokens.size (take c.in-Token.count rest)) (drop c.in-Token.count rest) in
    let sum = size-take-drop c.in-Token.count rest in
    let some = some_left rest (omega arith) in
    rw (c.in_ok-push-in-Token.ensures.items, c.after-rest-in-Token.ensures, c.place_behind-to.ensures, map-append) (
      i.0 ∙ ap (before done) (after_token c.loop-at.at c.in-Token.count (kind_of c.in-Token.kind) rest some c.in-Token.ensures.value c.in-Token.ensures.within) ∙ before_one done _ next,
      omega arith,
      i.2,
    )

pub returns-in-Fault-clause-fault : goal.returns-in-Fault-clause-fault
returns-in-Fault-clause-fault c =
    let i = c.loop-at.invariant in
    let rest = c.loop-at.rest.now in
    let done = map token_of c.loop-at.found.items in
    let some = some_left rest (omega arith) in
    let whole = i.0 ∙ ap (before done) (at_fault c.loop-at.at c.in-Fault.count (reason_of c.in-Fault.reason) rest some c.in-Fault.ensures.value) ∙ before_fault done _ in
    rw (whole, ← c.place_behind.ensures) c.fault.ensures

pub returns-clause-tokens : goal.returns-clause-tokens
returns-clause-tokens c =
    let done = map token_of c.loop-at.found.items in
    c.loop-at.invariant.0 ∙ ap (before done) (none_left c.loop-at.at c.loop-at.rest.now (omega arith)) ∙ before_end done

pub returns-clause-spans : goal.returns-clause-spans
returns-clause-spans c =
    let done = map token_of c.loop-at.found.items in
    tokens_in_order c.args.text.now c.loop-at.found.items c.utf8.text
    (c.loop-at.invariant.0 ∙ ap (before done) (none_left c.loop-at.at c.loop-at.rest.now (omega arith)) ∙ before_end done)
