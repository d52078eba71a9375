use Rattle.std.proofs.Common.{◌≡◌, ◌∙◌, ◌++◌, ◌∷◌, ap, sym, arith, length, append-nil, ◌<◌}
use Rattle.std.proofs.lemmas.List.Elements.{All-drop}
use Rattle.prolog_lex.specs.Lexed.{IsTokenOf}
use Rattle.prolog_read.specs.Views.{seen}
use Rattle.prolog_read.proofs.Placing.{placed_pair, behind_all_pair, placed_single, behind_all_single, placed_none, behind_all_none, pushed}
use Rattle.prolog_read.proofs.lexemes.lexemes.Goals as goal

pub loop-rest-preserved-then-begins_with_pair : goal.loop-rest-preserved-then-begins_with_pair
loop-rest-preserved-then-begins_with_pair c =
    let i = c.loop-rest.invariant in
    let text = c.args.text.now in
    let before = seen c.loop-rest.before in
    let rest = c.loop-rest.rest.now in
    let h = sym c.begins_with_pair.ensures ∙ c.if-begins_with_pair.true in
    rw (c.after-rest.ensures, c.in_ok-pair.ensures.after) (
      pushed c.loop-rest.found.items c.push.new.self.items _ _ (c.in_ok-push.ensures.items ∙ ap (λ p. c.loop-rest.found.items ++ p ∷ _) c.in_ok-pair.ensures.placed)
          ∙ ap (λ ps. c.loop-rest.found.items ++ ps) (sym (placed_pair text before rest _ h)) ∙ i.0,
      sym (behind_all_pair text before rest _ h) ∙ i.1,
      c.in_ok-pair.ensures.index,
      All-drop (IsTokenOf text) 2 rest i.3,
    )

pub loop-rest-preserved : goal.loop-rest-preserved
loop-rest-preserved c =
    let i = c.loop-rest.invariant in
    let text = c.args.text.now in
    let before = seen c.loop-rest.before in
    let rest = c.loop-rest.rest.now in
    let h = sym c.begins_with_pair.ensures ∙ c.if-begins_with_pair.false in
    let some : 0 < length rest = grind (arith, c.loop-rest-test.true, c.is_empty.ensures) in
    rw (c.after-rest-else-begins_with_pair.ensures, c.in_ok-single.ensures.after) (
      pushed c.loop-rest.found.items c.push-else-begins_with_pair.new.self.items _ _ (c.in_ok-push-2.ensures.items ∙ ap (λ p. c.loop-rest.found.items ++ p ∷ _) c.in_ok-single.ensures.placed)
          ∙ ap (λ ps. c.loop-rest.found.items ++ ps) (sym (placed_single text before rest _ some h)) ∙ i.0,
      sym (behind_all_single text before rest _ some h) ∙ i.1,
      c.in_ok-single.ensures.index,
      All-drop (IsTokenOf text) 1 rest i.3,
    )

pub returns-clause-placed : goal.returns-clause-placed
returns-clause-placed c =
    let none : length c.loop-rest.rest.now ≡ 0 = grind (arith, c.loop-rest-test.false, c.is_empty.ensures) in
    sym (append-nil c.loop-rest.found.items)
    ∙ ap (λ ps. c.loop-rest.found.items ++ ps) (sym (placed_none c.args.text.now (seen c.loop-rest.before) c.loop-rest.rest.now none)) ∙ c.loop-rest.invariant.0

pub returns-clause-names : goal.returns-clause-names
returns-clause-names c =
    let none : length c.loop-rest.rest.now ≡ 0 = grind (arith, c.loop-rest-test.false, c.is_empty.ensures) in
    c.into_names.ensures
    ∙ ap (λ b. b.variables.names) (sym (behind_all_none c.args.text.now (seen c.loop-rest.before) c.loop-rest.rest.now none) ∙ c.loop-rest.invariant.1)
