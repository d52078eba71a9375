use Rattle.std.proofs.Common.{◌≡◌, ◌∙◌, ◌<◌, ◌∷◌, [], sym, ap, arith, length, map}
use Rattle.std.proofs.lemmas.Result.{err_from_is_err_and}
use Rattle.std.proofs.lemmas.List.{map-append}
use Rattle.std.proofs.lemmas.List.Elements.{All-drop}
use Rattle.std.proofs.lemmas.List.Sums.{prefix_len-le-length}
use Rattle.prolog_lex.specs.Lexed.{IsTokenOf}
use Rattle.prolog_read.specs.Outcome.{read_as, term_of}
use Rattle.prolog_read.specs.Views.{is_inner, tokens_in, AreTokensOf}
use Rattle.prolog_read.proofs.Faults.{first_fault, refused_behind}
use Rattle.prolog_read.proofs.Sentences.{after, clause_turn, clause_read, no_clause, after_fault}
use Rattle.prolog_read.proofs.read.clauses.Goals as goal

pub split_at-requires : goal.split_at-requires
split_at-requires c = rw c.inner_len.ensures (prefix_len-le-length is_inner c.loop-rest.rest.now)

pub returns-in_err-check_syntax-clause-err : goal.returns-in_err-check_syntax-clause-err
returns-in_err-check_syntax-clause-err c =
    let some : 0 < length c.loop-rest.rest.now = grind (arith, c.loop-rest-test.true, c.is_empty.ensures) in
    let none : length c.split_at.result.1.now ≡ 0 = grind (arith, c.if-is_empty.true, c.is_empty-in-loop-rest.ensures) in
    let p = err_from_is_err_and c.from_residual-in_err-check_syntax.result c.from_residual-in_err-check_syntax.ensures.1 in
    rw (p.1, p.2, c.loop-rest.invariant.0, no_clause _ c.args.text.now c.loop-rest.rest.now _ _ _ c.inner_len.ensures c.split_at.ensures.front c.split_at.ensures.back none some, ← c.place_of-end.ensures)
    (after_fault _ _ _ (first_fault _ _ _ c.in_err-check_syntax.ensures.err))

pub returns-then-is_empty-clause-err : goal.returns-then-is_empty-clause-err
returns-then-is_empty-clause-err c =
    let some : 0 < length c.loop-rest.rest.now = grind (arith, c.loop-rest-test.true, c.is_empty.ensures) in
    let none : length c.split_at.result.1.now ≡ 0 = grind (arith, c.if-is_empty.true, c.is_empty-in-loop-rest.ensures) in
    rw (c.loop-rest.invariant.0, no_clause _ c.args.text.now c.loop-rest.rest.now _ _ _ c.inner_len.ensures c.split_at.ensures.front c.split_at.ensures.back none some, ← c.place_of-end.ensures)
    (ap (after _) (refused_behind _ _ c.in_ok-check_syntax.ensures.ok))

pub returns-in_err-clause-clause-err : goal.returns-in_err-clause-clause-err
returns-in_err-clause-clause-err c =
    let some : 0 < length c.split_at.result.1.now = grind (arith, c.if-is_empty.false, c.is_empty-in-loop-rest.ensures) in
    let p = err_from_is_err_and c.from_residual-in_err-clause.result c.from_residual-in_err-clause.ensures.1 in
    rw (p.1, p.2, c.loop-rest.invariant.0, clause_turn _ c.args.text.now c.loop-rest.rest.now _ _ _ c.inner_len.ensures c.split_at.ensures.front c.split_at.ensures.back some, ← c.place_of-end.ensures)
    (after_fault _ _ _ (first_fault _ _ _ c.in_err-clause.ensures.err))

pub loop-rest-preserved : goal.loop-rest-preserved
loop-rest-preserved c =
    let some : 0 < length c.split_at.result.1.now = grind (arith, c.if-is_empty.false, c.is_empty-in-loop-rest.ensures) in
    let text = c.args.text.now in
    let all : AreTokensOf text c.split_at.result.1.now = rw c.split_at.ensures.back (All-drop (IsTokenOf text) _ c.loop-rest.rest.now c.loop-rest.invariant.1) in
    let end = ap (λ at. term_of c.loop-rest.ops text at (tokens_in c.split_at.result.0.now)) (sym c.place_of-end.ensures) ∙ c.in_ok-clause.ensures.ok in
    rw (c.after-rest.ensures, c.in_ok-obey.ensures, c.in_ok-push.ensures.items, map-append read_as c.loop-rest.found.items (c.in_ok-clause.clause ∷ [])) (
      c.loop-rest.invariant.0
          ∙ clause_read c.loop-rest.ops text c.loop-rest.rest.now _ _ _ c.inner_len.ensures c.split_at.ensures.front c.split_at.ensures.back some (read_as c.in_ok-clause.clause) end (map read_as c.loop-rest.found.items),
      All-drop (IsTokenOf text) 1 c.split_at.result.1.now all,
    )
