use Rattle.std.proofs.Common.{◌∙◌}
use Rattle.std.proofs.lemmas.Result.{err_from_is_err_and}
use Rattle.std.proofs.lemmas.List.Sums.{prefix_len-le-length}
use Rattle.prolog_lex.specs.declared.token.TokenKind.TheVariants.{Name}
use Rattle.prolog_read.specs.Views.{is_inner}
use Rattle.prolog_read.proofs.Faults.{first_fault, refused_behind}
use Rattle.prolog_read.proofs.Sentences.{only_more, only_few}
use Rattle.prolog_read.proofs.read.only_term.Goals as goal

pub split_at-requires : goal.split_at-requires
split_at-requires c = rw c.inner_len.ensures (prefix_len-le-length is_inner c.args.tokens.now)

pub returns-in_err-check_syntax-clause-err : goal.returns-in_err-check_syntax-clause-err
returns-in_err-check_syntax-clause-err c =
    let p = err_from_is_err_and c.from_residual.result c.from_residual.ensures.1 in
    rw (p.1, p.2, only_more c.args.ops.now c.args.text.now c.args.tokens.now _ _ _ c.inner_len.ensures c.split_at.ensures.front c.split_at.ensures.back (record { kind = Name; from = 0; to = 0 }) c.if-behind-gt1.true, ← c.place_of-end.ensures)
    (first_fault _ _ _ c.in_err-check_syntax.ensures.err)

pub returns-then-behind-gt1-clause-err : goal.returns-then-behind-gt1-clause-err
returns-then-behind-gt1-clause-err c =
    only_more c.args.ops.now c.args.text.now c.args.tokens.now _ _ _ c.inner_len.ensures c.split_at.ensures.front c.split_at.ensures.back _ c.if-behind-gt1.true
    ∙ refused_behind _ _ (rw (← c.place_of-end.ensures) c.in_ok-check_syntax.ensures.ok)

pub returns-clause-ok : goal.returns-clause-ok
returns-clause-ok c =
    rw (only_few c.args.ops.now c.args.text.now c.args.tokens.now _ _ _ c.inner_len.ensures c.split_at.ensures.front c.split_at.ensures.back c.if-behind-gt1.false, ← c.place_of-end.ensures) c.term_of.ensures.ok

pub returns-clause-err : goal.returns-clause-err
returns-clause-err c =
    rw (only_few c.args.ops.now c.args.text.now c.args.tokens.now _ _ _ c.inner_len.ensures c.split_at.ensures.front c.split_at.ensures.back c.if-behind-gt1.false, ← c.place_of-end.ensures) c.term_of.ensures.err
