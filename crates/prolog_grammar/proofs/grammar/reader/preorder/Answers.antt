use Rattle.std.proofs.lemmas.Result.{err_from_is_err_and}
use Rattle.op_table.specs.Table.{row}
use Rattle.prolog_grammar.proofs.Found.{preorder_ok, preorder_err}
use Rattle.prolog_grammar.proofs.grammar.reader.preorder.Goals as goal

pub returns-in_err-nodes-clause-err : goal.returns-in_err-nodes-clause-err
returns-in_err-nodes-clause-err c =
    let p = err_from_is_err_and c.from_residual.result c.from_residual.ensures.1 in
    rw (p.1, p.2) (preorder_err (λ f. row f c.args.ops.now.before) (λ f. row f c.args.ops.now.between) c.args.end c.args.tokens.now c.in_err-nodes.field-0.0 c.in_err-nodes.ensures.err)

pub returns-clause-ok : goal.returns-clause-ok
returns-clause-ok c =
    preorder_ok (λ f. row f c.args.ops.now.before) (λ f. row f c.args.ops.now.between) c.args.end c.args.tokens.now c.in_ok-nodes.nodes.items c.in_ok-turned.field-0.items c.in_ok-nodes.ensures.ok c.in_ok-turned.ensures
