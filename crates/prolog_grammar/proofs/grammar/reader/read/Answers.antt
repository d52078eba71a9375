use Rattle.std.proofs.Common.{sym, ◌<◌, length, subst, ◌≡◌}
use Rattle.std.proofs.lemmas.Result.{err_from_is_err_and}
use Rattle.op_table.specs.Table.{row}
use Rattle.term_core.specs.Flat.{flatten, parse}
use Rattle.prolog_grammar.specs.Machine.{start}
use Rattle.prolog_grammar.specs.Read.{reading, term_of, first_place}
use Rattle.prolog_grammar.proofs.Found.{node_of, whole_tree, limited_as, faults_first}
use Rattle.prolog_grammar.proofs.grammar.reader.read.Goals as goal

pub returns-in_err-nodes-clause-err : goal.returns-in_err-nodes-clause-err
unfolding term_of
returns-in_err-nodes-clause-err c =
    let p = err_from_is_err_and c.from_residual.result c.from_residual.ensures.1 in
    rw (p.1, p.2) (faults_first (reading (λ f. row f c.args.ops.now.before) (λ f. row f c.args.ops.now.between) c.args.end c.args.tokens.now start) (first_place c.args.end c.args.tokens.now) c.in_err-nodes.field-0.0 c.in_err-nodes.ensures.err)

pub within-requires-clause-some : goal.within-requires-clause-some
within-requires-clause-some c =
    subst (λ l. 0 < length l) (sym c.deref.ensures.value) (node_of (reading (λ f. row f c.args.ops.now.before) (λ f. row f c.args.ops.now.between) c.args.end c.args.tokens.now start) c.in_ok-nodes.nodes.items c.in_ok-nodes.ensures.ok)

pub within-requires-clause-tree : goal.within-requires-clause-tree
within-requires-clause-tree c =
    subst (λ l. flatten (parse l) ≡ l) (sym c.deref.ensures.value) (whole_tree (reading (λ f. row f c.args.ops.now.before) (λ f. row f c.args.ops.now.between) c.args.end c.args.tokens.now start) c.in_ok-nodes.nodes.items c.in_ok-nodes.ensures.ok)

pub returns-clause-ok : goal.returns-clause-ok
unfolding term_of
returns-clause-ok c =
    rw (limited_as (reading (λ f. row f c.args.ops.now.before) (λ f. row f c.args.ops.now.between) c.args.end c.args.tokens.now start) (first_place c.args.end c.args.tokens.now) c.in_ok-nodes.nodes.items c.in_ok-nodes.ensures.ok, ← c.first_place.ensures, ← c.deref.ensures.value)
    c.within.ensures.ok

pub returns-clause-err : goal.returns-clause-err
unfolding term_of
returns-clause-err c =
    rw (limited_as (reading (λ f. row f c.args.ops.now.before) (λ f. row f c.args.ops.now.between) c.args.end c.args.tokens.now start) (first_place c.args.end c.args.tokens.now) c.in_ok-nodes.nodes.items c.in_ok-nodes.ensures.ok, ← c.first_place.ensures, ← c.deref.ensures.value)
    c.within.ensures.err
