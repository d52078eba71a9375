use Rattle.std.proofs.Common.{refl, ap, ◌∙◌, sym, arith, true, false, ◌≡◌}
use Rattle.std.specs.Prelude.{nat_le}
use Rattle.term_core.specs.Tree.{depth}
use Rattle.term_core.specs.Flat.{parse}
use Rattle.prolog_grammar.proofs.Found.{term_nodes, limits}
use Rattle.prolog_grammar.proofs.grammar.reader.within.Goals as goal

pub returns-then-not-all_have_arguments-clause-err : goal.returns-then-not-all_have_arguments-clause-err
returns-then-not-all_have_arguments-clause-err c =
    limits c.args.at c.args.nodes.now false (nat_le (depth (parse c.args.nodes.now)) 1000) c.requires.tree (sym c.all_have_arguments.ensures ∙ c.if-not-all_have_arguments.true) refl

pub first_of-requires-clause-terms : goal.first_of-requires-clause-terms
first_of-requires-clause-terms c = term_nodes c.args.nodes.now c.requires.tree (sym c.all_have_arguments.ensures ∙ c.if-not-all_have_arguments.false)

pub returns-then-depth-gt-MAX_DEPTH-clause-err : goal.returns-then-depth-gt-MAX_DEPTH-clause-err
returns-then-depth-gt-MAX_DEPTH-clause-err c =
    let deep : nat_le (depth (parse c.args.nodes.now)) 1000 ≡ false = ap (λ t. nat_le (depth t) 1000) (sym c.in_ok-term.ensures) ∙ grind (arith, c.depth.ensures, c.if-depth-gt-MAX_DEPTH.true) in
    limits c.args.at c.args.nodes.now true false c.requires.tree (sym c.all_have_arguments.ensures ∙ c.if-not-all_have_arguments.false) deep

pub returns-clause-ok : goal.returns-clause-ok
returns-clause-ok c =
    let fits : nat_le (depth (parse c.args.nodes.now)) 1000 ≡ true = ap (λ t. nat_le (depth t) 1000) (sym c.in_ok-term.ensures) ∙ grind (arith, c.depth.ensures, c.if-depth-gt-MAX_DEPTH.false) in
    rw c.in_ok-term.ensures (limits c.args.at c.args.nodes.now true true c.requires.tree (sym c.all_have_arguments.ensures ∙ c.if-not-all_have_arguments.false) fits)
