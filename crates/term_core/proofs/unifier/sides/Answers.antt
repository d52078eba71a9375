use Rattle.std.proofs.Common.{◌∙◌, subst}
use Rattle.std.proofs.lemmas.List.Elements.{All-more}
use Rattle.std.specs.List.{zip}
use Rattle.term_core.specs.Tree.{IsTerm}
use Rattle.term_core.specs.Substitution.{apply}
use Rattle.term_core.proofs.Applying.{IsTerm-apply, IsTerm-value_of}
use Rattle.term_core.proofs.Unifying.{gathered, whole_side, applied_pairs}
use Rattle.term_core.proofs.unifier.sides.Goals as goal

pub loop-pair-preserved : goal.loop-pair-preserved
loop-pair-preserved c =
    let s = c.args.s.now in
    let ps = c.args.pairs.now in
    let i = c.loop-pair.pair-index in
    let p = c.pair-item.result in
    let terms = IsTerm-value_of s c.pairs.ensures.terms in
    record {
      left = gathered s c.pairs.result.now (λ q. q.0) ps i p _ _ c.nodes.result.now c.loop-pair-test.true c.pair-item.is c.loop-pair.invariant.left c.nodes.ensures.nodes c.pairs.ensures.pairs c.in_ok-append_applied.ensures;
      right = gathered s c.pairs-in-loop-pair.result.now (λ q. q.1) ps i p _ _ c.nodes-in-loop-pair.result.now c.loop-pair-test.true c.pair-item.is c.loop-pair.invariant.right c.nodes-in-loop-pair.ensures.nodes c.pairs-in-loop-pair.ensures.pairs c.in_ok-append_applied-2.ensures;
      left_terms = All-more (λ q. IsTerm (apply s q.0)) ps i p c.loop-pair-test.true c.loop-pair.invariant.left_terms (subst (λ q. IsTerm (apply s q.0)) c.pair-item.is (IsTerm-apply s terms p.0 c.nodes.ensures.is_term));
      right_terms = All-more (λ q. IsTerm (apply s q.1)) ps i p c.loop-pair-test.true c.loop-pair.invariant.right_terms (subst (λ q. IsTerm (apply s q.1)) c.pair-item.is (IsTerm-apply s terms p.1 c.nodes-in-loop-pair.ensures.is_term));
    }

pub returns-clause-left : goal.returns-clause-left
returns-clause-left c =
    (whole_side c.args.s.now (λ q. q.0) c.args.pairs.now c.loop-pair.pair-index c.loop-pair.left.items c.loop-pair-test.false c.loop-pair.invariant.left c.loop-pair.invariant.left_terms).nodes

pub returns-clause-right : goal.returns-clause-right
returns-clause-right c =
    (whole_side c.args.s.now (λ q. q.1) c.args.pairs.now c.loop-pair.pair-index c.loop-pair.right.items c.loop-pair-test.false c.loop-pair.invariant.right c.loop-pair.invariant.right_terms).nodes

pub returns-clause-pairs : goal.returns-clause-pairs
returns-clause-pairs c =
    let left = (whole_side c.args.s.now (λ q. q.0) c.args.pairs.now c.loop-pair.pair-index c.loop-pair.left.items c.loop-pair-test.false c.loop-pair.invariant.left c.loop-pair.invariant.left_terms).trees in
    let right = (whole_side c.args.s.now (λ q. q.1) c.args.pairs.now c.loop-pair.pair-index c.loop-pair.right.items c.loop-pair-test.false c.loop-pair.invariant.right c.loop-pair.invariant.right_terms).trees in
    (λ i. zip (left i) (right i)) ∙ applied_pairs c.args.s.now c.args.pairs.now
