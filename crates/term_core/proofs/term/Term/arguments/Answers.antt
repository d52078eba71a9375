use Rattle.std.proofs.Common.{arith, ap, length, subst, sym, ◌∙◌, drop}
use Rattle.term_core.specs.Flat.{build}
use Rattle.term_core.specs.Preorder.{AreTermNodes}
use Rattle.term_core.proofs.Preorder.{AreTermNodes-drop, AreTermNodes-flatten}
use Rattle.term_core.proofs.Apart.{some_node, behind_first, one_more}
use Rattle.term_core.proofs.term.Term.arguments.Goals as goal

pub without_first-rest-requires : goal.without_first-rest-requires
without_first-rest-requires c = omega (arith, some_node c.args.self.now, ap length c.nodes-nodes.ensures.nodes)

pub loop-rest-init : goal.loop-rest-init
loop-rest-init c =
    let ns = c.nodes-nodes.result.now in
    let e = c.without_first-rest.ensures in
    record {
      all = rw c.new-arguments.ensures.items (ap build e ∙ ap (λ ms. build (drop 1 ms)) c.nodes-nodes.ensures.nodes ∙ behind_first c.args.self.now);
      nodes = subst AreTermNodes (sym e) (AreTermNodes-drop 1 ns (AreTermNodes-flatten c.args.self.now ns c.nodes-nodes.ensures.nodes c.nodes-nodes.ensures.is_term));
    }

pub loop-rest-preserved : goal.loop-rest-preserved
loop-rest-preserved c =
    record {
      all = rw (c.in_ok-push.ensures.items, c.in_ok-first_of.ensures) (one_more c.loop-rest.arguments.items c.loop-rest.rest.now c.behind_first-rest.result.now (omega arith) c.behind_first-rest.ensures.trees ∙ c.loop-rest.invariant.all);
      nodes = c.behind_first-rest.ensures.terms;
    }
