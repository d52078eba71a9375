use Rattle.std.proofs.Common.{◌≡◌, ap, sym, subst, ◌∙◌, ◌++◌, List, length}
use Rattle.term_core.specs.Tree.{Tree}
use Rattle.term_core.specs.Flat.{flatten, parse, parse-flatten}
use Rattle.term_core.specs.Preorder.{AreTermNodes}
use Rattle.term_core.proofs.Preorder.{AreTermNodes-drop}
use Rattle.builtin_table.specs.Solutions.{carets, behind_carets}
use Rattle.tree_results.proofs.Cells.{IsNodes, of_term, all_nodes}
use Rattle.solve_model.proofs.Carets.{IsCaret, caret_at, head_is, tail_is, tail_nodes, carets_more, behind_more, carets_end, behind_end}
use Rattle.solve_model.proofs.solutions.carets.Goals as goal

pub loop-parts-init : goal.loop-parts-init
loop-parts-init c =
    let same : parse c.nodes-nodes.result.now ≡ c.args.goal.now = ap parse c.nodes-nodes.ensures.nodes ∙ parse-flatten c.args.goal.now in
    record {
      nodes = of_term c.args.goal.now c.nodes-nodes.result.now c.nodes-nodes.ensures.nodes c.nodes-nodes.ensures.is_term;
      carets = ap (λ (xs : List Tree). xs ++ carets (parse c.nodes-nodes.result.now)) c.new-found.ensures.items ∙ ap carets same;
      behind = ap behind_carets same;
    }

pub first_of-requires-clause-terms : goal.first_of-requires-clause-terms
first_of-requires-clause-terms c =
    subst AreTermNodes (sym c.behind-parts.ensures) (AreTermNodes-drop 1 c.loop-parts.nodes.now (all_nodes c.loop-parts.nodes.now c.loop-parts.invariant.nodes))

pub loop-parts-preserved : goal.loop-parts-preserved
loop-parts-preserved c =
    let ns = c.loop-parts.nodes.now in
    let h : IsNodes ns = c.loop-parts.invariant.nodes in
    let here : IsCaret (parse ns) = caret_at ns c.index-nodes-0.result h c.index-nodes-0.is (sym c.is_caret.ensures ∙ c.loop-parts-test.true) in
    let head : c.in_ok-quantified.quantified ≡ here.head = c.in_ok-quantified.ensures ∙ head_is ns c.behind-parts.result.now h here c.behind-parts.ensures in
    let tail = tail_is ns c.behind-parts.result.now c.behind-nodes.result.now h here (length c.nodes.result.now) c.behind-parts.ensures (ap length c.nodes.ensures.nodes ∙ ap (λ (t : Tree). length (flatten t)) head) c.behind-nodes.ensures in
    record {
      nodes = tail_nodes ns c.behind-nodes.result.now h here tail;
      carets = carets_more ns c.behind-nodes.result.now here c.loop-parts.found.items c.push.new.self.items (carets c.args.goal.now) c.in_ok-quantified.quantified c.loop-parts.invariant.carets head tail c.in_ok-push.ensures.items;
      behind = behind_more ns c.behind-nodes.result.now here (behind_carets c.args.goal.now) c.loop-parts.invariant.behind tail;
    }

pub first_of-requires-2-clause-terms : goal.first_of-requires-2-clause-terms
first_of-requires-2-clause-terms c = all_nodes c.loop-parts.nodes.now c.loop-parts.invariant.nodes

pub returns-clause-carets : goal.returns-clause-carets
returns-clause-carets c =
    carets_end c.loop-parts.nodes.now c.index-nodes-0.result c.loop-parts.found.items (carets c.args.goal.now) c.loop-parts.invariant.nodes c.index-nodes-0.is (sym c.is_caret.ensures ∙ c.loop-parts-test.false) c.loop-parts.invariant.carets

pub returns-clause-behind : goal.returns-clause-behind
returns-clause-behind c =
    c.in_ok-goal.ensures ∙ behind_end c.loop-parts.nodes.now c.index-nodes-0.result (behind_carets c.args.goal.now) c.loop-parts.invariant.nodes c.index-nodes-0.is (sym c.is_caret.ensures ∙ c.loop-parts-test.false) c.loop-parts.invariant.behind
