use Rattle.std.proofs.Common.{◌≡◌, ap, sym, subst, ◌∙◌, ◌++◌, List, length}
use Rattle.term_core.specs.Tree.{Tree}
use Rattle.term_core.specs.Flat.{flatten, parse, parse-flatten}
use Rattle.term_core.specs.Preorder.{AreTermNodes}
use Rattle.term_core.proofs.Preorder.{AreTermNodes-drop}
use Rattle.builtin_table.specs.Lists.{elements, rest}
use Rattle.tree_results.proofs.Cells.{IsNodes, IsCell, of_term, all_nodes, cell_of, head_is, tail_is, tail_nodes, elements_more, rest_more, elements_end, rest_end}
use Rattle.tree_results.proofs.lists.list_parts.Goals as goal

pub loop-parts-init : goal.loop-parts-init
loop-parts-init c =
    let same : parse c.nodes-nodes.result.now ≡ c.args.term.now = ap parse c.nodes-nodes.ensures.nodes ∙ parse-flatten c.args.term.now in
    record {
      nodes = of_term c.args.term.now c.nodes-nodes.result.now c.nodes-nodes.ensures.nodes c.nodes-nodes.ensures.is_term;
      elements = ap (λ (xs : List Tree). xs ++ elements (parse c.nodes-nodes.result.now)) c.new-elements.ensures.items ∙ ap elements same;
      rest = ap rest same;
    }

pub first_of-requires-clause-terms : goal.first_of-requires-clause-terms
first_of-requires-clause-terms c =
    subst AreTermNodes (sym c.behind-parts.ensures) (AreTermNodes-drop 1 c.loop-parts.nodes.now (all_nodes c.loop-parts.nodes.now c.loop-parts.invariant.nodes))

pub loop-parts-preserved : goal.loop-parts-preserved
loop-parts-preserved c =
    let ns = c.loop-parts.nodes.now in
    let h : IsNodes ns = c.loop-parts.invariant.nodes in
    let cell : IsCell (parse ns) = cell_of ns c.index-nodes-0.result h c.index-nodes-0.is (sym c.is_cell.ensures ∙ c.loop-parts-test.true) in
    let head : c.in_ok-element.element ≡ cell.head = c.in_ok-element.ensures ∙ head_is ns c.behind-parts.result.now h cell c.behind-parts.ensures in
    let tail = tail_is ns c.behind-parts.result.now c.behind-nodes.result.now h cell (length c.nodes.result.now) c.behind-parts.ensures (ap length c.nodes.ensures.nodes ∙ ap (λ (t : Tree). length (flatten t)) head) c.behind-nodes.ensures in
    record {
      nodes = tail_nodes ns c.behind-nodes.result.now h cell tail;
      elements = elements_more ns c.behind-nodes.result.now cell c.loop-parts.elements.items c.push.new.self.items (elements c.args.term.now) c.in_ok-element.element c.loop-parts.invariant.elements head tail c.in_ok-push.ensures.items;
      rest = rest_more ns c.behind-nodes.result.now cell (rest c.args.term.now) c.loop-parts.invariant.rest tail;
    }

pub first_of-requires-2-clause-terms : goal.first_of-requires-2-clause-terms
first_of-requires-2-clause-terms c = all_nodes c.loop-parts.nodes.now c.loop-parts.invariant.nodes

pub returns-clause-elements : goal.returns-clause-elements
returns-clause-elements c =
    elements_end c.loop-parts.nodes.now c.index-nodes-0.result c.loop-parts.elements.items (elements c.args.term.now) c.loop-parts.invariant.nodes c.index-nodes-0.is (sym c.is_cell.ensures ∙ c.loop-parts-test.false) c.loop-parts.invariant.elements

pub returns-clause-rest : goal.returns-clause-rest
returns-clause-rest c =
    c.in_ok-rest.ensures ∙ rest_end c.loop-parts.nodes.now c.index-nodes-0.result (rest c.args.term.now) c.loop-parts.invariant.nodes c.index-nodes-0.is (sym c.is_cell.ensures ∙ c.loop-parts-test.false) c.loop-parts.invariant.rest
