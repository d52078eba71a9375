use Rattle.std.proofs.Common.{◌≡◌, ◌≤◌, ap, sym, subst, ◌∙◌, List, length, arith}
use Rattle.std.proofs.lemmas.List.{take_all}
use Rattle.std.proofs.lemmas.List.Elements.{All-more}
use Rattle.std.specs.Prelude.{All}
use Rattle.term_core.specs.declared.node.Node.{Node}
use Rattle.term_core.specs.Tree.{Tree, IsTerm}
use Rattle.term_core.specs.Flat.{flatten, parse, parse-flatten}
use Rattle.builtin_table.specs.Lists.{list_of}
use Rattle.tree_results.proofs.Cells.{cell_more, list_end, IsTerm-list_of}
use Rattle.tree_results.proofs.lists.list_of.Goals as goal

pub loop-element-preserved : goal.loop-element-preserved
loop-element-preserved c = record {
  nodes = cell_more c.args.elements.now c.loop-element.element-index c.element-item.result c.loop-element.nodes.items c.push_cell.new.nodes.items c.nodes.result.now c.nodes.result.now (flatten (list_of c.args.elements.now)) c.loop-element-test.true c.element-item.is c.nodes.ensures.nodes c.in_ok-push_cell.ensures c.loop-element.invariant.nodes;
  terms = All-more IsTerm c.args.elements.now c.loop-element.element-index c.element-item.result c.loop-element-test.true c.loop-element.invariant.terms (subst IsTerm c.element-item.is c.nodes.ensures.is_term);
}

pub from_nodes-requires : goal.from_nodes-requires
from_nodes-requires c =
    let ts : List Tree = c.args.elements.now in
    let end : length ts ≤ c.loop-element.element-index = omega (arith, c.loop-element-test.false) in
    let ns : List Node = c.push.new.self.items in
    let is : ns ≡ flatten (list_of ts) = list_end ts c.loop-element.element-index c.in_ok-new.field-0 c.loop-element.nodes.items ns ns (flatten (list_of ts)) end c.in_ok-new.ensures c.in_ok-push.ensures.items (λ i. ns) c.loop-element.invariant.nodes in
    let list : parse ns ≡ list_of ts = ap parse is ∙ parse-flatten (list_of ts) in
    record {
      tree = ap flatten list ∙ sym is;
      is_term = subst IsTerm (sym list) (IsTerm-list_of ts (subst (All IsTerm) (take_all c.loop-element.element-index ts end) c.loop-element.invariant.terms));
    }

pub returns : goal.returns
returns c =
    let ts : List Tree = c.args.elements.now in
    let end : length ts ≤ c.loop-element.element-index = omega (arith, c.loop-element-test.false) in
    let ns : List Node = c.push.new.self.items in
    c.in_ok-list.ensures ∙ ap parse (list_end ts c.loop-element.element-index c.in_ok-new.field-0 c.loop-element.nodes.items ns ns (flatten (list_of ts)) end c.in_ok-new.ensures c.in_ok-push.ensures.items (λ i. ns) c.loop-element.invariant.nodes) ∙ parse-flatten (list_of ts)
