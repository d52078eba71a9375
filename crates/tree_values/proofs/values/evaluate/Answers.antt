use Rattle.std.proofs.Common.{arith, ◌∙◌, Ok, pos}
use Rattle.tree_values.proofs.TreeValues.{node_values_back, value_popped}
use Rattle.tree_values.proofs.values.evaluate.Goals as goal

pub loop-i-preserved : goal.loop-i-preserved
loop-i-preserved c =
    node_values_back c.nodes-nodes.result.now c.loop-i.i c.index-nodes-nodes.result _ c.loop-i.values.items c.take_node.new.values.items c.loop-i-test.true c.index-nodes-nodes.is (omega arith) c.loop-i.invariant c.in_ok-take_node.ensures

pub returns : goal.returns
returns c =
    c.unwrap_or.ensures ∙ value_popped c.args.term.now c.nodes-nodes.result.now _ c.loop-i.values.items _ c.pop.result (Ok (pos 0)) c.nodes-nodes.ensures.nodes (omega (arith, c.loop-i-test.false)) c.loop-i.invariant (omega (arith, c.loop-i.values.ok.0)) c.pop.ensures.value
