use Rattle.std.proofs.Common.{arith, ◌∙◌}
use Rattle.program.proofs.BodyLemmas.{node_bodies_back, body_popped}
use Rattle.program.proofs.bodies.is_body.Goals as goal

pub loop-i-preserved : goal.loop-i-preserved
loop-i-preserved c =
    node_bodies_back c.nodes-nodes.result.now c.loop-i.i c.index-nodes-nodes.result _ c.loop-i.bodies.items c.take_node.new.bodies.items c.loop-i-test.true c.index-nodes-nodes.is (omega arith) c.loop-i.invariant c.in_ok-take_node.ensures

pub returns : goal.returns
returns c =
    c.unwrap_or.ensures ∙ body_popped c.args.term.now c.nodes-nodes.result.now _ c.loop-i.bodies.items _ c.pop.result c.nodes-nodes.ensures.nodes (omega (arith, c.loop-i-test.false)) c.loop-i.invariant (omega (arith, c.loop-i.bodies.ok.0)) c.pop.ensures.value
