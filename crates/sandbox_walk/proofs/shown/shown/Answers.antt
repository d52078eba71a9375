use Rattle.std.proofs.Common.{reverse, sym}
use Rattle.term_core.proofs.Preorder.{AreTermNodes-flatten}
use Rattle.std.proofs.Common.{None}
use Rattle.sandbox_walk.specs.Shown.{kinds_in, shown}
use Rattle.sandbox_walk.proofs.Reading.{reading_begins, task_last}
use Rattle.sandbox_walk.proofs.shown.shown.Goals as goal

pub loop-init : goal.loop-init
loop-init c =
    reading_begins (kinds_in c.args.table.now) c.args.term.now c.args.kind c.new.result.items c.in_ok-vec.field-0.items c.nodes-nodes.result.now c.new.ensures.items c.in_ok-vec.ensures.items c.nodes-nodes.ensures.nodes

pub take-requires-clause-terms : goal.take-requires-clause-terms
take-requires-clause-terms c = AreTermNodes-flatten c.args.term.now c.nodes-nodes.result.now c.nodes-nodes.ensures.nodes c.nodes-nodes.ensures.is_term

pub loop-preserved : goal.loop-preserved
loop-preserved c =
    c.in_ok-take.ensures (shown (kinds_in c.args.table.now) None c.args.term.now c.args.kind) (reverse c.loop.reading.tasks.items)
    (sym (task_last c.loop.reading.tasks.items c.pop.new.self.items c.in-Some.task c.in-Some.ensures.items)) c.loop.invariant
