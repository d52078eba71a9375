use Rattle.sandbox_walk.proofs.Walking.{met_none, met_more}
use Rattle.sandbox_walk.proofs.reach.meet.Goals as goal

pub loop-item-init : goal.loop-item-init
loop-item-init c = met_none c.args.walk.now

pub loop-item-preserved : goal.loop-item-preserved
loop-item-preserved c =
    met_more c.args.found.now c.loop-item.item-index c.item-item.result _ _ _ c.loop-item-test.true c.item-item.is c.loop-item.invariant c.in_ok-see.ensures
