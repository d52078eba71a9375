use Rattle.std.proofs.Common.{arith}
use Rattle.std.proofs.lemmas.List.{nil_from_length}
use Rattle.sandbox_walk.proofs.Walking.{walking_ends}
use Rattle.sandbox_walk.proofs.reach.reached.Goals as goal

pub returns-in_default : goal.returns-in_default
returns-in_default c =
    walking_ends c.args.table.now c.args.program.now.clauses c.args.goal.now c.loop.walk
    (nil_from_length c.loop.walk.waiting.items (omega (arith, c.loop.walk.waiting.ok.0, c.in_default.ensures.cases.0))) c.loop.invariant
