use Rattle.rows.proofs.calls.taken.Goals as goal

pub returns-in-Turn-clause-taken : goal.returns-in-Turn-clause-taken
returns-in-Turn-clause-taken c = (c.take.ensures.taken c.in-Turn.turn c.in-Turn.is).1.taken
