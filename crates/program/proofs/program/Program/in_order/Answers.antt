use Rattle.program.proofs.ProgramLemmas.{joined}
use Rattle.program.proofs.program.Program.in_order.Goals as goal

pub returns : goal.returns
returns c =
    rw (c.in_ok-append.ensures.items, ← c.self.view_is)
    (joined c.self.inside.library c.self.inside.own c.in_ok-clauses.clauses.items c.in_ok-own.own.items c.in_ok-clauses.ensures (rw (← c.new-nothing.ensures) c.in_ok-own.ensures))
