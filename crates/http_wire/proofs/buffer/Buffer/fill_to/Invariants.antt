use Rattle.std.proofs.Common.{◌-◌, length}
use Rattle.http_wire.specs.Reads.{Reads}
use Rattle.http_wire.proofs.buffer.Buffer.fill_to.Given as goal

abbrev pub invariant-pieces : goal.invariant-pieces
invariant-pieces g l = Reads g.S.Source.left g.S.Source.faults g.S.Source.reads l.fn.src l.src l.fn.self l.self

abbrev pub decreases-pieces : goal.decreases-pieces
decreases-pieces g l = l.count - length l.self
