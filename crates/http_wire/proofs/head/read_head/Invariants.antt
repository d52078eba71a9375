use Rattle.std.proofs.Common.{◌-◌, length}
use Rattle.http_wire.specs.Reads.{Reads}
use Rattle.http_wire.proofs.head.read_head.Given as goal

abbrev pub invariant-looks : goal.invariant-looks
invariant-looks g l = Reads g.S.Source.left g.S.Source.faults g.S.Source.reads l.fn.src l.src l.fn.buffer l.buffer

abbrev pub decreases-looks : goal.decreases-looks
decreases-looks g l = 16384 - length l.buffer
