use Rattle.std.proofs.Common.{refl}
use Rattle.http_wire.proofs.Reading.{reads_none, reads_on}
use Rattle.http_wire.proofs.buffer.Buffer.fill_to.Goals as goal

pub pieces-init : goal.pieces-init
pieces-init g c = reads_none g.S.Source.left g.S.Source.faults g.S.Source.reads _ _ _ refl

pub pieces-preserved : goal.pieces-preserved
pieces-preserved g c = reads_on g.S.Source.left g.S.Source.faults g.S.Source.reads _ _ _ _ _ _ c.pieces.invariant c.fill.ensures.reads

pub returns-in_err-fill-clause-reads : goal.returns-in_err-fill-clause-reads
returns-in_err-fill-clause-reads g c = reads_on g.S.Source.left g.S.Source.faults g.S.Source.reads _ _ _ _ _ _ c.pieces.invariant c.fill.ensures.reads
