use Rattle.std.proofs.Common.{◌≡◌, ◌-◌, ◌<◌, length}
use Rattle.http_wire.specs.Reads.{Reads}
use Rattle.http_wire.specs.declared.ending.Place.TheVariants.{Before}
use Rattle.http_wire.specs.Endings.{places, IsOpen}
use Rattle.http_wire.proofs.buffer.Buffer.fill_head.Given as goal

abbrev pub invariant-pieces : goal.invariant-pieces
invariant-pieces g l = record {
  reads : Reads g.S.Source.left g.S.Source.faults g.S.Source.reads l.fn.src l.src l.fn.self l.self;
  behind : l.place ≡ places Before l.self;
  unended : IsOpen l.fn.self l.self;
  few : length l.self < l.most;
}

abbrev pub decreases-pieces : goal.decreases-pieces
decreases-pieces g l = l.most - length l.self
