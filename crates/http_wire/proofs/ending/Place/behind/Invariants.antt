use Rattle.std.proofs.Common.{◌≡◌, take}
use Rattle.http_wire.specs.Endings.{places}
use Rattle.http_wire.proofs.ending.Place.behind.Given as goal

abbrev pub invariant-bytes : goal.invariant-bytes
invariant-bytes l = l.place ≡ places l.fn.self (take l.byte-index l.bytes)
