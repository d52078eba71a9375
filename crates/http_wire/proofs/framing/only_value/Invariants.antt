use Rattle.std.proofs.Common.{map, take}
use Rattle.httparse.specs.Spans.{header_bytes}
use Rattle.http_wire.specs.Framing.{values}
use Rattle.http_wire.specs.Single.{IsSingle}
use Rattle.http_wire.proofs.framing.only_value.Given as goal

abbrev pub invariant-fields : goal.invariant-fields
invariant-fields l = IsSingle l.bytes (values l.name (map (header_bytes l.bytes) (take l.field-index l.fields))) l.found
