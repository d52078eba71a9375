use Rattle.std.proofs.Common.{◌≡◌, false, map, take, codes}
use Rattle.std.specs.List.{list_any}
use Rattle.httparse.specs.Spans.{header_bytes}
use Rattle.http_wire.specs.Framing.{values, lists_close}
use Rattle.http_wire.proofs.framing.closes.Given as goal

abbrev pub invariant-fields : goal.invariant-fields
invariant-fields l = list_any lists_close (values (codes "connection") (map (header_bytes l.bytes) (take l.field-index l.fields))) ≡ false
