use Rattle.std.proofs.Common.{sym, arith}
use Rattle.std.proofs.lemmas.List.{take_all, length-take-le}
use Rattle.http_wire.proofs.head.front.Goals as goal

pub slice_bounds-result-end : goal.slice_bounds-result-end
slice_bounds-result-end c = sym (length-take-le 16384 c.args.bytes.now (omega arith))

pub returns-else-bytes-gt-HEAD_LIMIT : goal.returns-else-bytes-gt-HEAD_LIMIT
returns-else-bytes-gt-HEAD_LIMIT c = sym (take_all 16384 c.args.bytes.now (omega arith))
