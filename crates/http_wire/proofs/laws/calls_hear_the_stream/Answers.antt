use Rattle.http_wire.proofs.Hearing.{calls_hear_the_stream}
use Rattle.http_wire.proofs.laws.calls_hear_the_stream.Goals as goal

pub returns : goal.returns
returns c = calls_hear_the_stream
