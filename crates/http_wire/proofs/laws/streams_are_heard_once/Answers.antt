use Rattle.http_wire.proofs.Hearing.{streams_are_heard_once}
use Rattle.http_wire.proofs.laws.streams_are_heard_once.Goals as goal

pub returns : goal.returns
returns c = streams_are_heard_once
