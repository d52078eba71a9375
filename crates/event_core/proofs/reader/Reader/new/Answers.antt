use Rattle.std.proofs.Common.{ap}
use Rattle.event_core.specs.declared.reader.Stand.TheVariants.{Reading}
use Rattle.event_core.proofs.Readers.{starts_reading}
use Rattle.event_core.proofs.reader.Reader.new.Goals as goal

pub returns-clause-given : goal.returns-clause-given
returns-clause-given c = starts_reading c.args.names c.args.chunk _ (ap (λ ts. record { chunk = c.args.chunk; names = c.args.names; stand = Reading ts }) c.new.ensures)
