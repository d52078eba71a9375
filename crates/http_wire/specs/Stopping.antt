-- Why reading stops, as an answer.
use Rattle.http_wire.specs.declared.message.Got.{Got}
use Rattle.http_wire.specs.declared.message.Got.TheVariants as got
use Rattle.http_wire.specs.declared.message.Stop.{Stop}
use Rattle.http_wire.specs.declared.message.Stop.TheVariants.{End, Refused, ReadFault, Memory}

abbrev pub got_of : Stop → Got
got_of End = got.End
got_of (Refused why) = got.Refused why
got_of ReadFault = got.ReadFault
got_of Memory = got.Memory
