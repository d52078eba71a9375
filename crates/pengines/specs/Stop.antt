-- Why a session ended, from why its input ended.
use Rattle.pengines.specs.declared.input.InputStop.{InputStop}
use Rattle.pengines.specs.declared.input.InputStop.TheVariants as input
use Rattle.pengines.specs.declared.scripts.SessionStop.{SessionStop}
use Rattle.pengines.specs.declared.scripts.SessionStop.TheVariants.{TooLong, ReadFault, Memory}

abbrev pub stop_of_input : InputStop → SessionStop
stop_of_input input.TooLong = TooLong
stop_of_input input.ReadFault = ReadFault
stop_of_input input.Memory = Memory
