use Rattle.std.proofs.Common.{◌≡◌, take}
use Rattle.std.specs.List.{flat_map}
use Rattle.prolog_write.specs.Text.{escaped}
use Rattle.prolog_write.specs.State.{appended}
use Rattle.prolog_write.proofs.output.Output.append_escaped.Given as goal

abbrev pub invariant-loop-byte : goal.invariant-loop-byte
invariant-loop-byte l = l.self ≡ appended l.initial.self (flat_map escaped (take l.byte-index l.byte-items))
