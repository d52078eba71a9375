-- A script and a spec, as the code keeps them, and how faults are passed on.
use Rattle.std.specs.Prelude.{ℕ, List, map}
use Rattle.std.specs.BTreeMap.{BTreeMap}
use denote.Bor.{Bor}
use Rattle.prolog_read.specs.Variables.{Names}
use Rattle.program.specs.declared.fault.ProgFault.{ProgFault}
use Rattle.program.specs.declared.fault.ProgFault.TheVariants as program
use Rattle.request_text.specs.declared.fault.SpecFault.{SpecFault}
use Rattle.request_text.specs.declared.fault.SpecFault.TheVariants as spec
use Rattle.request_text.specs.declared.fault.ScriptFault.{ScriptFault}
use Rattle.request_text.specs.declared.fault.ScriptFault.TheVariants as fault
use Rattle.request_text.specs.declared.script.Script as kept
use Rattle.event_core.specs.declared.spec.Spec as event
use Rattle.request_text.specs.Creation.{Creation}
use Rattle.request_text.specs.Spelled.{Script}

abbrev pub script_read : kept.Script → Script
script_read s = record { program = s.spec.program.value; settings = s.spec.settings; lines = s.lines }

abbrev pub creation_read : event.Spec → Creation
creation_read s = record { program = s.program.value; ask = s.ask; settings = s.settings; bytes = s.bytes }

-- want of memory stays what it is
abbrev pub clause_fault : ProgFault → SpecFault
clause_fault program.Memory = spec.Memory
clause_fault f = spec.Clause f

abbrev pub spec_fault : SpecFault → ScriptFault
spec_fault spec.Memory = fault.Memory
spec_fault f = fault.Spec f

-- the names of an index, each with its variable, in the order of the index
abbrev pub in_order : BTreeMap (Bor (List ℕ)) ℕ → Names
in_order m = map (λ e. (e.0.now, e.1)) m.entries
