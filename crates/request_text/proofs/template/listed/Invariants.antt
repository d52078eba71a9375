use Rattle.std.proofs.Common.{◌≡◌, ◌++◌}
use Rattle.request_text.specs.Kept.{in_order}
use Rattle.request_text.proofs.Naming.{seen}
use Rattle.request_text.proofs.template.listed.Given as goal

abbrev pub invariant-loop-name : goal.invariant-loop-name
invariant-loop-name l = l.names ++ seen l.name-iterator ≡ in_order l.told
