use Rattle.std.proofs.Common.{◌≡◌, ◌-◌, length, drop}
use Rattle.request_text.specs.Kept.{in_order}
use Rattle.request_text.specs.Templates.{told_before, names_behind}
use Rattle.request_text.proofs.template.told_before.Given as goal

abbrev pub invariant-loop-i : goal.invariant-loop-i
invariant-loop-i l = in_order l.told ≡ told_before (names_behind l.free (drop (length l.names - l.i) l.names)) (in_order l.fn.others)
