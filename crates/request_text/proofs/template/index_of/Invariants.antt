use Rattle.std.proofs.Common.{◌≡◌, ◌-◌, ℕ, List, length, drop}
use Rattle.std.specs.BTreeMap.{get_by_text}
use Rattle.prolog_read.specs.Variables.{lookup}
use Rattle.request_text.proofs.template.index_of.Given as goal

abbrev pub invariant-loop-i : goal.invariant-loop-i
invariant-loop-i l = (w : List ℕ) → get_by_text l.index w ≡ lookup w (drop (length l.names - l.i) l.names)
