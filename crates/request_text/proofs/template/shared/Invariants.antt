use Rattle.std.proofs.Common.{◌≡◌, ◌-◌, ℕ, length, drop}
use Rattle.std.specs.Ordering.{nat_cmp}
use Rattle.std.specs.BTreeMap.{get}
use Rattle.request_text.specs.Templates.{shared}
use Rattle.request_text.proofs.template.shared.Given as goal

abbrev pub invariant-loop-i : goal.invariant-loop-i
invariant-loop-i l = (n : ℕ) → get nat_cmp l.shared n ≡ shared l.goal (drop (length l.template - l.i) l.template) n
