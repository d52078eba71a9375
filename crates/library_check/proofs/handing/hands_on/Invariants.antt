use Rattle.std.proofs.Common.{◌≡◌}
use Rattle.std.specs.List.{list_all}
use Rattle.sandbox_walk.specs.Keeping.{hands_on}
use Rattle.library_check.specs.Bodies.{is_given}
use Rattle.library_check.proofs.handing.hands_on.Given as goal

abbrev pub invariant-loop : goal.invariant-loop
invariant-loop l = list_all (hands_on l.table (is_given l.given)) l.bodies.items ≡ hands_on l.table (is_given l.given) l.fn.body
