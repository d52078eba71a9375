use Rattle.std.proofs.Common.{ℕ, ◌+◌, ◌-◌, ◌^◌}
use Rattle.session.specs.Resting.{Leads, comes}
use Rattle.pengines.proofs.dialogue.next_of.Given as goal

abbrev pub invariant-loop-event : goal.invariant-loop-event
invariant-loop-event l = Leads l.initial.session l.session (comes l.initial.session)

abbrev pub decreases-loop-event : goal.decreases-loop-event
decreases-loop-event l = 2 ^ 65 - (l.session.steps + l.session.events)
