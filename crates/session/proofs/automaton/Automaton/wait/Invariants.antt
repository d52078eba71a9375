use Rattle.std.proofs.Common.{◌≡◌, ◌++◌, map}
use Rattle.session.proofs.automaton.Automaton.wait.Given as goal

-- the events that were put there, and those that are left
abbrev pub invariant-loop-event : goal.invariant-loop-event
invariant-loop-event l = record {
  step : (goal.iterator-loop-event).can_next l.event-iterator;
  ends : (goal.iterator-loop-event).is_finite l.event-iterator;
  others : l.self ≡ record l.fn.self { queue = l.self.queue };
  capacity : l.self.queue.capacity ≡ l.fn.self.queue.capacity;
  queue : l.self.queue.items ≡ l.fn.self.queue.items ++ map (λ x. x.1) l.yielded;
}
