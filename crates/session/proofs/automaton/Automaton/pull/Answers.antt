use Rattle.std.proofs.Common.{sym, drop}
use Rattle.session.specs.Kept.{view_of}
use Rattle.session.proofs.Seen.{popped, pulled_does}
use Rattle.session.proofs.automaton.Automaton.pull.Goals as goal

pub returns-clause-does : goal.returns-clause-does
returns-clause-does c =
    pulled_does c.args.self.now c.in_ok-event.event (drop 1 c.args.self.now.queue.items) (view_of c.settle.new.self)
    (popped c.args.self.now.queue.items c.in_ok-event.event (sym c.in_ok-event.ensures.value)) (rw (c.in_ok-event.ensures.items, c.saturating_add-self.ensures) at c.settle.ensures.does)
