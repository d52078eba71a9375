use Rattle.std.proofs.Common.{sym, drop}
use Rattle.session.specs.Kept.{view_of}
use Rattle.session.proofs.Seen.{popped, consumed_does}
use Rattle.session.proofs.automaton.Automaton.consume_first.Goals as goal

pub returns-in-Some-clause-does : goal.returns-in-Some-clause-does
returns-in-Some-clause-does c =
    consumed_does c.args.self.now c.in-Some.letter (drop 1 c.args.self.now.mailbox.items) (view_of c.consume.new.self)
    (popped c.args.self.now.mailbox.items c.in-Some.letter (sym c.in-Some.ensures.value)) (rw c.in-Some.ensures.items at c.consume.ensures.does)
