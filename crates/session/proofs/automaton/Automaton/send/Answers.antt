use Rattle.std.proofs.Common.{◌+◌}
use Rattle.session.specs.Kept.{view_of}
use Rattle.session.proofs.Seen.{sent_does, sent_sound}
use Rattle.session.proofs.automaton.Automaton.send.Goals as goal

pub settle-requires : goal.settle-requires
settle-requires c = rw c.put.ensures (sent_sound c.args.self.now c.args.letter c.requires.sound c.requires.room c.requires.counted c.requires.letter)

pub returns-clause-does : goal.returns-clause-does
returns-clause-does c = sent_does c.args.self.now c.args.letter (c.args.self.now.accepted + 1) (view_of c.settle.new.self) (rw c.put.ensures at c.settle.ensures.does)
