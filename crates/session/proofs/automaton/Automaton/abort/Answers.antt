use Rattle.session.specs.Kept.{view_of}
use Rattle.session.proofs.Seen.{aborts}
use Rattle.session.proofs.automaton.Automaton.abort.Goals as goal

pub returns-clause-does : goal.returns-clause-does
returns-clause-does c = aborts (view_of c.args.self.now) (view_of c.break_off.new.self) (view_of c.settle.new.self) c.break_off.ensures.does c.settle.ensures.does
