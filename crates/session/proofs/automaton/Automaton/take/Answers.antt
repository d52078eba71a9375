use Rattle.std.proofs.Common.{ap, sym}
use Rattle.session.specs.Kept.{query_of, look_of}
use Rattle.session.proofs.automaton.Automaton.take.Goals as goal

pub hand_out-requires-clause-starts : goal.hand_out-requires-clause-starts
hand_out-requires-clause-starts c = c.requires.starts (query_of c.in-Running.query) (ap look_of (sym c.in-Running.ensures.value))
