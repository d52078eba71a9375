use Rattle.std.proofs.Common.{refl}
use Rattle.session.proofs.automaton.Automaton.hand_out.Goals as goal

pub returns-clause-turn : goal.returns-clause-turn
returns-clause-turn c = rw (c.len-room.ensures.len, c.requires.program) refl
