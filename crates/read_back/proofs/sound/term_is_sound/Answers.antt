use Rattle.std.proofs.Common.{arith}
use Rattle.read_back.proofs.Terms.{sound_from}
use Rattle.read_back.proofs.sound.term_is_sound.Goals as goal

pub returns : goal.returns
returns c = sound_from _ _ c.nodes-node-items.ensures.nodes c.nodes-node-items.ensures.is_term (λ k d l. c.loop-node.invariant k d (omega (arith, l)))
