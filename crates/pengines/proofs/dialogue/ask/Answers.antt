use Rattle.session.proofs.Resting.{asks}
use Rattle.pengines.proofs.dialogue.ask.Goals as goal

pub returns-in-Ok : goal.returns-in-Ok
returns-in-Ok c = asks _ _ _ c.requires.led c.requires.rests c.requires.live c.in-Ok.ensures.sent
