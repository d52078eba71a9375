use Rattle.session.proofs.Resting.{breaks_off}
use Rattle.pengines.proofs.dialogue.break_off.Goals as goal

pub returns : goal.returns
returns c = breaks_off _ _ c.requires.led c.requires.rests c.abort.ensures
