use Rattle.lib_text.proofs.Reading.{all_numbered}
use Rattle.lib_text.proofs.tests.terms.Goals as goal

pub returns-in-Ok : goal.returns-in-Ok
returns-in-Ok c = all_numbered c.in-Ok.terms.items c.in-Ok.ensures.numbered
