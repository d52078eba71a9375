use Rattle.prolog_read.specs.Clauses.{iso}
use Rattle.prolog_read.specs.Outcome.{clauses_read}
use Rattle.lib_text.proofs.Reading.{all_numbered}
use Rattle.lib_text.proofs.Terms.{all_read}
use Rattle.lib_text.proofs.library.terms_of.Goals as goal

pub returns-in-Ok-clause-numbered : goal.returns-in-Ok-clause-numbered
returns-in-Ok-clause-numbered c = all_numbered c.in-Ok.terms.items c.in-Ok.ensures.numbered

pub returns-in-Ok-clause-clauses : goal.returns-in-Ok-clause-clauses
returns-in-Ok-clause-clauses c = all_read c.in-Ok.terms.items (clauses_read iso c.args.text.now) c.in-Ok.ensures.exact

pub returns-in-Ok-clause-read : goal.returns-in-Ok-clause-read
returns-in-Ok-clause-read c = c.in-Ok.ensures.exact
