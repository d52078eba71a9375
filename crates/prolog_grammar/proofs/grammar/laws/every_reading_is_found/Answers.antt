use Rattle.prolog_grammar.proofs.Complete.{found}
use Rattle.prolog_grammar.proofs.grammar.laws.every_reading_is_found.Goals as goal

pub returns : goal.returns
returns c = found
