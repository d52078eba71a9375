use Rattle.prolog_grammar.proofs.Sound.{reads}
use Rattle.prolog_grammar.proofs.grammar.laws.what_is_found_is_a_reading.Goals as goal

pub returns : goal.returns
returns c = reads
