use Rattle.prolog_grammar.proofs.Viable.{least}
use Rattle.prolog_grammar.proofs.grammar.laws.faults_are_least.Goals as goal

pub returns : goal.returns
returns c = least
