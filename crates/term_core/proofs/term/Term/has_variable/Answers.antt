use Rattle.term_core.proofs.Renaming.{contains_variable_of_nodes}
use Rattle.term_core.proofs.term.Term.has_variable.Goals as goal

pub returns : goal.returns
returns c = rw (← contains_variable_of_nodes c.args.variable c.args.self.now c.nodes.result.now c.nodes.ensures.nodes) c.occurs.ensures
