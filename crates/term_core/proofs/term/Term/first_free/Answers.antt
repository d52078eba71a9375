use Rattle.term_core.proofs.Renaming.{above_all_of_nodes}
use Rattle.term_core.proofs.term.Term.first_free.Goals as goal

pub returns : goal.returns
returns c = rw (← above_all_of_nodes c.args.self.now c.nodes.result.now c.nodes.ensures.nodes) c.first_free_of.ensures
