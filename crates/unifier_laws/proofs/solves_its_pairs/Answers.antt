use Rattle.unifier_laws.proofs.Orders as orders
use Rattle.unifier_laws.proofs.solves_its_pairs.Goals as goal

pub returns : goal.returns
returns c = orders.solves_its_pairs
