use Rattle.unifier_laws.proofs.Orders as orders
use Rattle.unifier_laws.proofs.is_most_general.Goals as goal

pub returns : goal.returns
returns c = orders.is_most_general
