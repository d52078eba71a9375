use Rattle.unifier_laws.proofs.Orders as orders
use Rattle.unifier_laws.proofs.follows_what_is_given.Goals as goal

pub returns : goal.returns
returns c = orders.follows_what_is_given
