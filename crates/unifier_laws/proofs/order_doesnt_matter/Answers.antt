use Rattle.unifier_laws.proofs.Orders as orders
use Rattle.unifier_laws.proofs.order_doesnt_matter.Goals as goal

pub returns : goal.returns
returns c = orders.order_doesnt_matter
