use Rattle.unifier_laws.proofs.Orders as orders
use Rattle.unifier_laws.proofs.is_idempotent.Goals as goal

pub returns : goal.returns
returns c = orders.is_idempotent
