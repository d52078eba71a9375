use Rattle.solve_model.proofs.Resume.{items_pushed}
use Rattle.solve_model.proofs.items.put_first.Goals as goal

pub returns : goal.returns
returns c = items_pushed _ _ _ c.in_ok-push.ensures.items
