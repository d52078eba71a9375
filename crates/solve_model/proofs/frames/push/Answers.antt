use Rattle.solve_model.proofs.Resume.{resumed_push}
use Rattle.solve_model.proofs.frames.push.Goals as goal

pub returns : goal.returns
returns c = λ w r. resumed_push w _ _ _ r c.in_ok-push.ensures.items
