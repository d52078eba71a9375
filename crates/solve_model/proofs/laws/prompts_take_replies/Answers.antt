use Rattle.solve_model.proofs.Prompts
use Rattle.solve_model.proofs.laws.prompts_take_replies.Goals as goal

pub returns : goal.returns
returns c = Prompts.prompts_take_replies
