use Rattle.request_text.specs.Shapes.{elements}
use Rattle.request_text.proofs.OptionLists.{ask_none}
use Rattle.request_text.proofs.options.ask_with.Goals as goal

pub returns-in_default : goal.returns-in_default
returns-in_default c = ask_none c.args.bytes c.args.goal.now (elements c.args.options.now) (rw c.in_default.is at c.in_ok-options.ensures)
