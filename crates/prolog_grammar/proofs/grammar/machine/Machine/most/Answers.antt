use Rattle.std.proofs.Common.{◌-◌, ap, ◌∙◌, length, slice_get}
use Rattle.prolog_grammar.proofs.Steps.{most_some, most_none}
use Rattle.prolog_grammar.proofs.grammar.machine.Machine.most.Goals as goal

pub returns-in-Some : goal.returns-in-Some
returns-in-Some c = c.most_at.ensures ∙ most_some c.args.self.now.frames.items c.in-Some.frame.now (c.in-Some.ensures.value ∙ ap (λ l. slice_get l (length l - 1)) c.deref.ensures.value)

pub returns-in-None : goal.returns-in-None
returns-in-None c = most_none c.args.self.now.frames.items (c.in-None.ensures.value ∙ ap (λ l. slice_get l (length l - 1)) c.deref.ensures.value)
