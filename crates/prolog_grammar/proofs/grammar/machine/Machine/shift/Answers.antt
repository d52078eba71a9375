use Rattle.std.proofs.Common.{refl}
use Rattle.prolog_grammar.specs.declared.grammar.frame.Frame.TheVariants.{Infix}
use Rattle.prolog_grammar.proofs.Steps.{reverse_last}
use Rattle.prolog_grammar.proofs.grammar.machine.Machine.shift.Goals as goal

pub returns : goal.returns
returns c = rw (c.in_ok-push.ensures.items, reverse_last c.args.self.now.frames.items (Infix c.in_ok-name.name c.args.op), c.in_ok-name.ensures) refl
