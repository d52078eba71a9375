use Rattle.std.proofs.Common.{◌≡◌, ◌++◌, take}
use Rattle.event_core.specs.Texts.{argument}
use Rattle.event_core.specs.Lines.{further_text}
use Rattle.event_core.proofs.print.push_further.Given as goal

abbrev pub invariant-loop-term : goal.invariant-loop-term
invariant-loop-term l = l.out.items ≡ l.initial.out.items ++ further_text argument (take l.term-index l.terms)
