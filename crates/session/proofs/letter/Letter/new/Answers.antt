use Rattle.std.proofs.Common.{sym, subst}
use Rattle.event_core.specs.Standing.{spec_of}
use Rattle.session.specs.Kept.{Refuses}
use Rattle.session.proofs.letter.Letter.new.Goals as goal

pub returns-clause-letter : goal.returns-clause-letter
returns-clause-letter c = λ s. record {
  program = c.in_ok-program.ensures.cases;
  refusal = subst (λ r. Refuses (spec_of c.args.program.now.value s) r c.in_ok-refusal.refusal) (sym c.in_ok-node.ensures) (c.in_ok-refusal.ensures s);
}
