use Rattle.std.proofs.Common.{◌∙◌, ap, ◌∷◌}
use Rattle.event_core.specs.Readers.{ahead, tells}
use Rattle.event_core.proofs.Readers.{tells_more}
use Rattle.event_core.proofs.reached.resume_on.Goals as goal

pub loop-request-preserved : goal.loop-request-preserved
loop-request-preserved c = record {
  brings = λ qs.
      c.loop-request.invariant.brings qs
      ∙ ap (λ l. tells c.loop-request.events (ahead c.loop-request.reader qs l)) c.in-Some.ensures.cases.0
      ∙ tells_more c.loop-request.events c.add.new.events (ahead c.loop-request.reader qs (c.in-Some.request.now ∷ c.in-Some.others.now)) (ahead c.resume.new.self qs c.in-Some.others.now) c.in_ok-resume.field-0
      (c.in_ok-resume.ensures.brings qs c.in-Some.others.now) c.in_ok-add.ensures;
  names = c.in_ok-resume.ensures.names ∙ c.loop-request.invariant.names;
}
