use Rattle.std.proofs.Common.{sym, ◌∙◌, ap, ◌+◌, drop, map}
use Rattle.std.proofs.lemmas.Result.{err_from_is_err_and}
use Rattle.request_text.specs.Spelled.{requests_in}
use Rattle.request_text.proofs.RequestLines.{put_before, requests_end, requests_passed, requests_more, requests_refused}
use Rattle.request_text.proofs.script.requests_from.Goals as goal
use Rattle.request_text.proofs.script.requests_from.Goals.{then-not-is_passed+in_ok-request+in_ok-push, else-not-is_passed}

pub returns-in_err-request-clause-refused : goal.returns-in_err-request-clause-refused
returns-in_err-request-clause-refused c =
    let p = err_from_is_err_and c.from_residual.result c.from_residual.ensures.1 in
    rw (p.1, p.2) (λ n. requests_refused (λ l. l.now) c.args.lines.now _ c.loop-index.requests c.loop-index.index _ c.in_err-request.field-0.0 c.loop-index.invariant c.loop-index-test.true (sym c.is_passed.ensures ∙ c.if-not-is_passed.true) (c.in_err-request.ensures.refused n))

pub loop-index-preserved : goal.loop-index-preserved
loop-index-preserved c =
    let lines = c.args.lines.now in
    let i = c.loop-index.index in
    elim c.if-not-is_passed.branch [
      | then-not-is_passed+in_ok-request+in_ok-push w ↦
          requests_more (λ l. l.now) lines _ c.loop-index.requests i _ w.in_ok-request.request c.loop-index.invariant c.loop-index-test.true (sym c.is_passed.ensures ∙ w.if-not-is_passed.true) w.in_ok-request.ensures.request
          ∙ ap (λ ss. put_before ss (requests_in ((i + 1) + 1) (drop (i + 1) (map (λ l. l.now) lines)))) (sym (w.requests-is ∙ w.in_ok-push.ensures.ok))
      | else-not-is_passed w ↦
          requests_passed (λ l. l.now) lines _ c.loop-index.requests i _ c.loop-index.invariant c.loop-index-test.true (sym c.is_passed.ensures ∙ w.if-not-is_passed.false)
          ∙ ap (λ ss. put_before ss (requests_in ((i + 1) + 1) (drop (i + 1) (map (λ l. l.now) lines)))) (sym w.requests-is)
    ]

pub returns-clause-requests : goal.returns-clause-requests
returns-clause-requests c = requests_end (λ l. l.now) c.args.lines.now _ c.loop-index.requests c.loop-index.index c.loop-index.invariant c.loop-index-test.false
