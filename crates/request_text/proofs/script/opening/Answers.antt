use Rattle.std.proofs.Common.{sym, ◌∙◌, Some, None}
use Rattle.request_text.proofs.RequestLines.{session_passed, session_opens, session_empty}
use Rattle.request_text.proofs.script.opening.Goals as goal
use Rattle.request_text.proofs.script.opening.Goals.{in-Some, in-None}

pub loop-index-preserved : goal.loop-index-preserved
loop-index-preserved c = session_passed (λ l. l.now) c.args.lines.now c.args.app _ c.loop-index.index _ c.loop-index.invariant c.loop-index-test.true (sym c.is_passed.ensures ∙ c.if-is_passed.true)

pub returns-in-loop-index-clause-session : goal.returns-in-loop-index-clause-session
returns-in-loop-index-clause-session c =
    let passed = sym c.is_passed.ensures ∙ c.if-is_passed.false in
    elim c.match-branch-2.branch [
      | in-Some w ↦ rw w.result-is (session_opens (λ l. l.now) c.args.lines.now c.args.app _ c.loop-index.index _ (Some w.in-Some.settings) c.loop-index.invariant c.loop-index-test.true passed (sym w.in-Some.is ∙ c.in_ok-settings.ensures))
      | in-None w ↦ rw (w.result-is, w.default_settings.ensures.settings) (session_opens (λ l. l.now) c.args.lines.now c.args.app _ c.loop-index.index _ None c.loop-index.invariant c.loop-index-test.true passed (sym w.in-None.is ∙ c.in_ok-settings.ensures))
    ]

pub returns-clause-session : goal.returns-clause-session
returns-clause-session c = rw c.default_settings-2.ensures.settings (session_empty (λ l. l.now) c.args.lines.now c.args.app _ c.loop-index.index c.loop-index.invariant c.loop-index-test.false)
