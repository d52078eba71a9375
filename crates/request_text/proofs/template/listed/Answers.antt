use Rattle.std.proofs.Common.{ap, ◌∙◌, ◌++◌, ℕ, List}
use Rattle.prolog_read.specs.Variables.{Names}
use Rattle.request_text.proofs.Naming.{seen, listed_more, listed_all}
use Rattle.request_text.proofs.template.listed.Goals as goal

pub loop-name-init : goal.loop-name-init
loop-name-init c =
    ap (λ (ns : Names). ns ++ seen c.into_iter-name-iterator.result) c.new-names.ensures ∙ ap seen c.into_iter-name-iterator.ensures.into_iter_gives.0

pub loop-name-preserved : goal.loop-name-preserved
loop-name-preserved c =
    listed_more c.loop-name.names c.loop-name.name-iterator c.next.new.self _ _ _ c.loop-name.invariant (c.in-Some.name.now, c.in-Some.number.now) c.in-Some.ensures.steps
    (ap (λ (n : List ℕ). (n, c.in-Some.number.now)) c.in_ok-new.ensures) c.in_ok-push.ensures.ok

pub returns : goal.returns
returns c = listed_all c.loop-name.names c.loop-name.name-iterator _ c.loop-name.invariant c.in-None.ensures.steps.0
