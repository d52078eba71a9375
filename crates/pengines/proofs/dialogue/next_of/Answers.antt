use Rattle.std.proofs.Common.{rules, ◌≡◌, false, [], sym, ap, ◌∙◌}
use Rattle.pengines.proofs.Dialogues.{pulled_heard, none_waits, led_to_rest}
use Rattle.pengines.proofs.dialogue.next_of.Goals as goal

pub returns-in-Event-clause-event : goal.returns-in-Event-clause-event
returns-in-Event-clause-event c = pulled_heard _ _ _ _ _ c.loop-event.invariant (sym c.pull.ensures.answer ∙ c.in-Event.is) c.pull.ensures.pulled

pub returns-then-not-branch : goal.returns-then-not-branch
returns-then-not-branch c =
    let empty : c.loop-event.session.queue ≡ [] = none_waits c.loop-event.session (λ n e h. c.in_default.not-Event n e (c.pull.ensures.answer ∙ h)) in
    let same = c.pull.ensures.none empty in
    let done : c.in_ok-turned.field-0 ≡ false = search rules in
    let l = led_to_rest _ _ _ _ c.loop-event.invariant same (c.in_ok-turned.ensures.still done) (c.in_ok-turned.ensures.rests done (ap (λ v. v.queue) same ∙ empty)) in
    record { event = tt; leads = λ _. l.0; rests = λ _. l.1 }
