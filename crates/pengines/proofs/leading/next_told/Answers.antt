use Rattle.std.proofs.Common.{rules, ◌≡◌, true, [], ◌∷◌, None, ap, subst, ◌∙◌}
use Rattle.pengines.specs.Printed.{left, HasTold, is_over, Tells, events_told}
use Rattle.pengines.proofs.Told.{late_told, nothing_left}
use Rattle.pengines.proofs.leading.next_told.Goals as goal

pub returns-in_default-pop_front-clause-last : goal.returns-in_default-pop_front-clause-last
returns-in_default-pop_front-clause-last c =
    let s = c.next_event.new.session in
    let none : c.in_ok-event.field-0 ≡ None = search rules in
    let empty : c.pop_front.new.self.items ≡ [] = search rules in
    λ _. ap (λ ss. left s true ss) empty ∙ nothing_left s c.in_ok-event.ensures.led (c.in_ok-event.ensures.told none)

pub returns-then-has_ended-clause-told : goal.returns-then-has_ended-clause-told
returns-then-has_ended-clause-told c =
    let s = c.next_event.new.session in
    let none : c.in_ok-event.field-0 ≡ None = search rules in
    let split : c.loop-event.lines.items ≡ c.in-Some-pop_front.sent ∷ c.pop_front.new.self.items = search rules in
    let over : is_over s ≡ true = search rules in
    let tells : Tells c.loop-event.session [] [] s = subst (λ o. Tells c.loop-event.session [] (events_told o) s) none c.in_ok-event.ensures.tells in
    c.loop-event.invariant.same
    ∙ tells c.loop-event.lines.items
    ∙ ap (λ ss. left s true ss) split
    ∙ late_told s c.in-Some-pop_front.sent c.pop_front.new.self.items (c.in_ok-event.ensures.told none) over
