use Rattle.std.proofs.Common.{ap, sym, ◌∙◌, ◌≡◌, false}
use Rattle.session.proofs.Recording.{gone_taken}
use Rattle.pengines.proofs.Dialogues.{turn_ran}
use Rattle.pengines.proofs.dialogue.turned.Goals as goal

pub give-requires-clause-taken : goal.give-requires-clause-taken
give-requires-clause-taken c = gone_taken c.go.ensures.after_is (c.take.ensures.taken c.in-Turn.turn c.in-Turn.is).1.taken

pub returns-clause-ran : goal.returns-clause-ran
returns-clause-ran c =
    let k = c.take.ensures.taken c.in-Turn.turn c.in-Turn.is in
    let g = c.go.ensures.gone in
    let gone = c.go.ensures.after_is in
    let starved : g.starved ≡ false = sym (ap (λ x. x.2) (c.counts-starved.ensures.counted g (ap (λ t. t.gone) gone))) ∙ c.if-starved.false in
    λ _. turn_ran c.args.session.now c.take.new.self c.give.new.self c.in-Turn.turn c.go.new.self g c.give.result c.requires.led
    (sym c.take.ensures.answer ∙ c.in-Turn.is) k.0 k.1 gone c.counts-starved.ensures.made starved c.give.ensures.answer (c.give.ensures.back g (ap (λ t. t.gone) gone))
