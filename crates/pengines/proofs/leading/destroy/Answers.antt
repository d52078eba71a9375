use Rattle.std.proofs.Common.{rules, ◌≡◌, ◌∷◌, ◌++◌, Some, None}
use Rattle.session.specs.Answers.{last_of}
use Rattle.pengines.proofs.Told.{destroyed_on}
use Rattle.pengines.proofs.leading.destroy.Goals as goal

pub returns-clause-tells : goal.returns-clause-tells
returns-clause-tells c =
    let v = c.in_ok-take.field-0 in
    let here : c.args.session.now ≡ Some v = search rules in
    let gone : c.take.new.self ≡ None = search rules in
    let told : c.in_ok-event.event ∷ c.next.new.self.events ≡ v.queue ++ last_of v.look = search rules in
    destroyed_on c.args.session.now c.take.new.self v c.in_ok-event.event c.next.new.self.events here gone c.requires.led c.requires.told c.requires.live told
