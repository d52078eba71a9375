use Rattle.std.proofs.Common.{rules, ◌≡◌, Some}
use Rattle.request_text.specs.declared.sent.Sent.TheVariants as sent
use Rattle.pengines.proofs.Told.{asked_on, broken_on}
use Rattle.pengines.proofs.leading.send.Goals as goal

pub returns-in_ok-ask-in-Request-Some-clause-tells : goal.returns-in_ok-ask-in-Request-Some-clause-tells
returns-in_ok-ask-in-Request-Some-clause-tells c =
    let v = c.in-Request-Some.session in
    let here : c.args.session.now ≡ Some v = search rules in
    let what : c.args.sent ≡ sent.Request c.in-Request-Some.request = search rules in
    asked_on c.args.session.now c.args.sent c.in-Request-Some.request v c.ask.new.session here what c.requires.led c.requires.told c.requires.live c.in_ok-ask-in-Request-Some.ensures

pub returns-in-Abort-Some-clause-tells : goal.returns-in-Abort-Some-clause-tells
returns-in-Abort-Some-clause-tells c =
    let v = c.in-Abort-Some.session in
    let here : c.args.session.now ≡ Some v = search rules in
    let what : c.args.sent ≡ sent.Abort = search rules in
    broken_on c.args.session.now c.args.sent v c.break_off.new.session here what c.requires.led c.requires.told c.requires.live c.break_off.ensures
