use Rattle.std.proofs.Common.{◌≡◌, rules, false, List, Some}
use Rattle.request_text.specs.Kept.{script_read}
use Rattle.request_text.specs.Lines.{script_lines}
use Rattle.session.specs.Resting.{IsLed}
use Rattle.pengines.specs.Printed.{left}
use Rattle.pengines.proofs.Told.{begun_printed}
use Rattle.pengines.proofs.printing.Printing.new.Goals as goal

pub invariant_of-result : goal.invariant_of-result
invariant_of-result c =
    let script = script_read c.args.script in
    let all : c.from.result.items ≡ script.lines = search rules in
    (begun_printed script c.in_ok-session.session c.from.result.items c.in_ok-session.ensures.begun.program c.in_ok-session.ensures.begun.settings c.requires c.in_ok-session.ensures.recorded all).0

pub returns : goal.returns
returns c =
    let script = script_read c.args.script in
    let all : c.from.result.items ≡ script.lines = search rules in
    (begun_printed script c.in_ok-session.session c.from.result.items c.in_ok-session.ensures.begun.program c.in_ok-session.ensures.begun.settings c.requires c.in_ok-session.ensures.recorded all).1
