use Rattle.std.proofs.Common.{◌≡◌, ◌<◌, ◌++◌, length, rules}
use Rattle.std.specs.List.{flat_map}
use Rattle.prolog_write.specs.declared.mode.WriteStop.TheVariants.{TooLong}
use Rattle.prolog_write.specs.Text.{escaped}
use Rattle.prolog_write.proofs.Lengths.{long_already}
use Rattle.prolog_write.proofs.output.Output.append_escaped.Goals as goal

pub returns-in_err-append_escape-clause-long : goal.returns-in_err-append_escape-clause-long
returns-in_err-append_escape-clause-long c =
    let long : c.in_err-append_escape.field-0.0 ≡ TooLong → c.args.self.now.limit < length (c.args.self.now.written ++ flat_map escaped c.args.name.now) =
    λ t. long_already escaped c.args.self.now c.loop-byte.self c.as_bytes-byte-items.result.now c.args.name.now c.loop-byte.byte-index 0 c.as_bytes-byte-items.ensures.value c.loop-byte-test.true c.loop-byte.invariant (c.in_err-append_escape.ensures.long t) in
    search (rules, long)
