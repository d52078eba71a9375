use Rattle.std.proofs.Common.{◌∙◌, ◌||◌, ◌==◌, Bool, sym, ap, codes}
use Rattle.httparse.specs.Spans.{header_bytes}
use Rattle.http_wire.specs.Framing.{lists_close}
use Rattle.http_wire.proofs.Names.{none_more, some_found, or_true}
use Rattle.http_wire.proofs.framing.closes.Goals as goal

pub returns-then-says_close : goal.returns-then-says_close
returns-then-says_close c =
    let found = some_found (header_bytes c.args.bytes.now) (codes "connection") lists_close c.args.fields.now c.fields.field-index _ c.fields-test.true (sym c.says_close.ensures ∙ c.if-says_close.true) in
    sym (ap (λ (t : Bool). c.args.minor == 0 || t) found ∙ or_true (c.args.minor == 0))

pub fields-preserved : goal.fields-preserved
fields-preserved c =
    none_more (header_bytes c.args.bytes.now) (codes "connection") lists_close c.args.fields.now c.fields.field-index _ c.fields-test.true c.fields.invariant (sym c.says_close.ensures ∙ c.if-says_close.false)
