use Rattle.std.proofs.Common.{ℕ, List, sym, subst}
use Rattle.httparse.specs.Spans.{header_bytes}
use Rattle.http_wire.specs.Single.{IsSingle}
use Rattle.http_wire.proofs.Names.{values_more}
use Rattle.http_wire.proofs.framing.only_value.Goals as goal

pub fields-preserved : goal.fields-preserved
fields-preserved c =
    subst (λ (vs : List (List ℕ)). IsSingle c.args.bytes.now vs c.after-found.result)
    (sym (values_more (header_bytes c.args.bytes.now) c.args.name.now c.args.fields.now c.fields.field-index _ c.fields-test.true))
    (c.after-found.ensures _ c.fields.invariant)
