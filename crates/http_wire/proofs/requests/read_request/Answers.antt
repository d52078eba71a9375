use Rattle.std.proofs.Common.{◌≡◌, ◌∙◌, ◌≤◌, ◌+◌, ◌-◌, ℕ, List, take, drop, refl, sym, ap, subst, arith, Err}
use Rattle.http_wire.specs.declared.message.Stop.TheVariants as stop
use Rattle.http_wire.specs.Limits.{front}
use Rattle.http_wire.specs.Heads.{FillStops}
use Rattle.http_wire.specs.Requests.{IsRequestHeadAt}
use Rattle.http_wire.proofs.Reading.{reads_on, rose_later}
use Rattle.http_wire.proofs.Wholes.{err_is, head_short, length_fits, request_stops, parts_stop, body_stops, body_truncated, first_of}
use Rattle.http_wire.proofs.requests.read_request.Goals as goal

pub returns-in_err-head-clause-err : goal.returns-in_err-head-clause-err
returns-in_err-head-clause-err g c = err_is _ _ _ c.from_residual.ensures (request_stops _ _ _ c.in_err-head.ensures.err)

pub returns-in_err-parts-clause-err : goal.returns-in_err-parts-clause-err
returns-in_err-parts-clause-err g c =
    let is : c.front.result.now ≡ front c.read_head.new.buffer = c.front.ensures ∙ ap front c.bytes.ensures in
    let within = subst (λ (l : List ℕ). IsRequestHeadAt l c.read_head.new.fields c.in_ok-head.head) (sym is) c.in_ok-head.ensures.ok in
    err_is _ _ _ c.from_residual-in_err-parts.ensures (parts_stop _ _ _ _ _ _ is c.read_head.auto.fields within c.in_err-parts.ensures.err)

pub overflow_add-end : goal.overflow_add-end
overflow_add-end g c =
    let is : c.front.result.now ≡ front c.read_head.new.buffer = c.front.ensures ∙ ap front c.bytes.ensures in
    let within = subst (λ (l : List ℕ). IsRequestHeadAt l c.read_head.new.fields c.in_ok-head.head) (sym is) c.in_ok-head.ensures.ok in
    let parts = c.in_ok-parts.ensures.ok in
    let short : c.in_ok-head.head.len ≤ 16384 = head_short _ _ _ _ is within in
    let fits : c.in_ok-parts.parts.length ≤ 1048576 = length_fits parts.0 _ parts.2.length_is in
    omega (arith, short, fits)

pub returns-in-End-clause-reads : goal.returns-in-End-clause-reads
returns-in-End-clause-reads g c = reads_on g.S.Source.left g.S.Source.faults g.S.Source.reads _ _ _ _ _ _ c.read_head.ensures.reads c.fill_to.ensures.reads

pub returns-in-End-clause-err : goal.returns-in-End-clause-err
returns-in-End-clause-err g c =
    let is : c.front.result.now ≡ front c.read_head.new.buffer = c.front.ensures ∙ ap front c.bytes.ensures in
    let within = subst (λ (l : List ℕ). IsRequestHeadAt l c.read_head.new.fields c.in_ok-head.head) (sym is) c.in_ok-head.ensures.ok in
    let parts = c.in_ok-parts.ensures.ok in
    let end = subst (λ e. FillStops e (g.S.Source.left c.fill_to.new.src)) c.in-End.is c.in-Err.ensures.stops in
    body_truncated _ _ _ _ _ _ parts.0 c.in_ok-parts.parts is c.read_head.auto.fields within parts.1 parts.2 c.fill_to.ensures.reads.grown _ end c.in-Err.ensures.few

pub returns-in_default-clause-reads : goal.returns-in_default-clause-reads
returns-in_default-clause-reads g c = reads_on g.S.Source.left g.S.Source.faults g.S.Source.reads _ _ _ _ _ _ c.read_head.ensures.reads c.fill_to.ensures.reads

pub returns-in_default-clause-err : goal.returns-in_default-clause-err
returns-in_default-clause-err g c =
    let is : c.front.result.now ≡ front c.read_head.new.buffer = c.front.ensures ∙ ap front c.bytes.ensures in
    let within = subst (λ (l : List ℕ). IsRequestHeadAt l c.read_head.new.fields c.in_ok-head.head) (sym is) c.in_ok-head.ensures.ok in
    let parts = c.in_ok-parts.ensures.ok in
    body_stops _ _ _ _ _ _ parts.0 c.in_ok-parts.parts is c.read_head.auto.fields within parts.1 parts.2 c.fill_to.ensures.reads.grown _ c.in-Err.stop c.in-Err.ensures.stops c.in-Err.ensures.few c.in_default.not-End

pub returns-in_default-clause-cause : goal.returns-in_default-clause-cause
returns-in_default-clause-cause g c =
    λ is. let s : c.in-Err.stop ≡ stop.ReadFault = cc in rose_later _ _ _ c.read_head.ensures.reads.counted (c.in-Err.ensures.cause (ap Err s))

pub returns-in_default-copied-clause-reads : goal.returns-in_default-copied-clause-reads
returns-in_default-copied-clause-reads g c = reads_on g.S.Source.left g.S.Source.faults g.S.Source.reads _ _ _ _ _ _ c.read_head.ensures.reads c.fill_to.ensures.reads

pub returns-clause-reads : goal.returns-clause-reads
returns-clause-reads g c = reads_on g.S.Source.left g.S.Source.faults g.S.Source.reads _ _ _ _ _ _ c.read_head.ensures.reads c.fill_to.ensures.reads

pub returns-clause-ok : goal.returns-clause-ok
returns-clause-ok g c =
    let is : c.front.result.now ≡ front c.read_head.new.buffer = c.front.ensures ∙ ap front c.bytes.ensures in
    let within = subst (λ (l : List ℕ). IsRequestHeadAt l c.read_head.new.fields c.in_ok-head.head) (sym is) c.in_ok-head.ensures.ok in
    let parts = c.in_ok-parts.ensures.ok in
    let start = c.in_ok-head.head.len in
    let end = start + c.in_ok-parts.parts.length in
    let cut : c.in-Ok-copied.body ≡ take (end - start) (drop start c.fill_to.new.self) =
    c.in-Ok-copied.ensures ∙ ap (λ (l : List ℕ). take (end - start) (drop start l)) c.bytes-2.ensures in (
      c.in-Ok.ensures.enough,
      first_of _ _ _ _ _ _ parts.0 c.in_ok-parts.parts is c.read_head.auto.fields within parts.1 parts.2 c.fill_to.ensures.reads.grown
          _ c.in-Ok-copied.body end refl c.in-Ok.ensures.enough cut refl refl refl refl,
    )
