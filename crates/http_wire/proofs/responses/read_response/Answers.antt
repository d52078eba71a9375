use Rattle.std.proofs.Common.{◌≡◌, ◌∙◌, ◌≤◌, ◌+◌, ◌-◌, ℕ, List, Some, length, take, drop, refl, sym, ap, subst, arith}
use Rattle.http_wire.specs.Limits.{front}
use Rattle.http_wire.specs.Answered.{answer_length_of, answer_length, IsResponseHeadAt}
use Rattle.http_wire.proofs.Reading.{reads_on}
use Rattle.http_wire.proofs.AnswerWholes.{answer_head_bad, answer_head_short, answer_fits, unframed, head_held, no_answer, body_bad, first_answer}
use Rattle.http_wire.proofs.responses.read_response.Goals as goal

pub returns-in_default-clause-err : goal.returns-in_default-clause-err
returns-in_default-clause-err g c = answer_head_bad _ _ c.in-Err.stop c.in_default.not-ReadFault c.in_default.not-Memory c.in-Err.ensures.err

pub returns-in_default-answer_length-clause-err : goal.returns-in_default-answer_length-clause-err
returns-in_default-answer_length-clause-err g c =
    let is : c.front.result.now ≡ front c.read_head.new.buffer = c.front.ensures ∙ ap front c.bytes.ensures in
    let within = subst (λ (l : List ℕ). IsResponseHeadAt l c.read_head.new.fields c.in-Ok.head) (sym is) c.in-Ok.ensures.ok in
    let h = within.1.0 in
    let at = within.1.1 in
    unframed c.read_head.new.buffer c.front.result.now c.read_head.new.fields c.in-Ok.head h is c.read_head.auto.fields within at _ (ap answer_length_of (sym at.fields) ∙ sym c.answer_length.ensures ∙ c.in_default-answer_length.is)

pub overflow_add-end : goal.overflow_add-end
overflow_add-end g c =
    let is : c.front.result.now ≡ front c.read_head.new.buffer = c.front.ensures ∙ ap front c.bytes.ensures in
    let within = subst (λ (l : List ℕ). IsResponseHeadAt l c.read_head.new.fields c.in-Ok.head) (sym is) c.in-Ok.ensures.ok in
    let h = within.1.0 in
    let at = within.1.1 in
    let framed : answer_length h ≡ Some c.in-Some.length = ap answer_length_of (sym at.fields) ∙ sym c.answer_length.ensures ∙ c.in-Some.is in
    let short : c.in-Ok.head.len ≤ 16384 = answer_head_short _ _ _ _ is within in
    let fits : c.in-Some.length ≤ 4194304 = answer_fits h _ framed in
    omega (arith, short, fits)

pub returns-in-ReadFault-stop-clause-reads : goal.returns-in-ReadFault-stop-clause-reads
returns-in-ReadFault-stop-clause-reads g c = reads_on g.S.Source.left g.S.Source.faults g.S.Source.reads _ _ _ _ _ _ c.read_head.ensures.reads c.fill_to.ensures.reads

pub returns-in-ReadFault-stop-clause-err : goal.returns-in-ReadFault-stop-clause-err
returns-in-ReadFault-stop-clause-err g c =
    let is : c.front.result.now ≡ front c.read_head.new.buffer = c.front.ensures ∙ ap front c.bytes.ensures in
    let within = subst (λ (l : List ℕ). IsResponseHeadAt l c.read_head.new.fields c.in-Ok.head) (sym is) c.in-Ok.ensures.ok in
    let h = within.1.0 in
    let at = within.1.1 in
    let framed : answer_length h ≡ Some c.in-Some.length = ap answer_length_of (sym at.fields) ∙ sym c.answer_length.ensures ∙ c.in-Some.is in
    no_answer c.read_head.new.buffer c.front.result.now c.read_head.new.fields c.in-Ok.head h is c.read_head.auto.fields within at c.fill_to.ensures.reads.read c.fill_to.new.self c.in-Some.length framed c.fill_to.ensures.reads.grown c.in-Err-fill_to.ensures.few

pub returns-in-Memory-stop-clause-reads : goal.returns-in-Memory-stop-clause-reads
returns-in-Memory-stop-clause-reads g c = reads_on g.S.Source.left g.S.Source.faults g.S.Source.reads _ _ _ _ _ _ c.read_head.ensures.reads c.fill_to.ensures.reads

pub overflow_sub-came : goal.overflow_sub-came
overflow_sub-came g c =
    let is : c.front.result.now ≡ front c.read_head.new.buffer = c.front.ensures ∙ ap front c.bytes.ensures in
    let within = subst (λ (l : List ℕ). IsResponseHeadAt l c.read_head.new.fields c.in-Ok.head) (sym is) c.in-Ok.ensures.ok in
    let h = within.1.0 in
    let at = within.1.1 in
    let framed : answer_length h ≡ Some c.in-Some.length = ap answer_length_of (sym at.fields) ∙ sym c.answer_length.ensures ∙ c.in-Some.is in
    let held : c.in-Ok.head.len ≤ length c.fill_to.new.self = head_held c.read_head.new.buffer c.front.result.now c.read_head.new.fields c.in-Ok.head h is c.read_head.auto.fields within at c.fill_to.ensures.reads.read c.fill_to.new.self c.in-Some.length framed c.fill_to.ensures.reads.grown in
    subst (λ (l : List ℕ). c.in-Ok.head.len ≤ length l) (sym c.bytes-in_default-stop.ensures) held

pub returns-in_default-stop-clause-reads : goal.returns-in_default-stop-clause-reads
returns-in_default-stop-clause-reads g c = reads_on g.S.Source.left g.S.Source.faults g.S.Source.reads _ _ _ _ _ _ c.read_head.ensures.reads c.fill_to.ensures.reads

pub returns-in_default-stop-clause-err : goal.returns-in_default-stop-clause-err
returns-in_default-stop-clause-err g c =
    let is : c.front.result.now ≡ front c.read_head.new.buffer = c.front.ensures ∙ ap front c.bytes.ensures in
    let within = subst (λ (l : List ℕ). IsResponseHeadAt l c.read_head.new.fields c.in-Ok.head) (sym is) c.in-Ok.ensures.ok in
    let h = within.1.0 in
    let at = within.1.1 in
    let framed : answer_length h ≡ Some c.in-Some.length = ap answer_length_of (sym at.fields) ∙ sym c.answer_length.ensures ∙ c.in-Some.is in
    body_bad c.read_head.new.buffer c.front.result.now c.read_head.new.fields c.in-Ok.head h is c.read_head.auto.fields within at c.fill_to.ensures.reads.read c.fill_to.new.self c.in-Some.length framed c.fill_to.ensures.reads.grown _ c.in-Err-fill_to.stop c.in_default-stop.not-ReadFault c.in_default-stop.not-Memory c.in-Err-fill_to.ensures.stops c.in-Err-fill_to.ensures.few
    c.bytes-in_default-stop.result.now c.bytes-in_default-stop.ensures

pub returns-in_default-copied-clause-reads : goal.returns-in_default-copied-clause-reads
returns-in_default-copied-clause-reads g c = reads_on g.S.Source.left g.S.Source.faults g.S.Source.reads _ _ _ _ _ _ c.read_head.ensures.reads c.fill_to.ensures.reads

pub returns-clause-reads : goal.returns-clause-reads
returns-clause-reads g c = reads_on g.S.Source.left g.S.Source.faults g.S.Source.reads _ _ _ _ _ _ c.read_head.ensures.reads c.fill_to.ensures.reads

pub returns-clause-ok : goal.returns-clause-ok
returns-clause-ok g c =
    let is : c.front.result.now ≡ front c.read_head.new.buffer = c.front.ensures ∙ ap front c.bytes.ensures in
    let within = subst (λ (l : List ℕ). IsResponseHeadAt l c.read_head.new.fields c.in-Ok.head) (sym is) c.in-Ok.ensures.ok in
    let h = within.1.0 in
    let at = within.1.1 in
    let framed : answer_length h ≡ Some c.in-Some.length = ap answer_length_of (sym at.fields) ∙ sym c.answer_length.ensures ∙ c.in-Some.is in
    let start = c.in-Ok.head.len in
    let end = start + c.in-Some.length in
    let cut : c.in-Ok-copied.body ≡ take (end - start) (drop start c.fill_to.new.self) =
    c.in-Ok-copied.ensures ∙ ap (λ (l : List ℕ). take (end - start) (drop start l)) c.bytes-2.ensures in (
      c.in-Ok-fill_to.ensures.enough,
      first_answer c.read_head.new.buffer c.front.result.now c.read_head.new.fields c.in-Ok.head h is c.read_head.auto.fields within at c.fill_to.ensures.reads.read c.fill_to.new.self c.in-Some.length framed c.fill_to.ensures.reads.grown _ c.in-Ok-copied.body end refl c.in-Ok-fill_to.ensures.enough cut refl refl refl refl,
    )
