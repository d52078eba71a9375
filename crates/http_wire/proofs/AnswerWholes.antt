-- Whole heads of responses and whole responses, and why what comes isn't one.
use Rattle.std.proofs.Common.{◌≡◌, ◌≢◌, ◌∙◌, ◌++◌, ◌+◌, ◌-◌, ◌≤◌, ◌<◌, inl, inr, Bool, true, false, cond, nat_le, ◌&&◌, ℕ, List, [], ◌∷◌, length, take, drop, map, Option, Some, None, refl, ap, sym, subst, subst₂, arith, codes, append_assoc, append-nil, length-append, length-take, length-drop}
use Rattle.std.proofs.lemmas.List.{length-map, take-append-drop, drop-append-le, length-take-le, drop-drop}
use Rattle.std.proofs.lemmas.Bool.Decides.{nat_tests}
use Rattle.std.specs.Str.Parse.{digits_value}
use Rattle.httparse.specs.declared.spans.HeaderSpan.{HeaderSpan}
use Rattle.httparse.specs.declared.spans.ResponseSpans.{ResponseSpans}
use Rattle.httparse.specs.Grammar.{ResponseHead, print_response, ReadsResponse, HasNoResponse}
use Rattle.httparse.specs.Spans.{header_bytes, name_and_value, IsResponseAt}
use Rattle.httparse.proofs.GrammarLemmas.{response_unique, ReadsResponse-append}
use Rattle.http_wire.specs.declared.message.HttpResponse.{HttpResponse}
use Rattle.http_wire.specs.declared.message.Why.{Why}
use Rattle.http_wire.specs.declared.message.Stop.{Stop}
use Rattle.http_wire.specs.declared.message.Stop.TheVariants as stop
use Rattle.http_wire.specs.declared.responses.AnswerStop.{AnswerStop}
use Rattle.http_wire.specs.declared.responses.AnswerStop.TheVariants as answer
use Rattle.http_wire.specs.declared.responses.GotResponse.{GotResponse}
use Rattle.http_wire.specs.Limits.{front}
use Rattle.http_wire.specs.Heads.{FillStops, HeadStops}
use Rattle.http_wire.specs.Framing.{is_length, values}
use Rattle.http_wire.specs.AnswerLaws.{response_none_open}
use Rattle.http_wire.specs.Answered.{answer_length_by, answer_length, IsWholeAnswer, FirstAnswer, HasNoAnswer, LacksAnswerHead, AnswerStops, GetsAnswer, answer_of, IsResponseHeadAt, RefusesResponseHead}
use Rattle.http_wire.proofs.Fronts.{begins}
use Rattle.http_wire.proofs.Wholes.{nothing_left}

-- a head that was found in the front is whole, whatever follows
pub whole_answer : (bytes f tail : List ℕ) (fields : List HeaderSpan) (r : ResponseSpans) (h : ResponseHead) → f ≡ front bytes → length fields ≡ 128
    → IsResponseHeadAt f fields r → IsResponseAt f fields r h → IsWholeAnswer (bytes ++ tail) h (drop r.len (bytes ++ tail))
whole_answer bytes f tail fields r h is room within at =
    let fits : r.len ≤ length f = within.0.section.len_fits in
    let more = drop 16384 bytes ++ tail in
    let split : f ++ more ≡ bytes ++ tail =
    sym (append_assoc f (drop 16384 bytes) tail) ∙ ap (λ (l : List ℕ). (l ++ drop 16384 bytes) ++ tail) is ∙ ap (λ (l : List ℕ). l ++ tail) (take-append-drop 16384 bytes) in
    let rest : drop r.len f ++ more ≡ drop r.len (bytes ++ tail) = sym (drop-append-le r.len f more fits) ∙ ap (drop r.len) split in
    let named : length h.fields ≡ length (take r.headers fields) =
    sym (length-map h.fields name_and_value) ∙ sym (ap length at.fields) ∙ length-map (take r.headers fields) (header_bytes f) in
    record {
      reads = subst₂ (λ (b q : List ℕ). ReadsResponse b h q) split rest (ReadsResponse-append f h (drop r.len f) more at.reads);
      short = omega (arith, at.len, fits, ap length is, length-take 16384 bytes);
      few = omega (arith, named, length-take r.headers fields, room);
    }

pub answer_head_short : (bytes f : List ℕ) (fields : List HeaderSpan) (r : ResponseSpans) → f ≡ front bytes → IsResponseHeadAt f fields r → r.len ≤ 16384
answer_head_short bytes f fields r is within =
    let fits : r.len ≤ length f = within.0.section.len_fits in
    omega (arith, fits, ap length is, length-take 16384 bytes)

-- a length that is read is within the limit
fits_one : (n : ℕ) (a b : Bool) → nat_le n 4194304 ≡ b → (k : ℕ) → cond (a && b) (Some n) None ≡ Some k → k ≤ 4194304
fits_one n true true is k e =
    let same : n ≡ k = cc in
    let le : n ≤ 4194304 = grind (arith, nat_tests) in
    omega arith
fits_one n true false is k e = cc
fits_one n false true is k e = cc
fits_one n false false is k e = cc

pub answer_fits : (h : ResponseHead) (k : ℕ) → answer_length h ≡ Some k → k ≤ 4194304
answer_fits h k e = go (values (codes "content-length") (map name_and_value h.fields)) e
  where
    go : (vs : List (List ℕ)) → answer_length_by vs ≡ Some k → k ≤ 4194304
    go [] e = cc
    go (v ∷ []) e = fits_one (digits_value 10 v) (is_length v) (nat_le (digits_value 10 v) 4194304) refl k e
    go (v ∷ w ∷ vs) e = cc

-- no head within the limits in the front of the bytes, nor of more of them
refused_answer : (bytes others : List ℕ) (why : Why) → RefusesResponseHead (front bytes) why → LacksAnswerHead (bytes ++ others)
refused_answer bytes others why refused h after n whole framed =
    let more = drop 16384 bytes ++ others in
    let split : front bytes ++ more ≡ bytes ++ others =
    sym (append_assoc (front bytes) (drop 16384 bytes) others) ∙ ap (λ (l : List ℕ). l ++ others) (take-append-drop 16384 bytes) in
    let reads = subst (λ (b : List ℕ). ReadsResponse b h after) (sym split) whole.reads in
    elim refused [
      | inl over ↦ absurd (let many : 128 < length h.fields = over more h after reads in omega (arith, many, whole.few))
      | inr none ↦ none.1 h (drop (length (print_response h)) (front bytes))
          (reads.0, begins (front bytes) more (print_response h) after reads.1 (omega (arith, none.0, whole.short)))
    ]

empty_lacks : LacksAnswerHead []
empty_lacks h after n whole framed = response_none_open [] refl h after whole.reads

-- why the reading of a response's head stops
pub answer_head_bad : (left : Option (List ℕ)) (bytes : List ℕ) (e : Stop) → e ≢ stop.ReadFault → e ≢ stop.Memory
    → HeadStops HasNoResponse HasNoResponse RefusesResponseHead left bytes e → AnswerStops bytes (answer.Bad 0) left
answer_head_bad left bytes stop.End not_fault not_memory stops = λ others is.
    let none : bytes ++ others ≡ [] = ap (λ (l : List ℕ). l ++ others) stops.0 ∙ nothing_left left stops.1 others is in
    inl (subst LacksAnswerHead (sym none) empty_lacks, refl)
answer_head_bad left bytes (stop.Refused why) not_fault not_memory (inl r) = λ others is. inl (refused_answer bytes others why r, refl)
answer_head_bad left bytes (stop.Refused why) not_fault not_memory (inr lacks) = λ others is.
    let whole : bytes ++ others ≡ bytes = ap (λ (l : List ℕ). bytes ++ l) (nothing_left left lacks.1 others is) ∙ append-nil bytes in
    inl (subst LacksAnswerHead (sym whole) (λ h after n head framed. lacks.0.3 h after head.reads), refl)
answer_head_bad left bytes stop.ReadFault not_fault not_memory stops = absurd (not_fault refl)
answer_head_bad left bytes stop.Memory not_fault not_memory stops = absurd (not_memory refl)

module _ (bytes f : List ℕ) (fields : List HeaderSpan) (r : ResponseSpans) (h : ResponseHead)
    (is : f ≡ front bytes) (room : length fields ≡ 128) (within : IsResponseHeadAt f fields r) (at : IsResponseAt f fields r h) where
  -- a head that doesn't say how long its body is
  pub unframed : (left : Option (List ℕ)) → answer_length h ≡ None → AnswerStops bytes (answer.Bad 0) left
  unframed left none = λ others _.
      inl (
        (λ k after n whole framed.
            let same = response_unique (bytes ++ others) k h after _ whole.reads (whole_answer bytes f others fields r h is room within at).reads in
            let no : ◌≡◌ {A = Option ℕ} None (Some n) = sym none ∙ ap answer_length (sym same.0) ∙ framed in
            cc),
        refl,
      )

  module _ (more new : List ℕ) (n : ℕ) (framed : answer_length h ≡ Some n) (grown : new ≡ bytes ++ more) where
    new_answer : (others : List ℕ) → IsWholeAnswer (new ++ others) h (drop r.len (new ++ others))
    new_answer others =
        subst (λ (b : List ℕ). IsWholeAnswer b h (drop r.len b)) (sym (append_assoc bytes more others) ∙ ap (λ (l : List ℕ). l ++ others) (sym grown))
        (whole_answer bytes f (more ++ others) fields r h is room within at)

    pub head_held : r.len ≤ length new
    head_held =
        let fits : r.len ≤ length f = within.0.section.len_fits in
        omega (arith, fits, ap length is, length-take 16384 bytes, ap length grown, length-append bytes more)

    -- the source fails within the body
    pub no_answer : length new < r.len + n → HasNoAnswer new
    no_answer few q rest first =
        let whole = subst (λ (b : List ℕ). IsWholeAnswer b h (drop r.len b)) (append-nil new) (new_answer []) in
        let same = response_unique new first.head h first.after (drop r.len new) first.whole.reads whole.reads in
        let sizes : ◌≡◌ {A = Option ℕ} (Some (length q.body)) (Some n) = sym first.framed ∙ ap answer_length same.0 ∙ framed in
        let size : length q.body ≡ n = cc in
        let body : drop r.len new ≡ q.body ++ rest = sym same.1 ∙ first.body in
        absurd (omega (arith, size, ap length body, length-append q.body rest, length-drop r.len new, few, head_held))

    -- the stream ends within the body
    pub body_bad : (left : Option (List ℕ)) (e : Stop) → e ≢ stop.ReadFault → e ≢ stop.Memory → FillStops e left → length new < r.len + n
        → (b : List ℕ) → b ≡ new → AnswerStops new (answer.Bad (length b - r.len)) left
    body_bad left stop.End not_fault not_memory end few b same = λ others none.
        let whole : new ++ others ≡ new = ap (λ (l : List ℕ). new ++ l) (nothing_left left end others none) ∙ append-nil new in
        let size : length (drop r.len (new ++ others)) ≡ length new - r.len = ap (λ (l : List ℕ). length (drop r.len l)) whole ∙ length-drop r.len new in
        inr (h, drop r.len (new ++ others), n, new_answer others, framed, omega (arith, size, few, head_held), ap (λ (l : List ℕ). length l - r.len) same ∙ sym size)
    body_bad left (stop.Refused why) not_fault not_memory end few b same = absurd end
    body_bad left stop.ReadFault not_fault not_memory end few b same = absurd (not_fault refl)
    body_bad left stop.Memory not_fault not_memory end few b same = absurd (not_memory refl)

    -- the response is the first one of the bytes
    pub first_answer : (q : HttpResponse) (body : List ℕ) (end : ℕ) → end ≡ r.len + n → end ≤ length new → body ≡ take (end - r.len) (drop r.len new)
        → q.status ≡ r.code → q.allow ≡ None → q.close ≡ false → q.body ≡ body → FirstAnswer new q (drop end new)
    first_answer q body end ends enough cut status allow close is_body =
        let whole = subst (λ (b : List ℕ). IsWholeAnswer b h (drop r.len b)) (append-nil new) (new_answer []) in
        let k : end - r.len ≡ n = omega (arith, ends) in
        let part : q.body ≡ take n (drop r.len new) = is_body ∙ cut ∙ ap (λ (j : ℕ). take j (drop r.len new)) k in
        let size : length q.body ≡ n = ap length part ∙ length-take-le n (drop r.len new) (omega (arith, length-drop r.len new, ends, enough)) in
        let rest : drop n (drop r.len new) ≡ drop end new = drop-drop n r.len new ∙ ap (λ (j : ℕ). drop j new) (sym ends) in
        record {
          head = h;
          after = drop r.len new;
          whole = whole;
          framed = framed ∙ ap Some (sym size);
          body = sym (take-append-drop n (drop r.len new)) ∙ ap (λ (l : List ℕ). l ++ drop n (drop r.len new)) (sym part) ∙ ap (λ (l : List ℕ). q.body ++ l) rest;
          status = status ∙ at.code;
          allow = allow;
          close = close;
        }

pub gets_answer : (held read bytes : List ℕ) (got : GotResponse) (e : AnswerStop) (held' : List ℕ) (left : Option (List ℕ)) → bytes ≡ held ++ read → got ≡ answer_of e
    → AnswerStops bytes e left → GetsAnswer (held ++ read) got held' left
gets_answer held read bytes got e held' left grown is stops =
    subst (λ (g : GotResponse). GetsAnswer (held ++ read) g held' left) (sym is) (by_cases e (subst (λ (b : List ℕ). AnswerStops b e left) grown stops))
  where
    by_cases : (e : AnswerStop) → AnswerStops (held ++ read) e left → GetsAnswer (held ++ read) (answer_of e) held' left
    by_cases (answer.Bad at) s = s
    by_cases answer.ReadFault s = s
    by_cases answer.Memory s = s
