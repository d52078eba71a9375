-- Whole heads and whole requests, and why what comes isn't one.
use Rattle.std.proofs.Common.{◌≡◌, ◌≢◌, ◌∙◌, ◌++◌, ◌+◌, ◌-◌, ◌≤◌, ◌<◌, inl, inr, Bool, true, false, not, cond, nat_le, ℕ, List, [], ◌∷◌, length, take, drop, map, Option, Some, Result, Ok, Err, IfErr, refl, ap, sym, subst, subst₂, arith, codes, append_assoc, append-nil, length-append, length-take, length-drop}
use Rattle.std.proofs.lemmas.List.{length-map}
use Rattle.std.specs.Prelude.{⊤, IsErr, IsErrAnd}
use Rattle.std.specs.Io.KnownBytes.{IsAtEnd}
use Rattle.std.proofs.lemmas.List.{take-append-drop, drop-append-le, take-append-le, length-take-le, drop-drop}
use Rattle.std.proofs.lemmas.Bool.Decides.{nat_tests}
use Rattle.std.specs.Str.Parse.{digits_value}
use Rattle.httparse.specs.declared.spans.HeaderSpan.{HeaderSpan}
use Rattle.httparse.specs.declared.spans.RequestSpans.{RequestSpans}
use Rattle.httparse.specs.Grammar.{RequestHead, ReadsRequest, HasNoRequest, MayBecomeRequest}
use Rattle.httparse.specs.Spans.{header_bytes, name_and_value, IsRequestAt}
use Rattle.httparse.proofs.GrammarLemmas.{request_unique, ReadsRequest-append}
use Rattle.http_wire.specs.declared.message.HttpRequest.{HttpRequest}
use Rattle.http_wire.specs.declared.message.Why.{Why}
use Rattle.http_wire.specs.declared.message.Why.TheVariants.{BadHead, HeadTooLong, NoLength, BodyTooLong, Truncated}
use Rattle.http_wire.specs.declared.message.Stop.{Stop}
use Rattle.http_wire.specs.declared.message.Stop.TheVariants as stop
use Rattle.http_wire.specs.declared.message.Got.{Got}
use Rattle.http_wire.specs.declared.parts.Parts.{Parts}
use Rattle.http_wire.specs.Stopping.{got_of}
use Rattle.http_wire.specs.Limits.{front}
use Rattle.http_wire.specs.Heads.{FillStops, HeadStops}
use Rattle.http_wire.specs.Framing.{is_length, values, length_by, body_length}
use Rattle.http_wire.specs.Requests.{IsRequestHeadAt, RefusesRequestHead, IsPartsOf, PartsStop}
use Rattle.http_wire.specs.Heard.{IsWhole, First, HasNone, IsFramedTo, IsRefused, Stops, Gets, LacksHead}
use Rattle.http_wire.proofs.Fronts.{front_grows}

-- What a length may be, and why there is none.
abbrev FramedOk : Result ℕ Why → Type 0
FramedOk (Ok n) = n ≤ 1048576
FramedOk (Err BadHead) = ⊤
FramedOk (Err HeadTooLong) = ⊥
FramedOk (Err NoLength) = ⊤
FramedOk (Err BodyTooLong) = ⊤
FramedOk (Err Truncated) = ⊥

framed_within : (n : ℕ) (b : Bool) → nat_le n 1048576 ≡ b → FramedOk (cond b (Ok n) (Err BodyTooLong))
framed_within n true fits = grind (arith, nat_tests)
framed_within n false fits = tt

framed_one : (n : ℕ) (bad coded : Bool) → FramedOk (cond bad (Err BadHead) (cond coded (Err NoLength) (cond (nat_le n 1048576) (Ok n) (Err BodyTooLong))))
framed_one n true coded = tt
framed_one n false true = tt
framed_one n false false = framed_within n (nat_le n 1048576) refl

framed_none : (b : Bool) → FramedOk (cond b (Ok 0) (Err NoLength))
framed_none true = omega arith
framed_none false = tt

framed_ok : (m : List ℕ) (cs ls : List (List ℕ)) → FramedOk (length_by m cs ls)
framed_ok m cs [] = framed_none _
framed_ok m cs (v ∷ []) = framed_one (digits_value 10 v) (not (is_length v)) (nat_le 1 (length cs))
framed_ok m cs (v ∷ w ∷ vs) = tt

framed_head : (h : RequestHead) (r : Result ℕ Why) → body_length h ≡ r → FramedOk r
framed_head h r is =
    let fields = map name_and_value h.fields in
    subst FramedOk is (framed_ok h.method (values (codes "transfer-encoding") fields) (values (codes "content-length") fields))

pub length_fits : (h : RequestHead) (n : ℕ) → body_length h ≡ Ok n → n ≤ 1048576
length_fits h n is = framed_head h (Ok n) is

framed_refused : (bytes : List ℕ) (why : Why) → IsFramedTo bytes why → IsRefused bytes why
framed_refused bytes BadHead f = inr f
framed_refused bytes HeadTooLong f = absurd (framed_head f.0 (Err HeadTooLong) f.3)
framed_refused bytes NoLength f = f
framed_refused bytes BodyTooLong f = f
framed_refused bytes Truncated f = absurd (framed_head f.0 (Err Truncated) f.3)

-- a head that was found in the front is whole, whatever follows
pub whole_of : (bytes f tail : List ℕ) (fields : List HeaderSpan) (r : RequestSpans) (h : RequestHead) → f ≡ front bytes → length fields ≡ 128
    → IsRequestHeadAt f fields r → IsRequestAt f fields r h → IsWhole (bytes ++ tail) h (drop r.len (bytes ++ tail))
whole_of bytes f tail fields r h is room within at =
    let fits : r.len ≤ length f = within.0.section.len_fits in
    let split : f ++ (drop 16384 bytes ++ tail) ≡ bytes ++ tail =
    sym (append_assoc f (drop 16384 bytes) tail) ∙ ap (λ (l : List ℕ). (l ++ drop 16384 bytes) ++ tail) is ∙ ap (λ (l : List ℕ). l ++ tail) (take-append-drop 16384 bytes) in
    let more = drop 16384 bytes ++ tail in
    let rest : drop r.len f ++ more ≡ drop r.len (bytes ++ tail) = sym (drop-append-le r.len f more fits) ∙ ap (drop r.len) split in
    let named : length h.fields ≡ length (take r.headers fields) =
    sym (length-map h.fields name_and_value) ∙ sym (ap length at.fields) ∙ length-map (take r.headers fields) (header_bytes f) in
    record {
      reads = subst₂ (λ (b q : List ℕ). ReadsRequest b h q) split rest (ReadsRequest-append f h (drop r.len f) more at.reads);
      short = omega (arith, at.len, fits, ap length is, length-take 16384 bytes);
      few = omega (arith, named, length-take r.headers fields, room);
    }

pub head_short : (bytes f : List ℕ) (fields : List HeaderSpan) (r : RequestSpans) → f ≡ front bytes → IsRequestHeadAt f fields r → r.len ≤ 16384
head_short bytes f fields r is within =
    let fits : r.len ≤ length f = within.0.section.len_fits in
    omega (arith, fits, ap length is, length-take 16384 bytes)

pub err_is : {T : Type 0} (P : Stop → Type 0) (r : Result T Stop) (e : Stop) → IsErr r × IsErrAnd r (λ x. x ≡ e) → P e → IfErr r P
err_is P (Ok x) e is p = tt
err_is P (Err x) e is p = subst P (sym is.1) p

pub nothing_left : (left : Option (List ℕ)) → IsAtEnd left → (others : List ℕ) → left ≡ Some others → others ≡ []
nothing_left left at others is = subst IsAtEnd is at

-- no head in the front of the bytes, nor of more of them
refused_lasts : (bytes : List ℕ) (why : Why) → RefusesRequestHead (front bytes) why → (others : List ℕ) → IsRefused (bytes ++ others) why
refused_lasts bytes BadHead never others =
    let grown = front_grows bytes others in
    inl (λ more h rest reads.
    never (grown.0 ++ more) h rest
    (subst (λ (b : List ℕ). ReadsRequest b h rest) (ap (λ (b : List ℕ). b ++ more) grown.1 ∙ append_assoc (front bytes) grown.0 more) reads))
refused_lasts bytes HeadTooLong (inl x) others =
    let long : 16384 ≤ length bytes = omega (arith, x.0, length-take 16384 bytes) in
    let same : front bytes ≡ front (bytes ++ others) = sym (take-append-le 16384 bytes others long) in
    inl (omega (arith, long, length-append bytes others), subst HasNoRequest same x.1, subst MayBecomeRequest same x.2)
refused_lasts bytes HeadTooLong (inr (x, over)) others =
    let grown = front_grows bytes others in
    inr (
      (x.0, x.1 ++ grown.0, grown.1 ∙ ap (λ (b : List ℕ). b ++ grown.0) x.2 ∙ append_assoc x.0 x.1 grown.0, x.3, x.4, x.5),
      λ more h rest reads.
          over (grown.0 ++ more) h rest
          (subst (λ (b : List ℕ). ReadsRequest b h rest) (ap (λ (b : List ℕ). b ++ more) grown.1 ∙ append_assoc (front bytes) grown.0 more) reads),
    )
refused_lasts bytes NoLength r others = absurd r
refused_lasts bytes BodyTooLong r others = absurd r
refused_lasts bytes Truncated r others = absurd r

-- why the reading of a request's head stops
pub request_stops : (left : Option (List ℕ)) (bytes : List ℕ) (e : Stop)
    → HeadStops HasNoRequest MayBecomeRequest RefusesRequestHead left bytes e → Stops bytes e left
request_stops left bytes stop.End stops = λ others is. ap (λ (l : List ℕ). l ++ others) stops.0 ∙ nothing_left left stops.1 others is
request_stops left bytes (stop.Refused why) (inl r) = λ others is. refused_lasts bytes why r others
request_stops left bytes (stop.Refused why) (inr lacks) = λ others is.
    let whole : bytes ++ others ≡ bytes = ap (λ (l : List ℕ). bytes ++ l) (nothing_left left lacks.1 others is) ∙ append-nil bytes in
    subst (IsRefused (bytes ++ others)) (sym lacks.0.0) (inl (subst LacksHead (sym whole) (lacks.0.1, lacks.0.2, lacks.0.3, lacks.0.4)))
request_stops left bytes stop.ReadFault none = λ r rest first. none first.head first.after first.whole.reads
request_stops left bytes stop.Memory stops = tt

-- why the parts of a head aren't read
pub parts_stop : (left : Option (List ℕ)) (bytes f : List ℕ) (fields : List HeaderSpan) (r : RequestSpans) (e : Stop) → f ≡ front bytes → length fields ≡ 128
    → IsRequestHeadAt f fields r → (h : RequestHead) × IsRequestAt f fields r h × PartsStop h e → Stops bytes e left
parts_stop left bytes f fields r stop.End is room within stops = absurd stops.2
parts_stop left bytes f fields r (stop.Refused why) is room within stops = λ others _.
    framed_refused (bytes ++ others) why (stops.0, drop r.len (bytes ++ others), whole_of bytes f others fields r stops.0 is room within stops.1, stops.2)
parts_stop left bytes f fields r stop.ReadFault is room within stops = absurd stops.2
parts_stop left bytes f fields r stop.Memory is room within stops = tt

-- a request begins with the one head that its bytes begin with, and has a body of its length
no_first : (bytes after : List ℕ) (h : RequestHead) (n : ℕ) → ReadsRequest bytes h after → body_length h ≡ Ok n → length after < n → HasNone bytes
no_first bytes after h n reads framed short r rest first =
    let same = request_unique bytes first.head h first.after after first.whole.reads reads in
    let sizes : ◌≡◌ {A = Result ℕ Why} (Ok (length r.body)) (Ok n) = sym first.framed ∙ ap body_length same.0 ∙ framed in
    let size : length r.body ≡ n = cc in
    let body : after ≡ r.body ++ rest = sym same.1 ∙ first.body in
    absurd (omega (arith, size, ap length body, length-append r.body rest, short))

module _ (bytes f more new : List ℕ) (fields : List HeaderSpan) (r : RequestSpans) (h : RequestHead) (p : Parts)
    (is : f ≡ front bytes) (room : length fields ≡ 128) (within : IsRequestHeadAt f fields r) (at : IsRequestAt f fields r h) (parts : IsPartsOf h p)
    (grown : new ≡ bytes ++ more) where
  new_whole : (others : List ℕ) → IsWhole (new ++ others) h (drop r.len (new ++ others))
  new_whole others =
      subst (λ (b : List ℕ). IsWhole b h (drop r.len b)) (sym (append_assoc bytes more others) ∙ ap (λ (l : List ℕ). l ++ others) (sym grown))
      (whole_of bytes f (more ++ others) fields r h is room within at)

  lacking : length new < r.len + p.length → length (drop r.len new) < p.length
  lacking few =
      let fits : r.len ≤ length f = within.0.section.len_fits in
      let front_le : length f ≤ length new = omega (arith, ap length is, length-take 16384 bytes, ap length grown, length-append bytes more) in
      omega (arith, few, length-drop r.len new, fits, front_le)

  -- the stream ends, or its source fails, within the body
  pub body_stops : (left : Option (List ℕ)) (e : Stop) → FillStops e left → length new < r.len + p.length → e ≢ stop.End → Stops new e left
  body_stops left stop.End stops few not = absurd (not refl)
  body_stops left (stop.Refused why) stops few not = absurd stops
  body_stops left stop.ReadFault stops few not =
      let whole = subst (λ (b : List ℕ). IsWhole b h (drop r.len b)) (append-nil new) (new_whole []) in
      no_first new (drop r.len new) h p.length whole.reads parts.length_is (lacking few)
  body_stops left stop.Memory stops few not = tt

  pub body_truncated : (left : Option (List ℕ)) → IsAtEnd left → length new < r.len + p.length → Stops new (stop.Refused Truncated) left
  body_truncated left end few = λ others is.
      let whole : new ++ others ≡ new = ap (λ (l : List ℕ). new ++ l) (nothing_left left end others is) ∙ append-nil new in
      inr (h, drop r.len (new ++ others), p.length, new_whole others, parts.length_is, subst (λ (b : List ℕ). length (drop r.len b) < p.length) (sym whole) (lacking few))

  -- the request is the first one of the bytes
  pub first_of : (q : HttpRequest) (body : List ℕ) (end : ℕ) → end ≡ r.len + p.length → end ≤ length new → body ≡ take (end - r.len) (drop r.len new)
      → q.method ≡ p.method → q.target ≡ p.target → q.close ≡ p.close → q.body ≡ body → First new q (drop end new)
  first_of q body end ends enough cut method target close is_body =
      let whole = subst (λ (b : List ℕ). IsWhole b h (drop r.len b)) (append-nil new) (new_whole []) in
      let n : end - r.len ≡ p.length = omega (arith, ends) in
      let part : q.body ≡ take p.length (drop r.len new) = is_body ∙ cut ∙ ap (λ (k : ℕ). take k (drop r.len new)) n in
      let size : length q.body ≡ p.length = ap length part ∙ length-take-le p.length (drop r.len new) (omega (arith, length-drop r.len new, ends, enough)) in
      let rest : drop p.length (drop r.len new) ≡ drop end new = drop-drop p.length r.len new ∙ ap (λ (k : ℕ). drop k new) (sym ends) in
      record {
        head = h;
        after = drop r.len new;
        whole = whole;
        framed = parts.length_is ∙ ap Ok (sym size);
        body = sym (take-append-drop p.length (drop r.len new)) ∙ ap (λ (l : List ℕ). l ++ drop p.length (drop r.len new)) (sym part) ∙ ap (λ (l : List ℕ). q.body ++ l) rest;
        method = method ∙ parts.method;
        target = target ∙ parts.target;
        close = close ∙ parts.close;
      }

pub gets_stop : (held read bytes : List ℕ) (got : Got) (e : Stop) (held' : List ℕ) (left : Option (List ℕ)) → bytes ≡ held ++ read → got ≡ got_of e
    → Stops bytes e left → Gets (held ++ read) got held' left
gets_stop held read bytes got e held' left grown is stops =
    subst (λ (g : Got). Gets (held ++ read) g held' left) (sym is) (by_cases e (subst (λ (b : List ℕ). Stops b e left) grown stops))
  where
    by_cases : (e : Stop) → Stops (held ++ read) e left → Gets (held ++ read) (got_of e) held' left
    by_cases stop.End s = s
    by_cases (stop.Refused why) s = s
    by_cases stop.ReadFault s = s
    by_cases stop.Memory s = s
