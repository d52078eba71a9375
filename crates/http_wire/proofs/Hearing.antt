-- More of a stream begins with the same requests, and a stream has one list of them.
use Rattle.std.proofs.Common.{◌≡◌, ◌∙◌, ◌++◌, ◌<◌, ◌≤◌, inl, inr, ℕ, List, [], ◌∷◌, length, take, drop, Some, Result, Ok, Err, refl, ap, sym, subst, arith, append_assoc, length-append, length-take}
use Rattle.std.proofs.Math.Seq.{take-append_seam, drop-append_seam}
use Rattle.std.proofs.lemmas.List.{take-append-drop}
use Rattle.httparse.specs.Grammar.{RequestHead, print_request, ReadsRequest, HasNoRequest}
use Rattle.httparse.proofs.GrammarLemmas.{request_unique, ReadsRequest-append}
use Rattle.http_wire.specs.declared.message.HttpRequest.{HttpRequest}
use Rattle.http_wire.specs.declared.message.Why.{Why}
use Rattle.http_wire.specs.declared.message.Why.TheVariants.{BadHead, HeadTooLong, NoLength, BodyTooLong, Truncated}
use Rattle.http_wire.specs.declared.message.Got.{Got}
use Rattle.http_wire.specs.declared.message.Got.TheVariants as got
use Rattle.http_wire.specs.Framing.{body_length, closes}
use Rattle.http_wire.specs.Endings.{ends_head}
use Rattle.http_wire.specs.HeadLaws.{request_none_open}
use Rattle.http_wire.proofs.Fronts.{begins}
use Rattle.http_wire.specs.Limits.{front}
use Rattle.http_wire.specs.Heard.{IsWhole, First, IsFramedTo, Reason, AtEnd, RefusedFor, EndsBy, Begun, Gets, reason_of, CallsHearTheStream, StreamsAreHeardOnce}

pub first_append : (bytes : List ℕ) (r : HttpRequest) (rest more : List ℕ) → First bytes r rest → First (bytes ++ more) r (rest ++ more)
first_append bytes r rest more first = record {
  head = first.head;
  after = first.after ++ more;
  whole = record {
    reads = ReadsRequest-append bytes first.head first.after more first.whole.reads;
    short = first.whole.short;
    few = first.whole.few;
  };
  framed = first.framed;
  body = ap (λ (l : List ℕ). l ++ more) first.body ∙ append_assoc r.body rest more;
  method = first.method;
  target = first.target;
  close = first.close;
}

pub begun_append : (bytes : List ℕ) (rs : List HttpRequest) (rest more : List ℕ) → Begun bytes rs rest → Begun (bytes ++ more) rs (rest ++ more)
begun_append bytes [] rest more e = ap (λ (l : List ℕ). l ++ more) e
begun_append bytes (r ∷ rs) rest more (others, first, begun) =
    (others ++ more, first_append bytes r others more first, begun_append others rs rest more begun)

-- one request more
pub begun_snoc : (bytes : List ℕ) (rs : List HttpRequest) (held : List ℕ) (r : HttpRequest) (rest : List ℕ) → Begun bytes rs held → First held r rest
    → Begun bytes (rs ++ r ∷ []) rest
begun_snoc bytes [] held r rest e first = (rest, subst (λ (l : List ℕ). First l r rest) e first, refl)
begun_snoc bytes (x ∷ rs) held r rest (others, one, begun) first = (others, one, begun_snoc others rs held r rest begun first)

-- the next one, out of what was held and more
pub begun_next : (bytes : List ℕ) (rs : List HttpRequest) (held more : List ℕ) (r : HttpRequest) (rest : List ℕ) → Begun bytes rs held
    → First (held ++ more) r rest → Begun (bytes ++ more) (rs ++ r ∷ []) rest
begun_next bytes rs held more r rest begun first = begun_snoc (bytes ++ more) rs (held ++ more) r rest (begun_append bytes rs held more begun) first

-- what was held, read and left is the stream
joined : (held read left left' : List ℕ) → left ≡ read ++ left' → (held ++ read) ++ left' ≡ held ++ left
joined held read left left' e = append_assoc held read left' ∙ ap (λ (l : List ℕ). held ++ l) (sym e)

last_ends : (bytes held left : List ℕ) (last : Got) (why : Reason) → Gets bytes last held (Some left) → reason_of last ≡ Some why
    → EndsBy (bytes ++ left) why
last_ends bytes held left (got.Request r) why gets is = cc
last_ends bytes held left got.End why gets is = let same : AtEnd ≡ why = cc in subst (EndsBy (bytes ++ left)) same (gets left refl)
last_ends bytes held left (got.Refused w) why gets is = let same : RefusedFor w ≡ why = cc in subst (EndsBy (bytes ++ left)) same (gets left refl)
last_ends bytes held left got.ReadFault why gets is = cc
last_ends bytes held left got.Memory why gets is = cc

pub calls_hear_the_stream : CallsHearTheStream
calls_hear_the_stream left held [] last why (left', held', next) is =
    (held ++ left, refl, subst (λ (l : List ℕ). EndsBy l why) (joined held next.read left left' next.consumed) (last_ends (held ++ next.read) held' left' last why next.gets is))
calls_hear_the_stream left held (r ∷ rs) last why (left', held', next, calls) is =
    let rest = calls_hear_the_stream left' held' rs last why calls is in
    let first = subst (λ (l : List ℕ). First l r (held' ++ left')) (joined held next.read left left' next.consumed)
    (first_append (held ++ next.read) r held' left' next.gets) in
    (rest.0, (held' ++ left', first, rest.1), rest.2)

-- ---- one list of requests

cut_alike : (a b c d : List ℕ) → a ++ b ≡ c ++ d → length a ≡ length c → (a ≡ c) × (b ≡ d)
cut_alike a b c d e size = (
  sym (take-append_seam a b) ∙ ap (take (length a)) e ∙ ap (λ (k : ℕ). take k (c ++ d)) size ∙ take-append_seam c d,
  sym (drop-append_seam a b) ∙ ap (drop (length a)) e ∙ ap (λ (k : ℕ). drop k (c ++ d)) size ∙ drop-append_seam c d,
)

pub first_unique : (bytes : List ℕ) (r q : HttpRequest) (rest tail : List ℕ) → First bytes r rest → First bytes q tail → (r ≡ q) × (rest ≡ tail)
first_unique bytes r q rest tail x y =
    let same = request_unique bytes x.head y.head x.after y.after x.whole.reads y.whole.reads in
    let sizes : ◌≡◌ {A = Result ℕ Why} (Ok (length r.body)) (Ok (length q.body)) = sym x.framed ∙ ap body_length same.0 ∙ y.framed in
    let size : length r.body ≡ length q.body = cc in
    let cut = cut_alike r.body rest q.body tail (sym x.body ∙ same.1 ∙ y.body) size in
    let method : r.method ≡ q.method = x.method ∙ ap (λ (h : RequestHead). h.method) same.0 ∙ sym y.method in
    let target : r.target ≡ q.target = x.target ∙ ap (λ (h : RequestHead). h.target) same.0 ∙ sym y.target in
    let close : r.close ≡ q.close = x.close ∙ ap closes same.0 ∙ sym y.close in
    let body = cut.0 in
    (λ i. record { method = method i; target = target i; close = close i; body = body i }, cut.1)

whole_front : (bytes : List ℕ) (h : RequestHead) (after : List ℕ) → IsWhole bytes h after → (front bytes ++ drop 16384 bytes ≡ bytes) × (HasNoRequest (front bytes) → ⊥)
whole_front bytes h after whole =
    let split : front bytes ++ drop 16384 bytes ≡ bytes = take-append-drop 16384 bytes in (
      split,
      λ none. none h (drop (length (print_request h)) (front bytes))
          (whole.reads.0, begins (front bytes) (drop 16384 bytes) (print_request h) after (split ∙ whole.reads.1) (fits split)),
    )
  where
    fits : front bytes ++ drop 16384 bytes ≡ bytes → length (print_request h) ≤ length (front bytes)
    fits split =
        omega (arith, whole.short, ap length whole.reads.1, length-append (print_request h) after, length-take 16384 bytes)

-- a request at the front is no end
framed_otherwise : (bytes : List ℕ) (r : HttpRequest) (rest : List ℕ) (why : Why) → First bytes r rest → IsFramedTo bytes why → ⊥
framed_otherwise bytes r rest why first (h, after, whole, framed) =
    let same = request_unique bytes first.head h first.after after first.whole.reads whole.reads in
    let both : ◌≡◌ {A = Result ℕ Why} (Ok (length r.body)) (Err why) = sym first.framed ∙ ap body_length same.0 ∙ framed in
    cc

first_goes_on : (bytes : List ℕ) (r : HttpRequest) (rest : List ℕ) (why : Reason) → First bytes r rest → EndsBy bytes why → ⊥
first_goes_on bytes r rest AtEnd first ends = request_none_open bytes (ap ends_head ends) first.head first.after first.whole.reads
first_goes_on bytes r rest (RefusedFor BadHead) first (inl never) =
    never (drop 16384 bytes) first.head first.after
    (subst (λ (b : List ℕ). ReadsRequest b first.head first.after) (sym (whole_front bytes first.head first.after first.whole).0) first.whole.reads)
first_goes_on bytes r rest (RefusedFor BadHead) first (inr framed) = framed_otherwise bytes r rest BadHead first framed
first_goes_on bytes r rest (RefusedFor HeadTooLong) first (inl long) = (whole_front bytes first.head first.after first.whole).1 long.1
first_goes_on bytes r rest (RefusedFor HeadTooLong) first (inr (exceeds, over)) =
    let many : 128 < length first.head.fields = over (drop 16384 bytes) first.head first.after
    (subst (λ (b : List ℕ). ReadsRequest b first.head first.after) (sym (whole_front bytes first.head first.after first.whole).0) first.whole.reads) in
    omega (arith, many, first.whole.few)
first_goes_on bytes r rest (RefusedFor NoLength) first framed = framed_otherwise bytes r rest NoLength first framed
first_goes_on bytes r rest (RefusedFor BodyTooLong) first framed = framed_otherwise bytes r rest BodyTooLong first framed
first_goes_on bytes r rest (RefusedFor Truncated) first (inl lacks) = lacks.2 first.head first.after first.whole.reads
first_goes_on bytes r rest (RefusedFor Truncated) first (inr (h, after, n, whole, framed, short)) =
    let same = request_unique bytes first.head h first.after after first.whole.reads whole.reads in
    let sizes : ◌≡◌ {A = Result ℕ Why} (Ok (length r.body)) (Ok n) = sym first.framed ∙ ap body_length same.0 ∙ framed in
    let size : length r.body ≡ n = cc in
    omega (arith, size, ap length (sym same.1 ∙ first.body), length-append r.body rest, short)

pub streams_are_heard_once : StreamsAreHeardOnce
streams_are_heard_once bytes [] [] why other x y = refl
streams_are_heard_once bytes [] (q ∷ qs) why other (rest, begun, ends) (tail, (others, first, more), end) =
    absurd (first_goes_on bytes q others why first (subst (λ (l : List ℕ). EndsBy l why) begun ends))
streams_are_heard_once bytes (r ∷ rs) [] why other (rest, (others, first, more), end) (tail, begun, ends) =
    absurd (first_goes_on bytes r others other first (subst (λ (l : List ℕ). EndsBy l other) begun ends))
streams_are_heard_once bytes (r ∷ rs) (q ∷ qs) why other (rest, (others, first, more), ends) (tail, (behind, one, begun), end) =
    let same = first_unique bytes r q others behind first one in
    let later = streams_are_heard_once behind rs qs why other (rest, subst (λ (l : List ℕ). Begun l rs rest) same.1 more, ends) (tail, begun, end) in
    λ i. same.0 i ∷ later i
