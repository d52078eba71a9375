-- The responses of a stream, as a client reads them (RFC 9112).
use Rattle.std.specs.Prelude.{◌≡◌, ◌⊎◌, ℕ, ◌&&◌, ◌<◌, ◌≤◌, false, List, [], ◌∷◌, ◌++◌, length, map, if◌then◌else◌, nat_le, Option, Some, None, codes, ⊤}
use Rattle.std.specs.Io.KnownBytes.{Consumes}
use Rattle.std.specs.Str.Parse.{digits_value}
use Rattle.httparse.specs.declared.spans.HeaderSpan.{HeaderSpan}
use Rattle.httparse.specs.declared.spans.ResponseSpans.{ResponseSpans}
use Rattle.httparse.specs.Grammar.{ResponseHead, print_response, ReadsResponse, HasNoResponse, status_code}
use Rattle.httparse.specs.Spans.{name_and_value, IsResponseWithin, IsResponseOf, ResponseOverflows}
use Rattle.http_wire.specs.declared.message.HttpResponse.{HttpResponse}
use Rattle.http_wire.specs.declared.message.Why.{Why}
use Rattle.http_wire.specs.declared.responses.GotResponse.{GotResponse}
use Rattle.http_wire.specs.declared.responses.GotResponse.TheVariants as got
use Rattle.http_wire.specs.declared.responses.AnswerStop.{AnswerStop}
use Rattle.http_wire.specs.declared.responses.AnswerStop.TheVariants as stop
use Rattle.http_wire.specs.Framing.{values, is_length}
use Rattle.http_wire.specs.Limits.{head_limit, field_limit}

-- the most bytes that a response's body has
abbrev pub answer_limit : ℕ
answer_limit = 4194304

-- of the lengths in a head, how long the body is: one length within the limit
abbrev pub answer_length_by : List (List ℕ) → Option ℕ
answer_length_by [] = None
answer_length_by (v ∷ w ∷ vs) = None
answer_length_by (v ∷ []) = if is_length v && nat_le (digits_value 10 v) answer_limit then Some (digits_value 10 v) else None

abbrev pub answer_length_of : List (List ℕ × List ℕ) → Option ℕ
answer_length_of fields = answer_length_by (values (codes "content-length") fields)

abbrev pub answer_length : ResponseHead → Option ℕ
answer_length h = answer_length_of (map name_and_value h.fields)

-- The bytes begin with this head, which is within the limits.
pub record IsWholeAnswer (bytes : List ℕ) (h : ResponseHead) (after : List ℕ) : Type 0 where
  pub reads : ReadsResponse bytes h after
  pub short : length (print_response h) ≤ head_limit
  pub few : length h.fields ≤ field_limit

-- The bytes begin with this response, and then come the rest.
pub record FirstAnswer (bytes : List ℕ) (r : HttpResponse) (rest : List ℕ) : Type 0 where
  pub head : ResponseHead
  pub after : List ℕ
  pub whole : IsWholeAnswer bytes head after
  pub framed : answer_length head ≡ Some (length r.body)
  pub body : after ≡ r.body ++ rest
  pub status : r.status ≡ status_code head
  pub allow : r.allow ≡ None
  pub close : r.close ≡ false

-- no response stands whole at their front
abbrev pub HasNoAnswer : List ℕ → Type 0
HasNoAnswer bytes = (r : HttpResponse) (rest : List ℕ) → FirstAnswer bytes r rest → ⊥

-- no head within the limits says how long its body is
abbrev pub LacksAnswerHead : List ℕ → Type 0
LacksAnswerHead bytes = (h : ResponseHead) (after : List ℕ) (n : ℕ) → IsWholeAnswer bytes h after → answer_length h ≡ Some n → ⊥

-- the stream ends within the body, of which so many bytes came
abbrev pub LacksAnswerBody : List ℕ → ℕ → Type 0
LacksAnswerBody bytes at =
    (h : ResponseHead) × (after : List ℕ) × (n : ℕ) × IsWholeAnswer bytes h after × (answer_length h ≡ Some n) × (length after < n) × (at ≡ length after)

-- the bytes, to the end of the stream, don't begin with a response, and the fault is at this place
abbrev pub IsBad : List ℕ → ℕ → Type 0
IsBad bytes at = (LacksAnswerHead bytes × (at ≡ 0)) ⊎ LacksAnswerBody bytes at

-- why reading stops at the bytes that were held and read; `left` is what the stream still has
abbrev pub AnswerStops : (bytes : List ℕ) → AnswerStop → (left : Option (List ℕ)) → Type 0
AnswerStops bytes (stop.Bad at) left = (others : List ℕ) → left ≡ Some others → IsBad (bytes ++ others) at
AnswerStops bytes stop.ReadFault left = HasNoAnswer bytes
AnswerStops bytes stop.Memory left = ⊤

-- what the bytes that were held and read are
abbrev pub GetsAnswer : (bytes : List ℕ) → GotResponse → (held : List ℕ) → (left : Option (List ℕ)) → Type 0
GetsAnswer bytes (got.Response r) held left = FirstAnswer bytes r held
GetsAnswer bytes (got.Bad at) held left = AnswerStops bytes (stop.Bad at) left
GetsAnswer bytes got.ReadFault held left = HasNoAnswer bytes
GetsAnswer bytes got.Memory held left = ⊤

-- The next response of the bytes held and the bytes left, however these are cut. What was read beyond it
-- is held.
pub record IsNextAnswer (left left' : Option (List ℕ)) (held : List ℕ) (got : GotResponse) (held' : List ℕ) : Type 0 where
  pub read : List ℕ
  pub consumed : Consumes left left' read
  pub gets : GetsAnswer (held ++ read) got held' left'

-- a stop as an answer
abbrev pub answer_of : AnswerStop → GotResponse
answer_of (stop.Bad at) = got.Bad at
answer_of stop.ReadFault = got.ReadFault
answer_of stop.Memory = got.Memory

-- a head that `httparse` found, with its parts within the bytes
abbrev pub IsResponseHeadAt : List ℕ → List HeaderSpan → ResponseSpans → Type 0
IsResponseHeadAt bytes fields r = IsResponseWithin bytes fields r × IsResponseOf bytes fields r

-- no head within the limits may come
abbrev pub RefusesResponseHead : List ℕ → Why → Type 0
RefusesResponseHead bytes why = ResponseOverflows field_limit bytes ⊎ ((length bytes ≡ head_limit) × HasNoResponse bytes)
