-- The requests of a stream as they are read.
use Rattle.std.specs.Prelude.{◌≡◌, ◌⊎◌, ℕ, Bool, true, false, List, length, Ok, Err, ⊤}
use Rattle.httparse.specs.Grammar.{RequestHead, HasNoRequest, NeverHasRequest, MayBecomeRequest}
use Rattle.httparse.specs.Spans.{RequestExceeds, RequestOverflows, IsRequestWithin, IsRequestOf}
use Rattle.httparse.specs.declared.spans.HeaderSpan.{HeaderSpan}
use Rattle.httparse.specs.declared.spans.RequestSpans.{RequestSpans}
use Rattle.http_wire.specs.declared.message.Why.{Why}
use Rattle.http_wire.specs.declared.message.Why.TheVariants.{BadHead, HeadTooLong, NoLength, BodyTooLong, Truncated}
use Rattle.http_wire.specs.declared.message.Stop.{Stop}
use Rattle.http_wire.specs.declared.message.Stop.TheVariants as stop
use Rattle.http_wire.specs.declared.message.Got.{Got}
use Rattle.http_wire.specs.declared.message.Got.TheVariants as got
use Rattle.http_wire.specs.declared.parts.Parts.{Parts}
use Rattle.http_wire.specs.Limits.{head_limit, field_limit}
use Rattle.http_wire.specs.Framing.{body_length, closes}

-- a reader of requests: the bytes that it has read beyond the last request, and whether it is over
pub record Reading : Type 0 where
  pub held : List ℕ
  pub over : Bool

-- Only an answer that is a request leaves the reader open.
abbrev pub is_last : Got → Bool
is_last (got.Request r) = false
is_last got.End = true
is_last (got.Refused why) = true
is_last got.ReadFault = true
is_last got.Memory = true

-- a head that `httparse` found, with its parts within the bytes
abbrev pub IsRequestHeadAt : List ℕ → List HeaderSpan → RequestSpans → Type 0
IsRequestHeadAt bytes fields r = IsRequestWithin bytes fields r × IsRequestOf bytes fields r

-- why no request's head may come in these bytes
abbrev pub RefusesRequestHead : List ℕ → Why → Type 0
RefusesRequestHead bytes BadHead = NeverHasRequest bytes
RefusesRequestHead bytes HeadTooLong =
    ((length bytes ≡ head_limit) × HasNoRequest bytes × MayBecomeRequest bytes)
    ⊎ (RequestExceeds field_limit bytes × RequestOverflows field_limit bytes)
RefusesRequestHead bytes NoLength = ⊥
RefusesRequestHead bytes BodyTooLong = ⊥
RefusesRequestHead bytes Truncated = ⊥

-- The parts are those of the head.
pub record IsPartsOf (h : RequestHead) (p : Parts) : Type 0 where
  pub method : p.method ≡ h.method
  pub target : p.target ≡ h.target
  pub close : p.close ≡ closes h
  pub length_is : body_length h ≡ Ok p.length

-- why the parts of a head aren't read
abbrev pub PartsStop : RequestHead → Stop → Type 0
PartsStop h stop.End = ⊥
PartsStop h (stop.Refused why) = body_length h ≡ Err why
PartsStop h stop.ReadFault = ⊥
PartsStop h stop.Memory = ⊤
