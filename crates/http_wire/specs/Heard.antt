-- The requests of a stream (RFC 9112).
use Rattle.std.specs.Prelude.{◌≡◌, ◌⊎◌, ℕ, ◌<◌, ◌≤◌, List, [], ◌∷◌, ◌++◌, length, Option, Some, None, Ok, Err, ⊤}
use Rattle.std.specs.Io.KnownBytes.{Consumes}
use Rattle.httparse.specs.Grammar.{RequestHead, print_request, ReadsRequest, HasNoRequest, NeverHasRequest, MayBecomeRequest}
use Rattle.httparse.specs.Spans.{RequestExceeds, RequestOverflows}
use Rattle.http_wire.specs.declared.message.HttpRequest.{HttpRequest}
use Rattle.http_wire.specs.declared.message.Why.{Why}
use Rattle.http_wire.specs.declared.message.Why.TheVariants.{BadHead, HeadTooLong, NoLength, BodyTooLong, Truncated}
use Rattle.http_wire.specs.declared.message.Stop.{Stop}
use Rattle.http_wire.specs.declared.message.Stop.TheVariants as stop
use Rattle.http_wire.specs.declared.message.Got.{Got}
use Rattle.http_wire.specs.declared.message.Got.TheVariants as got
use Rattle.http_wire.specs.Framing.{body_length, closes}
use Rattle.http_wire.specs.Limits.{head_limit, field_limit, front}

-- The bytes begin with this head, which is within the limits.
pub record IsWhole (bytes : List ℕ) (h : RequestHead) (after : List ℕ) : Type 0 where
  pub reads : ReadsRequest bytes h after
  pub short : length (print_request h) ≤ head_limit
  pub few : length h.fields ≤ field_limit

-- The bytes begin with this request, and then come the rest.
pub record First (bytes : List ℕ) (r : HttpRequest) (rest : List ℕ) : Type 0 where
  pub head : RequestHead
  pub after : List ℕ
  pub whole : IsWhole bytes head after
  pub framed : body_length head ≡ Ok (length r.body)
  pub body : after ≡ r.body ++ rest
  pub method : r.method ≡ head.method
  pub target : r.target ≡ head.target
  pub close : r.close ≡ closes head

-- no request stands whole at their front
abbrev pub HasNone : List ℕ → Type 0
HasNone bytes = (r : HttpRequest) (rest : List ℕ) → First bytes r rest → ⊥

-- a whole head says why its body isn't read
abbrev pub IsFramedTo : List ℕ → Why → Type 0
IsFramedTo bytes why = (h : RequestHead) × (after : List ℕ) × IsWhole bytes h after × (body_length h ≡ Err why)

-- no whole head came in so many bytes, which might have become one
abbrev pub RunsOn : List ℕ → Type 0
RunsOn bytes = (head_limit ≤ length bytes) × HasNoRequest (front bytes) × MayBecomeRequest (front bytes)

-- the stream ended within a head
abbrev pub LacksHead : List ℕ → Type 0
LacksHead bytes = (0 < length bytes) × (length bytes < head_limit) × HasNoRequest bytes × MayBecomeRequest bytes

-- the stream ended within a body
abbrev pub LacksBody : List ℕ → Type 0
LacksBody bytes = (h : RequestHead) × (after : List ℕ) × (n : ℕ) × IsWhole bytes h after × (body_length h ≡ Ok n) × (length after < n)

-- The bytes, to the end of the stream, don't begin with a request, for this reason. Two points leave
-- both of two reasons open: where the reading stops inside a request target, and where a field too many
-- stands before a fault of the head.
abbrev pub IsRefused : List ℕ → Why → Type 0
IsRefused bytes BadHead = NeverHasRequest (front bytes) ⊎ IsFramedTo bytes BadHead
IsRefused bytes HeadTooLong = RunsOn bytes ⊎ (RequestExceeds field_limit (front bytes) × RequestOverflows field_limit (front bytes))
IsRefused bytes NoLength = IsFramedTo bytes NoLength
IsRefused bytes BodyTooLong = IsFramedTo bytes BodyTooLong
IsRefused bytes Truncated = LacksHead bytes ⊎ LacksBody bytes

-- why the requests of a stream end
pub data Reason : Type 0 where
  AtEnd : Reason
  RefusedFor : Why → Reason

-- the bytes, to the end of the stream, don't begin with a request, for this reason
abbrev pub EndsBy : List ℕ → Reason → Type 0
EndsBy bytes AtEnd = bytes ≡ []
EndsBy bytes (RefusedFor why) = IsRefused bytes why

-- the bytes begin with these requests, and then come the rest
abbrev pub Begun : List ℕ → List HttpRequest → (rest : List ℕ) → Type 0
Begun bytes [] rest = rest ≡ bytes
Begun bytes (r ∷ rs) rest = (others : List ℕ) × First bytes r others × Begun others rs rest

-- the requests of a stream are these, and they end for this reason
abbrev pub Heard : List ℕ → List HttpRequest → Reason → Type 0
Heard bytes rs why = (rest : List ℕ) × Begun bytes rs rest × EndsBy rest why

-- why reading stops at the bytes that were held and read; `left` is what the stream still has
abbrev pub Stops : (bytes : List ℕ) → Stop → (left : Option (List ℕ)) → Type 0
Stops bytes stop.End left = (others : List ℕ) → left ≡ Some others → EndsBy (bytes ++ others) AtEnd
Stops bytes (stop.Refused why) left = (others : List ℕ) → left ≡ Some others → EndsBy (bytes ++ others) (RefusedFor why)
Stops bytes stop.ReadFault left = HasNone bytes
Stops bytes stop.Memory left = ⊤

-- what the bytes that were held and read are
abbrev pub Gets : (bytes : List ℕ) → Got → (held : List ℕ) → (left : Option (List ℕ)) → Type 0
Gets bytes (got.Request r) held left = First bytes r held
Gets bytes got.End held left = Stops bytes stop.End left
Gets bytes (got.Refused why) held left = Stops bytes (stop.Refused why) left
Gets bytes got.ReadFault held left = Stops bytes stop.ReadFault left
Gets bytes got.Memory held left = ⊤

-- The next request of the bytes held and the bytes left, however these are cut. What was read beyond it
-- is held.
pub record IsNext (left left' : Option (List ℕ)) (held : List ℕ) (got : Got) (held' : List ℕ) : Type 0 where
  pub read : List ℕ
  pub consumed : Consumes left left' read
  pub gets : Gets (held ++ read) got held' left'

-- answers of one reader after the other: these requests, and then the last answer
abbrev pub Calls : (left held : List ℕ) → List HttpRequest → Got → Type 0
Calls left held [] last = (left' : List ℕ) × (held' : List ℕ) × IsNext (Some left) (Some left') held last held'
Calls left held (r ∷ rs) last =
    (left' : List ℕ) × (held' : List ℕ) × IsNext (Some left) (Some left') held (got.Request r) held' × Calls left' held' rs last

-- the reason that an answer gives
abbrev pub reason_of : Got → Option Reason
reason_of (got.Request r) = None
reason_of got.End = Some AtEnd
reason_of (got.Refused why) = Some (RefusedFor why)
reason_of got.ReadFault = None
reason_of got.Memory = None

-- The answers of a reader are what the whole stream has, however its bytes were cut.
abbrev pub CallsHearTheStream : Type 0
CallsHearTheStream =
    (left held : List ℕ) (rs : List HttpRequest) (last : Got) (why : Reason) → Calls left held rs last → reason_of last ≡ Some why
    → Heard (held ++ left) rs why

-- A stream has one list of requests.
abbrev pub StreamsAreHeardOnce : Type 0
StreamsAreHeardOnce =
    (bytes : List ℕ) (rs qs : List HttpRequest) (why other : Reason) → Heard bytes rs why → Heard bytes qs other → rs ≡ qs
