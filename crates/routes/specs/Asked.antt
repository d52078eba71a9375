-- What a request asks. Its faults go in the order NoPath, BadMethod, BadParam, BadId, of parameters the
-- first by the byte order of their names.
use Rattle.std.specs.Prelude.{◌&&◌, ℕ, List, Option, Some, None, Result, Ok, Err, codes, if◌then◌else◌, nat_le, bytes_eq}
use Rattle.std.specs.Str.{is_utf8}
use Rattle.pengine_id.specs.declared.Id.{Id}
use Rattle.pengine_id.specs.Layout.{id_read}
use Rattle.routes.specs.declared.asked.Asked.{Asked}
use Rattle.routes.specs.declared.asked.Asked.TheVariants.{Send, Pull, Abort, Destroy}
use Rattle.routes.specs.declared.asked.Format.{Format}
use Rattle.routes.specs.declared.asked.Format.TheVariants.{Json, JsonS}
use Rattle.routes.specs.declared.fault.Param.TheVariants as param
use Rattle.routes.specs.declared.fault.RouteFault.{RouteFault}
use Rattle.routes.specs.declared.fault.RouteFault.TheVariants.{NoPath, BadMethod, BadParam, BadId}
use Rattle.routes.specs.declared.endpoint.Endpoint.{Endpoint}
use Rattle.routes.specs.Params.{small_number}
use Rattle.routes.specs.Paths.{Text, endpoint_of, allowed, method_name}

infixl 10 ◌>>=◌
abbrev pub ◌>>=◌ : {A B : Type 0} → Result A RouteFault → (A → Result B RouteFault) → Result B RouteFault
Ok x >>= f = f x
Err e >>= f = Err e

-- the values of the parameters, by name
abbrev pub Values : Type 0
Values = Text → Option Text

abbrev pub format_by : Option Text → Result Format RouteFault
format_by None = Ok Json
format_by (Some w) =
    if bytes_eq w (codes "json") then Ok Json else (if bytes_eq w (codes "json-s") then Ok JsonS else Err (BadParam param.Format))

abbrev pub within_batch : Option ℕ → Result (Option ℕ) RouteFault
within_batch None = Err (BadParam param.Max)
within_batch (Some n) = if nat_le 1 n && nat_le n 64 then Ok (Some n) else Err (BadParam param.Max)

-- how many events at most: 1 to 64
abbrev pub max_by : Option Text → Result (Option ℕ) RouteFault
max_by None = Ok None
max_by (Some w) = within_batch (small_number w)

-- the text of the id, which has to be given
abbrev pub named_by : Option Text → Result Text RouteFault
named_by None = Err (BadParam param.Id)
named_by (Some w) = Ok w

abbrev pub or_bad_id : Option Id → Result Id RouteFault
or_bad_id None = Err BadId
or_bad_id (Some id) = Ok id

abbrev pub id_by : Text → Result Id RouteFault
id_by w = or_bad_id (id_read w)

-- a body that is text
abbrev pub body_by : List ℕ → Result Text RouteFault
body_by body = if is_utf8 body then Ok body else Err (BadParam param.Body)

abbrev pub send_from : (body : List ℕ) (name : Option Text) → Result Asked RouteFault
send_from body name = do
  text ← body_by body
  n ← named_by name
  id ← id_by n
  Ok (Send id text)

abbrev pub send_by : (body : List ℕ) → Values → Result Asked RouteFault
send_by body value = send_from body (value (codes "id"))

abbrev pub pull_from : (format name max : Option Text) → Result Asked RouteFault
pull_from format name max = do
  f ← format_by format
  n ← named_by name
  m ← max_by max
  id ← id_by n
  Ok (Pull id f m)

abbrev pub pull_by : Values → Result Asked RouteFault
pull_by value = pull_from (value (codes "format")) (value (codes "id")) (value (codes "max"))

abbrev pub abort_from : (name : Option Text) → Result Asked RouteFault
abort_from name = do
  n ← named_by name
  id ← id_by n
  Ok (Abort id)

abbrev pub abort_by : Values → Result Asked RouteFault
abort_by value = abort_from (value (codes "id"))

abbrev pub destroy_from : (format name : Option Text) → Result Asked RouteFault
destroy_from format name = do
  f ← format_by format
  n ← named_by name
  id ← id_by n
  Ok (Destroy id f)

abbrev pub destroy_by : Values → Result Asked RouteFault
destroy_by value = destroy_from (value (codes "format")) (value (codes "id"))

abbrev pub by_method : (method : Text) → Option Endpoint → Result Endpoint RouteFault
by_method method None = Err NoPath
by_method method (Some e) = if bytes_eq method (method_name (allowed e)) then Ok e else Err (BadMethod (allowed e))

-- the endpoint of a path, by its one method
abbrev pub endpoint_by : (method path : Text) → Result Endpoint RouteFault
endpoint_by method path = by_method method (endpoint_of path)
