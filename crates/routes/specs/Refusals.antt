-- What a refusal is answered: a status, and a JSON object with its keys in byte order (RFC 8259).
use Rattle.std.specs.Prelude.{ℕ, Bool, true, List, ◌++◌, Option, Some, None, option_map, codes, decimal}
use Rattle.term_core.specs.Apps.{app_name}
use Rattle.http_wire.specs.declared.message.HttpResponse.{HttpResponse}
use Rattle.http_wire.specs.declared.message.Why.{Why}
use Rattle.http_wire.specs.declared.message.Why.TheVariants as why
use Rattle.routes.specs.declared.endpoint.Allowed.{Allowed}
use Rattle.routes.specs.declared.fault.Param.{Param}
use Rattle.routes.specs.declared.fault.Param.TheVariants as param
use Rattle.routes.specs.declared.fault.RouteFault.{RouteFault}
use Rattle.routes.specs.declared.fault.RouteFault.TheVariants as fault
use Rattle.routes.specs.declared.refusal.Refusal.{Refusal}
use Rattle.routes.specs.declared.refusal.Refusal.TheVariants as refusal
use Rattle.routes.specs.Paths.{method_name}

abbrev pub param_name : Param → List ℕ
param_name param.Application = codes "application"
param_name param.Ask = codes "ask"
param_name param.Body = codes "body"
param_name param.Chunk = codes "chunk"
param_name param.Destroy = codes "destroy"
param_name param.Format = codes "format"
param_name param.Id = codes "id"
param_name param.Limit = codes "limit"
param_name param.Max = codes "max"
param_name param.Names = codes "names"
param_name param.SrcText = codes "src_text"
param_name param.Template = codes "template"

abbrev pub unheard_status : Why → ℕ
unheard_status why.BadHead = 400
unheard_status why.Truncated = 400
unheard_status why.NoLength = 411
unheard_status why.BodyTooLong = 413
unheard_status why.HeadTooLong = 431

abbrev pub unheard_name : Why → List ℕ
unheard_name why.BadHead = codes "bad_head"
unheard_name why.Truncated = codes "truncated"
unheard_name why.NoLength = codes "no_length"
unheard_name why.BodyTooLong = codes "body_too_long"
unheard_name why.HeadTooLong = codes "head_too_long"

abbrev pub status_of : Refusal → ℕ
status_of (refusal.Unheard w) = unheard_status w
status_of refusal.NoPath = 404
status_of (refusal.BadMethod allow) = 405
status_of (refusal.BadParam _) = 400
status_of refusal.BadId = 400
status_of (refusal.Source at) = 400
status_of (refusal.Clause clause) = 400
status_of (refusal.Text at) = 400
status_of refusal.NotRequest = 400
status_of refusal.NoSuch = 404
status_of refusal.MailboxFull = 429
status_of (refusal.NoSlot app live) = 503
status_of (refusal.JournalFull entries bytes) = 503
status_of refusal.Memory = 503

-- the method that the answer names
abbrev pub allow_of : Refusal → Option Allowed
allow_of (refusal.BadMethod allow) = Some allow
allow_of _ = None

-- `{"error":".."}`
abbrev pub plain_body : List ℕ → List ℕ
plain_body name = codes "{\"error\":\"" ++ name ++ codes "\"}"

-- a number under a key, and the error
abbrev pub numbered_body : (key : List ℕ) (n : ℕ) (name : List ℕ) → List ℕ
numbered_body key n name = codes "{\"" ++ key ++ codes "\":" ++ decimal n ++ codes ",\"error\":\"" ++ name ++ codes "\"}"

abbrev pub param_body : List ℕ → List ℕ
param_body name = codes "{\"error\":\"bad_param\",\"name\":\"" ++ name ++ codes "\"}"

abbrev pub slot_body : (name : List ℕ) (live : ℕ) → List ℕ
slot_body name live =
    codes "{\"application\":\"" ++ (name ++ (codes "\",\"error\":\"no_slot\",\"live\":" ++ (decimal live ++ codes "}")))

abbrev pub journal_body : (entries bytes : ℕ) → List ℕ
journal_body entries bytes =
    codes "{\"bytes\":" ++ (decimal bytes ++ (codes ",\"entries\":" ++ (decimal entries ++ codes ",\"error\":\"journal_full\"}")))

abbrev pub body_of : Refusal → List ℕ
body_of (refusal.Unheard w) = plain_body (unheard_name w)
body_of refusal.NoPath = plain_body (codes "no_path")
body_of (refusal.BadMethod allow) = plain_body (codes "bad_method")
body_of (refusal.BadParam name) = param_body (param_name name)
body_of refusal.BadId = plain_body (codes "bad_id")
body_of (refusal.Source at) = numbered_body (codes "at") at (codes "source")
body_of (refusal.Clause clause) = numbered_body (codes "clause") clause (codes "source")
body_of (refusal.Text at) = numbered_body (codes "at") at (codes "text")
body_of refusal.NotRequest = plain_body (codes "not_request")
body_of refusal.NoSuch = plain_body (codes "no_such")
body_of refusal.MailboxFull = plain_body (codes "mailbox_full")
body_of (refusal.NoSlot app live) = slot_body (app_name app) live
body_of (refusal.JournalFull entries bytes) = journal_body entries bytes
body_of refusal.Memory = plain_body (codes "memory")

-- after a request that isn't heard the connection is closed
abbrev pub closes : Refusal → (close : Bool) → Bool
closes (refusal.Unheard w) close = true
closes _ close = close

abbrev pub refusal_of : RouteFault → Refusal
refusal_of fault.NoPath = refusal.NoPath
refusal_of (fault.BadMethod allow) = refusal.BadMethod allow
refusal_of (fault.BadParam name) = refusal.BadParam name
refusal_of fault.BadId = refusal.BadId
refusal_of fault.Memory = refusal.Memory

-- the answer to a refused request, which may ask to close the connection
abbrev pub response_of : Refusal → (close : Bool) → HttpResponse
response_of r close =
    record { status = status_of r; allow = option_map method_name (allow_of r); close = closes r close; body = body_of r }
