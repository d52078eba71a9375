-- What a creation asks: the members of its object (RFC 8259, section 4; of a name that stands twice the last
-- value counts). Members that are wrong are told by the byte order of their names.
use Rattle.std.specs.Prelude.{◌&&◌, ℕ, Bool, true, false, List, [], min, Option, Some, None, option_and_then, codes, if◌then◌else◌, is_some, nat_le, Result, Ok, Err}
use Rattle.std.specs.Str.{is_utf8}
use Rattle.serde_json.specs.Data.{Data}
use Rattle.serde_json.specs.Find.{get, as_number, as_object, as_u64, as_bool, as_str}
use Rattle.serde_json.specs.Read.{read}
use Rattle.term_core.specs.Apps.{app_named}
use Rattle.term_core.specs.declared.app.App.{App}
use Rattle.term_core.specs.declared.app.App.TheVariants.{Sandbox, School, Numbers}
use Rattle.routes.specs.declared.creation.Creation.{Creation}
use Rattle.routes.specs.declared.creation.Settings.{Settings}
use Rattle.routes.specs.declared.fault.Param.{Param}
use Rattle.routes.specs.declared.fault.Param.TheVariants as param
use Rattle.routes.specs.declared.fault.RouteFault.{RouteFault}
use Rattle.routes.specs.declared.fault.RouteFault.TheVariants.{BadParam}
use Rattle.routes.specs.Asked.{◌>>=◌}
use Rattle.routes.specs.Paths.{Text}

-- the most steps that a query of the application makes
abbrev pub greatest_limit : App → ℕ
greatest_limit Sandbox = 100000000
greatest_limit School = 100000
greatest_limit Numbers = 100000000

-- the steps that a query of the application makes where it is given no limit
abbrev pub default_limit : App → ℕ
default_limit app = min 1000000 (greatest_limit app)

abbrev pub or_bad : {A : Type 0} → Param → Option A → Result A RouteFault
or_bad p None = Err (BadParam p)
or_bad p (Some x) = Ok x

-- the application of a name; the sandbox where none is given
abbrev pub app_by : Option Data → Result App RouteFault
app_by None = Ok Sandbox
app_by (Some d) = or_bad param.Application (option_and_then app_named (as_str d))

-- a text, which need not be given
abbrev pub text_by : Param → Option Data → Result (Option Text) RouteFault
text_by p None = Ok None
text_by p (Some d) = or_bad p (option_and_then (λ s. Some (Some s)) (as_str d))

abbrev pub at_most : (greatest : ℕ) → ℕ → Option ℕ
at_most greatest n = if nat_le 1 n && nat_le n greatest then Some n else None

-- an integer from 1
abbrev pub number_by : Param → (default greatest : ℕ) → Option Data → Result ℕ RouteFault
number_by p default greatest None = Ok default
number_by p default greatest (Some d) = or_bad p (option_and_then (at_most greatest) (option_and_then as_u64 (as_number d)))

abbrev pub flag_by : Param → (default : Bool) → Option Data → Result Bool RouteFault
flag_by p default None = Ok default
flag_by p default (Some d) = or_bad p (as_bool d)

abbrev pub settings_by : App → (Text → Option Data) → Result Settings RouteFault
settings_by app member = do
  chunk ← number_by param.Chunk 1 1000 (member (codes "chunk"))
  destroys ← flag_by param.Destroy true (member (codes "destroy"))
  limit ← number_by param.Limit (default_limit app) (greatest_limit app) (member (codes "limit"))
  names ← flag_by param.Names false (member (codes "names"))
  Ok (record { chunk = chunk; destroys = destroys; limit = limit; names = names })

abbrev pub text_or_none : Option Text → Text
text_or_none None = []
text_or_none (Some s) = s

-- an object's members
abbrev pub members_by : (Text → Option Data) → Result Creation RouteFault
members_by member = do
  app ← app_by (member (codes "application"))
  ask ← text_by param.Ask (member (codes "ask"))
  s ← settings_by app member
  src ← text_by param.SrcText (member (codes "src_text"))
  template ← text_by param.Template (member (codes "template"))
  Ok (record { app = app; ask = ask; template = template; src_text = text_or_none src; settings = s })

abbrev pub value_by : Data → Result Creation RouteFault
value_by d = if is_some (as_object d) then members_by (λ k. get k d) else Err (BadParam param.Body)

abbrev pub json_of : List ℕ → Option Data
json_of body = if is_utf8 body then read body else None

-- what a creation with this body asks
abbrev pub creation_by : (body : List ℕ) → Result Creation RouteFault
creation_by body = or_bad param.Body (json_of body) >>= value_by
