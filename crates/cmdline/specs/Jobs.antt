-- The commands, and what their words ask for.
use Rattle.std.specs.Prelude.{ℕ, List, [], ◌∷◌, Option, Some, None, option_and_then, cond, codes, bytes_eq}
use Rattle.term_core.specs.declared.app.App.{App}
use Rattle.cmdline.specs.declared.verb.Verb.{Verb}
use Rattle.cmdline.specs.declared.verb.Verb.TheVariants as verb
use Rattle.cmdline.specs.declared.command.Command.{Command}
use Rattle.cmdline.specs.declared.command.Command.TheVariants as command
use Rattle.cmdline.specs.Words.{Text, Syntax, given_by, given_for}
use Rattle.cmdline.specs.Numbers.{number, number_or, some_text, application, greatest_limit, default_limit}

-- what a command is to do
pub data Job : Type 0 where
  session : Job
  local : (goal : Text) (limit : ℕ) (app : App) → Job
  check : (goal : Text) (app : App) → Job
  demo : (people chunk : ℕ) → Job
  serve : (port doors workers slots connections idle : ℕ) → Job
  rpc : (host : Text) (port : ℕ) (goal : Text) (chunk limit : ℕ) (app : App) → Job

-- the job that the code's command is
abbrev pub job_of : Command → Job
job_of command.Session = session
job_of (command.Local goal limit app) = local goal.now limit app
job_of (command.Check goal app) = check goal.now app
job_of (command.Demo people chunk) = demo people chunk
job_of (command.Serve port doors workers slots connections idle) = serve port doors workers slots connections idle
job_of (command.Rpc host port goal chunk limit app) = rpc host.now port goal.now chunk limit app

-- ---- names and syntax

abbrev pub verb_named : Text → Option Verb
verb_named w = cond (bytes_eq w (codes "session")) (Some verb.Session)
    (cond (bytes_eq w (codes "local")) (Some verb.Local)
    (cond (bytes_eq w (codes "check")) (Some verb.Check)
    (cond (bytes_eq w (codes "demo")) (Some verb.Demo)
    (cond (bytes_eq w (codes "serve")) (Some verb.Serve)
    (cond (bytes_eq w (codes "rpc")) (Some verb.Rpc) None)))))

abbrev pub operands_of : Verb → List Text
operands_of verb.Session = []
operands_of verb.Local = codes "goal" ∷ []
operands_of verb.Check = codes "goal" ∷ []
operands_of verb.Demo = codes "people" ∷ []
operands_of verb.Serve = []
operands_of verb.Rpc = codes "host" ∷ codes "port" ∷ codes "goal" ∷ []

abbrev pub options_of : Verb → List Text
options_of verb.Session = []
options_of verb.Local = codes "limit" ∷ codes "application" ∷ []
options_of verb.Check = codes "application" ∷ []
options_of verb.Demo = codes "chunk" ∷ []
options_of verb.Serve = codes "port" ∷ codes "doors" ∷ codes "workers" ∷ codes "slots" ∷ codes "connections" ∷ codes "idle" ∷ []
options_of verb.Rpc = codes "chunk" ∷ codes "limit" ∷ codes "application" ∷ []

abbrev pub syntax_of : Verb → Syntax
syntax_of v = record { operands = operands_of v; options = options_of v }

-- ---- jobs, by what is given under each name

infixl 10 ◌>>=◌
abbrev pub ◌>>=◌ : {A B : Type 0} → Option A → (A → Option B) → Option B
o >>= f = option_and_then f o

abbrev pub Values : Type 0
Values = Text → Option Text

abbrev pub local_by : Values → Option Job
local_by value = do
  goal ← some_text (value (codes "goal"))
  app ← application (value (codes "application"))
  limit ← number_or (default_limit app) 1 (greatest_limit app) (value (codes "limit"))
  Some (local goal limit app)

abbrev pub check_by : Values → Option Job
check_by value = do
  goal ← some_text (value (codes "goal"))
  app ← application (value (codes "application"))
  Some (check goal app)

abbrev pub demo_by : Values → Option Job
demo_by value = do
  people ← number 1 10000 (value (codes "people"))
  chunk ← number_or 100 1 1000 (value (codes "chunk"))
  Some (demo people chunk)

abbrev pub serve_by : Values → Option Job
serve_by value = do
  port ← number 1 65535 (value (codes "port"))
  doors ← number_or 16 1 64 (value (codes "doors"))
  workers ← number_or 4 0 64 (value (codes "workers"))
  slots ← number_or 256 1 256 (value (codes "slots"))
  connections ← number_or 1000000 1 1000000 (value (codes "connections"))
  idle ← number_or 0 0 999999999 (value (codes "idle"))
  Some (serve port doors workers slots connections idle)

abbrev pub rpc_by : Values → Option Job
rpc_by value = do
  host ← some_text (value (codes "host"))
  port ← number 1 65535 (value (codes "port"))
  goal ← some_text (value (codes "goal"))
  app ← application (value (codes "application"))
  chunk ← number_or 1 1 1000 (value (codes "chunk"))
  limit ← number_or (default_limit app) 1 (greatest_limit app) (value (codes "limit"))
  Some (rpc host port goal chunk limit app)

abbrev pub job_by : Verb → Values → Option Job
job_by verb.Session value = Some session
job_by verb.Local value = local_by value
job_by verb.Check value = check_by value
job_by verb.Demo value = demo_by value
job_by verb.Serve value = serve_by value
job_by verb.Rpc value = rpc_by value

-- ---- all the words

-- what the words behind the command's name ask for
abbrev pub job_with : Verb → List Text → Option Job
job_with v ws = do
  gs ← given_by (syntax_of v) ws
  job_by v (given_for (operands_of v) gs)

-- what the words ask for; None where they are refused
abbrev pub job_asked : List Text → Option Job
job_asked [] = None
job_asked (w ∷ ws) = do
  v ← verb_named w
  job_with v ws

-- the port and the number of doors of a `serve`
abbrev pub doors_of : Option Job → Option (ℕ × ℕ)
doors_of (Some (serve port doors workers slots connections idle)) = Some (port, doors)
doors_of _ = None
