-- What the options of a new pengine spell, or why they spell nothing (Lager and Wielemaker, TPLP 2014).
use Rattle.std.specs.Prelude.{ℕ, ◌+◌, List, length, Option, Some, None, Result, Ok, Err}
use Rattle.prolog_read.specs.Clauses.{iso}
use Rattle.prolog_read.specs.declared.fault.ReadFault.{ReadFault}
use Rattle.prolog_read.specs.Outcome.{ReadAs, term_read}
use Rattle.program.specs.Loaded.{Loaded}
use Rattle.term_core.specs.declared.app.App.{App}
use Rattle.event_core.specs.declared.settings.Settings.{Settings}
use Rattle.event_core.specs.declared.request.Ask as request
use Rattle.request_text.specs.declared.fault.SpecFault.{SpecFault}
use Rattle.request_text.specs.declared.fault.SpecFault.TheVariants.{Ask, Template}
use Rattle.request_text.specs.declared.spec.Options.{Options}
use Rattle.request_text.specs.Spelled.{and_then, program_in}
use Rattle.request_text.specs.Templates.{beside, told_names, names_beside}

-- a text's term; where the text can't be read, the fault is the one of a query or of a template
abbrev pub read_for : (ReadFault → SpecFault) → Result ReadAs ReadFault → Result ReadAs SpecFault
read_for refused (Ok x) = Ok x
read_for refused (Err e) = Err (refused e)

-- ---- the first query

-- The template, and the names that answers carry. Without a text of its own the template is the goal.
abbrev pub template_in : (goal : ReadAs) → Option (List ℕ) → Result ReadAs SpecFault
template_in goal None = Ok (goal.0, told_names goal.1)
template_in goal (Some text) = and_then (read_for Template (term_read iso text)) (λ t. Ok (beside goal t, names_beside goal t))

abbrev pub size_of : Option (List ℕ) → ℕ
size_of None = 0
size_of (Some text) = length text

-- The chunk 0 stands for the pengine's.
abbrev pub ask_of_goal : (bytes : ℕ) → (goal : ReadAs) → (template : Option (List ℕ)) → Result request.Ask SpecFault
ask_of_goal bytes goal template = and_then (template_in goal template) (λ t. Ok (record { goal = goal.0; template = t.0; names = t.1; chunk = 0; bytes = bytes }))

abbrev pub ask_in : (goal : List ℕ) → (template : Option (List ℕ)) → Result request.Ask SpecFault
ask_in text template = and_then (read_for Ask (term_read iso text)) (λ g. ask_of_goal (length text + size_of template) g template)

-- where there is no query the template isn't read
abbrev pub first_ask : (goal template : Option (List ℕ)) → Result (Option request.Ask) SpecFault
first_ask None template = Ok None
first_ask (Some text) template = and_then (ask_in text template) (λ a. Ok (Some a))

-- ---- the whole

-- what a pengine is made with
pub record Creation : Type 0 where
  pub program : Loaded
  pub ask : Option request.Ask
  pub settings : Settings
  pub bytes : ℕ

abbrev pub settings_asked : Options → Settings
settings_asked o = record { chunk = o.chunk; limit = o.limit; destroys = o.destroy; names = o.names }

abbrev pub creation_with : Options → Loaded → Option request.Ask → Creation
creation_with o l a = record { program = l; ask = a; settings = settings_asked o; bytes = length o.src_text }

-- The source text is refused before the query, and the query before the template.
abbrev pub creation : App → Options → Result Creation SpecFault
creation app o =
    and_then (program_in app o.src_text) (λ l.
    and_then (first_ask o.ask o.template) (λ a.
    Ok (creation_with o l a)))
