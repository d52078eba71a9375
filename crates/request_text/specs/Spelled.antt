-- Which script bytes spell, or why they spell none; and which request a text spells.
use Rattle.std.specs.Prelude.{ℕ, zero, suc, ◌+◌, Bool, true, ◌==◌, List, [], ◌∷◌, map, length, take, drop, position, Option, Some, None, Result, Ok, Err, if◌then◌else◌, codes, bytes_eq}
use Rattle.std.specs.Str.{is_utf8}
use Rattle.std.specs.Str.Lines.{lines}
use Rattle.std.specs.Str.Lossy.{utf8_valid_len}
use Rattle.term_core.specs.Tree.{Tree}
use Rattle.prolog_read.specs.Clauses.{iso}
use Rattle.prolog_lex.specs.declared.token.LexFault.{LexFault}
use Rattle.prolog_lex.specs.declared.token.LexFault.TheVariants as lex
use Rattle.prolog_read.specs.declared.fault.ReadFault.{ReadFault}
use Rattle.prolog_read.specs.declared.fault.ReadFault.TheVariants as read
use Rattle.prolog_read.specs.Outcome.{ReadAs, term_read, clauses_read}
use Rattle.program.specs.declared.fault.ProgFault.{ProgFault}
use Rattle.program.specs.Loaded.{Loaded}
use Rattle.term_core.specs.declared.app.App.{App}
use Rattle.program.specs.Source.{first_fault, clauses_in, program_of}
use Rattle.lib_text.specs.Clauses.{library_clauses}
use Rattle.builtin_table.specs.Table.{rows_of_app, reserved_of}
use Rattle.event_core.specs.declared.settings.Settings.{Settings}
use Rattle.request_text.specs.declared.fault.RequestFault.{RequestFault}
use Rattle.request_text.specs.declared.fault.RequestFault.TheVariants.{Read, NotRequest}
use Rattle.request_text.specs.declared.fault.SpecFault.{SpecFault}
use Rattle.request_text.specs.declared.fault.SpecFault.TheVariants.{Source, Clause as ClauseFault}
use Rattle.request_text.specs.declared.fault.ScriptFault.{ScriptFault}
use Rattle.request_text.specs.declared.fault.ScriptFault.TheVariants.{Utf8, Spec, Line}
use Rattle.request_text.specs.declared.sent.Sent.{Sent}
use Rattle.request_text.specs.Requests.{named, request_of}
use Rattle.request_text.specs.Templates.{told_names}
use Rattle.std.specs.Option.{option_map}
use Rattle.request_text.specs.Limits.{default_settings}
use Rattle.request_text.specs.Options.{created}

abbrev pub ok_or : {A E : Type 0} → Option A → E → Result A E
ok_or None e = Err e
ok_or (Some a) e = Ok a

abbrev pub and_then : {A B E : Type 0} → Result A E → (A → Result B E) → Result B E
and_then (Ok a) f = f a
and_then (Err e) f = Err e

-- ---- a request

-- the request of a text of so many bytes that reads so
abbrev pub sent_of : ℕ → Result ReadAs ReadFault → Result Sent RequestFault
sent_of bytes (Ok x) = ok_or (option_map (named (told_names x.1)) (request_of bytes x.0)) NotRequest
sent_of bytes (Err e) = Err (Read e)

-- the request that a text spells
abbrev pub sent_in : List ℕ → Result Sent RequestFault
sent_in text = sent_of (length text) (term_read iso text)

-- ---- the parts of a script

-- the line between a source text and the request lines
abbrev pub is_rule : List ℕ → Bool
is_rule line = bytes_eq line (codes "---")

abbrev pub is_feed : ℕ → Bool
is_feed b = b == 10

-- the size of the first line with its line end
abbrev pub line_size : List ℕ → ℕ
line_size bs = elim (position is_feed bs) [ None ↦ length bs | Some n ↦ n + 1 ]

-- where the line begins that has so many lines before it
unfoldable pub line_start : ℕ → List ℕ → ℕ
line_start zero bs = 0
line_start (suc k) bs = line_size bs + line_start k (drop (line_size bs) bs)

pub record Parts : Type 0 where
  pub source : List ℕ
  pub requests : List ℕ

abbrev pub parts_at : Option ℕ → List ℕ → Parts
parts_at None bs = record { source = bs; requests = [] }
parts_at (Some k) bs =
    let rest : List ℕ = drop (line_start k bs) bs in
    record { source = take (line_start k bs) bs; requests = drop (line_size rest) rest }

-- what stands before the first line that is `---`, and what stands behind it; without such a line there are no requests
abbrev pub parts : List ℕ → Parts
parts bs = parts_at (position is_rule (lines bs)) bs

-- ---- the request lines

-- an empty line, or one that begins with `%`
abbrev pub is_passed : List ℕ → Bool
is_passed [] = true
is_passed (b ∷ bs) = b == 37

-- the byte at which a text was refused
abbrev pub lex_place : LexFault → ℕ
lex_place (lex.BadChar at) = at
lex_place (lex.Unclosed at) = at
lex_place (lex.FloatToken at) = at
lex_place (lex.IntRange at) = at
lex_place lex.Memory = 0

abbrev pub place_of : ReadFault → ℕ
place_of (read.Lex f) = lex_place f
place_of (read.Syntax at) = at
place_of (read.Nesting at) = at
place_of read.Memory = 0

-- the term of the line n, which reads so
abbrev pub line_term : ℕ → Result ReadAs ReadFault → Result Tree ScriptFault
line_term n (Ok x) = Ok x.0
line_term n (Err e) = Err (Line n (place_of e))

-- the request of the line n; a line that reads and is none is refused at its first byte
abbrev pub request_at : ℕ → List ℕ → Result Sent ScriptFault
request_at n l = and_then (line_term n (term_read iso l)) (λ t. ok_or (request_of (length l) t) (Line n 0))

abbrev pub put_first : {A : Type 0} → Result A ScriptFault → Result (List A) ScriptFault → Result (List A) ScriptFault
put_first (Ok a) (Ok xs) = Ok (a ∷ xs)
put_first (Ok a) (Err e) = Err e
put_first (Err e) r = Err e

-- the requests of lines, where the first line has the number n
unfoldable pub requests_in : ℕ → List (List ℕ) → Result (List Sent) ScriptFault
requests_in n [] = Ok []
requests_in n (l ∷ ls) = if is_passed l then requests_in (n + 1) ls else put_first (request_at n l) (requests_in (n + 1) ls)

-- the settings of a pengine, and what is sent to it
pub record Session : Type 0 where
  pub settings : Settings
  pub lines : List Sent

abbrev pub session_of : Settings → Result (List Sent) ScriptFault → Result Session ScriptFault
session_of s r = and_then r (λ ss. Ok (record { settings = s; lines = ss }))

abbrev pub settings_at : App → Result ReadAs ReadFault → Option Settings
settings_at app (Ok x) = created app x.0
settings_at app (Err e) = None

-- the lines from the first one on that isn't passed over, which may be create(Options)
abbrev pub session_from : App → Option Settings → ℕ → (l : List ℕ) → (ls : List (List ℕ)) → Result Session ScriptFault
session_from app (Some s) n l ls = session_of s (requests_in (n + 1) ls)
session_from app None n l ls = session_of (default_settings app) (requests_in n (l ∷ ls))

-- where the first line has the number n
unfoldable pub session_in : App → ℕ → List (List ℕ) → Result Session ScriptFault
session_in app n [] = Ok (record { settings = default_settings app; lines = [] })
session_in app n (l ∷ ls) = if is_passed l then session_in app (n + 1) ls else session_from app (settings_at app (term_read iso l)) n l ls

-- ---- the source text

abbrev pub program_checked : App → Option ProgFault → List Tree → Result Loaded SpecFault
program_checked app None ts = Ok (record { clauses = program_of (library_clauses app) (clauses_in true ts); app = app; declared = [] })
program_checked app (Some f) ts = Err (ClauseFault f)

abbrev pub program_from : App → Result (List ReadAs) ReadFault → Result Loaded SpecFault
program_from app (Ok xs) =
    let ts : List Tree = map (λ x. x.0) xs in
    program_checked app (first_fault (reserved_of (rows_of_app app)) 1 ts) ts
program_from app (Err e) = Err (Source e)

-- the program that a source text spells over the library of an application
abbrev pub program_in : App → List ℕ → Result Loaded SpecFault
program_in app text = program_from app (clauses_read iso text)

-- ---- the whole script

pub record Script : Type 0 where
  pub program : Loaded
  pub settings : Settings
  pub lines : List Sent

abbrev pub of_spec : {A : Type 0} → Result A SpecFault → Result A ScriptFault
of_spec (Ok a) = Ok a
of_spec (Err e) = Err (Spec e)

-- The source text is refused before the request lines.
abbrev pub script_of : App → Parts → Result Script ScriptFault
script_of app p =
    and_then (of_spec (program_in app p.source)) (λ l.
    and_then (session_in app 1 (lines p.requests)) (λ s.
    Ok (record { program = l; settings = s.settings; lines = s.lines })))

-- what the bytes of a script spell; bytes that aren't UTF-8 are refused behind their longest front that is
abbrev pub script : App → List ℕ → Result Script ScriptFault
script app bs = if is_utf8 bs then script_of app (parts bs) else Err (Utf8 (utf8_valid_len bs))
