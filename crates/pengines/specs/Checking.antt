-- What the command `check` says of a goal over a source text.
use Rattle.std.specs.Prelude.{◌≡◌, ◌≤◌, ◌⊎◌, ℕ, List, ◌++◌, length, if◌then◌else◌, codes, Option, Some, None, Result, Ok, Err}
use Rattle.std.specs.Str.{is_utf8}
use Rattle.std.specs.Str.Lossy.{utf8_valid_len}
use Rattle.std.specs.Io.KnownBytes.{Appends}
use Rattle.term_core.specs.Tree.{Tree}
use Rattle.term_core.specs.declared.app.App.TheVariants.{Sandbox}
use Rattle.prolog_read.specs.declared.fault.ReadFault.{ReadFault}
use Rattle.prolog_read.specs.Clauses.{iso}
use Rattle.prolog_read.specs.Outcome.{ReadAs, term_read}
use Rattle.prolog_write.specs.declared.mode.Mode.TheVariants.{Quoted}
use Rattle.prolog_write.specs.Text.{text as whole_text}
use Rattle.program.specs.Loaded.{Loaded}
use Rattle.request_text.specs.declared.fault.ScriptFault.{ScriptFault}
use Rattle.request_text.specs.declared.fault.ScriptFault.TheVariants.{Utf8}
use Rattle.request_text.specs.Spelled.{place_of, program_in, of_spec}
use Rattle.sandbox_walk.specs.declared.unsafe_goal.Unsafe.{Unsafe}
use Rattle.sandbox_walk.specs.Computed.{verdict_over}
use Rattle.sandbox_walk.specs.Formal.{formal_of}
use Rattle.pengines.specs.declared.refusal.Refusal.{Refusal}
use Rattle.pengines.specs.declared.refusal.Refusal.TheVariants.{Script, Goal}
use Rattle.pengines.specs.Input.{ReadsAll, max_input}
use Rattle.pengines.specs.Output.{AppendsPart, Says, line}
use Rattle.pengines.specs.Refusal.{text_of}
use Rattle.pengines.specs.Session.{Told, Unchanged, IsTooLong}

-- the program of an input that is a source text whole
abbrev pub source_in : List ℕ → Result Loaded ScriptFault
source_in input = if is_utf8 input then of_spec (program_in Sandbox input) else Err (Utf8 (utf8_valid_len input))

-- the goal of a text that reads so
abbrev pub goal_read : Result ReadAs ReadFault → Result Tree Refusal
goal_read (Ok x) = Ok x.0
goal_read (Err e) = Err (Goal (place_of e))

abbrev pub verdict_of : Loaded → Result Tree Refusal → Result (Option Unsafe) Refusal
verdict_of program (Ok goal) = Ok (verdict_over program goal)
verdict_of program (Err e) = Err e

-- The source is refused before the goal.
abbrev pub judged_over : Result Loaded ScriptFault → (goal : List ℕ) → Result (Option Unsafe) Refusal
judged_over (Ok program) goal = verdict_of program (goal_read (term_read iso goal))
judged_over (Err e) goal = Err (Script e)

-- the sandbox's verdict on the goal that a text spells, over the program that an input spells
abbrev pub judged : (input goal : List ℕ) → Result (Option Unsafe) Refusal
judged input goal = judged_over (source_in input) goal

abbrev pub verdict_text : Option Unsafe → List ℕ
verdict_text None = codes "safe"
verdict_text (Some e) = codes "unsafe " ++ whole_text Quoted (formal_of e)

-- The source was read to its end, and this is the outcome of its bytes and the goal.
pub record Judges {S : Type 0} (left : Told S) (old new : S) (goal : List ℕ) (outcome : Result (Option Unsafe) Refusal) : Type 0 where
  pub bytes : List ℕ
  pub whole : ReadsAll (left old) (left new) bytes
  pub size : length bytes ≤ max_input
  pub is : judged bytes goal ≡ outcome

-- The bytes written are the line of the verdict.
pub record Checked {S K : Type 0} (left : Told S) (taken : Told K) (src src' : S) (out out' : K) (goal : List ℕ) (verdict : Option Unsafe) : Type 0 where
  pub judges : Judges left src src' goal (Ok verdict)
  pub written : Appends (taken out) (taken out') (line (verdict_text verdict))

-- The bytes written are a first part of the line of the verdict.
pub record CheckedPart {S K : Type 0} (left : Told S) (taken : Told K) (src src' : S) (out out' : K) (goal : List ℕ) : Type 0 where
  pub verdict : Option Unsafe
  pub judges : Judges left src src' goal (Ok verdict)
  pub written : AppendsPart (taken out) (taken out') (line (verdict_text verdict))

-- The bytes written are the line of this refusal of the goal.
pub record SaysUnsafe {S K X : Type 0} (left : Told S) (taken : Told K) (told : Told X) (src src' : S) (out out' : K) (err err' : X) (goal : List ℕ) : Type 0 where
  pub verdict : Unsafe
  pub checked : Checked left taken src src' out out' goal (Some verdict)
  pub quiet : Unchanged told err err'

-- The source text or the goal is refused, and the sink was told why.
pub record RefusesGoal {S X : Type 0} (left : Told S) (taken : Told X) (faults : X → ℕ) (src src' : S) (err err' : X) (goal : List ℕ) : Type 0 where
  pub refusal : Refusal
  pub refused : Judges left src src' goal (Err refusal)
  pub said : Says taken faults err err' (line (text_of refusal))

-- The goal isn't safe and the line says why; or there is no verdict on it, and nothing is written but the refusal.
abbrev pub CheckRefuses : {S K X : Type 0} → Told S → Told K → Told X → (X → ℕ) → S → S → K → K → X → X → List ℕ → Type 0
CheckRefuses left taken told faults src src' out out' err err' goal =
    SaysUnsafe left taken told src src' out out' err err' goal
    ⊎ (Unchanged taken out out'
    × ((IsTooLong left src src' × Says told faults err err' (line (codes "pengines: input too long")))
    ⊎ RefusesGoal left told faults src src' err err' goal))
