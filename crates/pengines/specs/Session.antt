-- What the command `session` does with its source and its sink.
use Rattle.std.specs.Prelude.{◌≡◌, ◌≤◌, ◌<◌, ℕ, List, Option, Ok, Err, length}
use Rattle.std.specs.Io.KnownBytes.{Consumes, Appends}
use Rattle.pengines.specs.Input.{ReadsAll, max_input}
use Rattle.pengines.specs.Output.{AppendsPart, Says, SaysMemory, line, text_of_lines}
use Rattle.pengines.specs.Refusal.{refusal_text}
use Rattle.request_text.specs.declared.fault.ScriptFault.{ScriptFault}
use Rattle.term_core.specs.declared.app.App.TheVariants.{Sandbox}
use Rattle.request_text.specs.Spelled.{Script, script}
use Rattle.request_text.specs.Lines.{script_lines}

-- the bytes that a source has left, or that a sink has taken, where they are told
abbrev pub Told : Type 0 → Type 0
Told T = T → Option (List ℕ)

-- It is told as before.
abbrev pub Unchanged : {T : Type 0} → Told T → T → T → Type 0
Unchanged told old new = told new ≡ told old

-- The source was read to its end, and its bytes spell a script that prints these lines.
pub record ReadsScript {S : Type 0} (left : Told S) (old new : S) (lines : List (List ℕ)) : Type 0 where
  pub bytes : List ℕ
  pub whole : ReadsAll (left old) (left new) bytes
  pub size : length bytes ≤ max_input
  pub read : Script
  pub spelled : script Sandbox bytes ≡ Ok read
  pub printed : lines ≡ script_lines read

-- The source was read to its end, and its bytes are refused so.
pub record IsRefused {S : Type 0} (left : Told S) (old new : S) (fault : ScriptFault) : Type 0 where
  pub bytes : List ℕ
  pub whole : ReadsAll (left old) (left new) bytes
  pub size : length bytes ≤ max_input
  pub refused : script Sandbox bytes ≡ Err fault

-- More bytes were read than an input may have.
pub record IsTooLong {S : Type 0} (left : Told S) (old new : S) : Type 0 where
  pub bytes : List ℕ
  pub read : Consumes (left old) (left new) bytes
  pub long : max_input < length bytes

-- The bytes written are the lines of the script that was read.
pub record Done {S K : Type 0} (left : Told S) (taken : Told K) (src src' : S) (out out' : K) : Type 0 where
  pub lines : List (List ℕ)
  pub read : ReadsScript left src src' lines
  pub written : Appends (taken out) (taken out') (text_of_lines lines)

-- The bytes written are a first part of the lines of the script that was read.
pub record DonePart {S K : Type 0} (left : Told S) (taken : Told K) (src src' : S) (out out' : K) : Type 0 where
  pub lines : List (List ℕ)
  pub read : ReadsScript left src src' lines
  pub written : AppendsPart (taken out) (taken out') (text_of_lines lines)

-- The bytes written are some first lines of the script that was read, and the line `memory` in place of the rest.
pub record DoneToMemory {S K : Type 0} (left : Told S) (taken : Told K) (faults : K → ℕ) (src src' : S) (out out' : K) : Type 0 where
  pub lines : List (List ℕ)
  pub read : ReadsScript left src src' lines
  pub written : SaysMemory taken faults out out' lines

-- The script that was read is refused, and the sink was told why.
pub record Refuses {S X : Type 0} (left : Told S) (taken : Told X) (faults : X → ℕ) (src src' : S) (err err' : X) : Type 0 where
  pub fault : ScriptFault
  pub refused : IsRefused left src src' fault
  pub said : Says taken faults err err' (line (refusal_text fault))
