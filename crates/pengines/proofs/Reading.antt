-- What was read of a script.
use Rattle.std.proofs.Common.{◌≡◌, ◌≤◌, ℕ, List, Result, Ok, length, ap, sym, ◌∙◌}
use Rattle.term_core.specs.declared.app.App.TheVariants.{Sandbox}
use Rattle.request_text.specs.Spelled.{Script, script}
use Rattle.request_text.specs.Lines.{script_lines}
use Rattle.pengines.specs.Input.{ReadsAll, max_input}
use Rattle.pengines.specs.Session.{Told, ReadsScript}

-- the source was read to its end, and the input kept spells a script
pub reads_script : {S : Type 0} (left : Told S) (old new : S) (input bytes : List ℕ) (s : Script) (lines : List (List ℕ)) → ReadsAll (left old) (left new) bytes → length bytes ≤ max_input → input ≡ bytes → script Sandbox input ≡ Ok s → lines ≡ script_lines s →
    ReadsScript left old new lines
reads_script left old new input bytes s lines whole size same spelled printed = record {
  bytes = bytes;
  whole = whole;
  size = size;
  read = s;
  spelled = ap (script Sandbox) (sym same) ∙ spelled;
  printed = printed;
}
