-- Whole scripts.
use Rattle.std.proofs.Common.{◌≡◌, ℕ, Bool, true, false, List, Result, Ok, Err, refl, ap, sym, ◌∙◌, IsUtf8}
use Rattle.std.specs.Str.{is_utf8}
use Rattle.std.specs.Str.Lines.{lines}
use Rattle.std.specs.Str.Lossy.{utf8_valid_len}
use Rattle.std.proofs.lemmas.Str.{IsUtf8-from_is_utf8, is_utf8-from_IsUtf8}
use Rattle.term_core.specs.declared.app.App.{App}
use Rattle.program.specs.Loaded.{Loaded}
use Rattle.request_text.specs.declared.fault.SpecFault.{SpecFault}
use Rattle.request_text.specs.declared.fault.SpecFault.TheVariants as spec
use Rattle.request_text.specs.declared.fault.ScriptFault.{ScriptFault}
use Rattle.request_text.specs.declared.fault.ScriptFault.TheVariants as fault
use Rattle.request_text.specs.Kept.{spec_fault}
use Rattle.request_text.specs.Spelled.{Parts, parts, Session, session_in, program_in, Script, and_then, of_spec, script_of, script}

-- bytes that aren't UTF-8
pub not_text : (app : App) (bs : List ℕ) → (IsUtf8 bs → ⊥) → script app bs ≡ Err (fault.Utf8 (utf8_valid_len bs))
not_text app bs h = by (is_utf8 bs) refl
  where
    by : (b : Bool) → is_utf8 bs ≡ b → script app bs ≡ Err (fault.Utf8 (utf8_valid_len bs))
    by true e = absurd (h (IsUtf8-from_is_utf8 bs e))
    by false e = rw e refl

-- what isn't want of memory is passed on as it is
passed_on : (e : SpecFault) → (spec_fault e ≡ fault.Memory → ⊥) → (e ≡ spec.Memory → ⊥) × (fault.Spec e ≡ spec_fault e)
passed_on (spec.Source f) n = (λ q. cc, refl)
passed_on (spec.Clause f) n = (λ q. cc, refl)
passed_on (spec.Ask f) n = (λ q. cc, refl)
passed_on (spec.Template f) n = (λ q. cc, refl)
passed_on spec.Memory n = absurd (n refl)

-- a text and its parts
module _ (app : App) (bs text source requests : List ℕ) (same : text ≡ bs) (u : IsUtf8 bs) (a : source ≡ (parts text).source) (b : requests ≡ (parts text).requests) where
  abbrev taken : Parts
  taken = record { source = source; requests = requests }

  -- the session of a program that was read
  abbrev then_session : Loaded → Result Session ScriptFault → Result Script ScriptFault
  then_session l r = and_then r (λ s. Ok (record { program = l; settings = s.settings; lines = s.lines }))

  abbrev then_program : Result Loaded SpecFault → Result Script ScriptFault
  then_program r = and_then (of_spec r) (λ l. then_session l (session_in app 1 (lines requests)))

  is_script : script app bs ≡ script_of app (parts bs)
  is_script = rw (is_utf8-from_IsUtf8 bs u) refl

  by_parts : script app bs ≡ then_program (program_in app source)
  by_parts =
      is_script ∙ ap (λ x. script_of app (parts x)) (sym same)
      ∙ ap (λ x. let p : Parts = record { source = x; requests = (parts text).requests } in script_of app p) (sym a)
      ∙ ap (λ x. let p : Parts = record { source = source; requests = x } in script_of app p) (sym b)

  -- the source text is refused
  pub source_refused : (e : SpecFault) → ((e ≡ spec.Memory → ⊥) → program_in app source ≡ Err e) → (spec_fault e ≡ fault.Memory → ⊥) → script app bs ≡ Err (spec_fault e)
  source_refused e h n = by_parts ∙ ap then_program (h (passed_on e n).0) ∙ ap Err (passed_on e n).1

  module _ (l : Loaded) (read : program_in app source ≡ Ok l) where
    by_lines : script app bs ≡ then_session l (session_in app 1 (lines requests))
    by_lines = by_parts ∙ ap then_program read

    -- a request line is refused
    pub line_refused : (e : ScriptFault) → session_in app 1 (lines requests) ≡ Err e → script app bs ≡ Err e
    line_refused e h = by_lines ∙ ap (then_session l) h

    pub script_made : (s : Session) → session_in app 1 (lines requests) ≡ Ok s → script app bs ≡ Ok (record { program = l; settings = s.settings; lines = s.lines })
    script_made s h = by_lines ∙ ap (then_session l) h
