-- What was read of a source text.
use Rattle.std.proofs.Common.{◌≡◌, ◌≤◌, ℕ, Bool, true, false, List, Option, Some, None, Result, Ok, Err, length, refl, ap, sym, subst, ◌∙◌, IsUtf8}
use Rattle.std.specs.Str.{is_utf8}
use Rattle.std.specs.Str.Lossy.{utf8_valid_len}
use Rattle.std.proofs.lemmas.Str.{IsUtf8-from_is_utf8, is_utf8-from_IsUtf8}
use Rattle.term_core.specs.declared.pi.Pi.{Pi}
use Rattle.term_core.specs.Tree.{Tree}
use Rattle.term_core.specs.declared.app.App.{App}
use Rattle.term_core.specs.declared.app.App.TheVariants.{Sandbox}
use Rattle.builtin_table.specs.Table.{rows_of_app}
use Rattle.program.specs.Loaded.{Loaded}
use Rattle.request_text.specs.declared.fault.SpecFault.{SpecFault}
use Rattle.request_text.specs.declared.fault.SpecFault.TheVariants as spec
use Rattle.request_text.specs.declared.fault.ScriptFault.TheVariants as fault
use Rattle.request_text.specs.Kept.{spec_fault}
use Rattle.request_text.specs.Spelled.{program_in, of_spec}
use Rattle.sandbox_walk.specs.declared.unsafe_goal.Unsafe.{Unsafe}
use Rattle.sandbox_walk.specs.declared.unsafe_goal.Unsafe.TheVariants as unsafe
use Rattle.sandbox_walk.specs.Verdict.{VerdictOver, RefusesOver}
use Rattle.sandbox_walk.specs.Computed.{verdict_over}
use Rattle.sandbox_walk.proofs.Rounds.{is_one}
use Rattle.pengines.specs.declared.refusal.Refusal.{Refusal}
use Rattle.pengines.specs.Input.{ReadsAll, max_input}
use Rattle.pengines.specs.Session.{Told}
use Rattle.pengines.specs.Checking.{source_in, judged, Judges}

-- the source was read to its end, and the input kept has this outcome with the goal
pub judges : {S : Type 0} (left : Told S) (old new : S) (input bytes goal : List ℕ) (outcome : Result (Option Unsafe) Refusal) → ReadsAll (left old) (left new) bytes → length bytes ≤ max_input → input ≡ bytes → judged input goal ≡ outcome → Judges left old new goal outcome
judges left old new input bytes goal outcome whole size same is = record {
  bytes = bytes;
  whole = whole;
  size = size;
  is = ap (λ (b : List ℕ). judged b goal) (sym same) ∙ is;
}

-- ---- the program of an input

pub not_text : (bs : List ℕ) → (IsUtf8 bs → ⊥) → source_in bs ≡ Err (fault.Utf8 (utf8_valid_len bs))
not_text bs h = by (is_utf8 bs) refl
  where
    by : (b : Bool) → is_utf8 bs ≡ b → source_in bs ≡ Err (fault.Utf8 (utf8_valid_len bs))
    by true e = absurd (h (IsUtf8-from_is_utf8 bs e))
    by false e = rw e refl

module _ (app : App) (bs text : List ℕ) (sandbox : app ≡ Sandbox) (same : text ≡ bs) (u : IsUtf8 bs) where
  is_source : source_in bs ≡ of_spec (program_in app text)
  is_source = rw (is_utf8-from_IsUtf8 bs u) (ap (λ (b : List ℕ). of_spec (program_in Sandbox b)) (sym same) ∙ ap (λ (a : App). of_spec (program_in a text)) (sym sandbox))

  pub source_read : (l : Loaded) → program_in app text ≡ Ok l → source_in bs ≡ Ok l
  source_read l h = is_source ∙ ap of_spec h

  pub source_refused : (e : SpecFault) → ((e ≡ spec.Memory → ⊥) → program_in app text ≡ Err e) → (spec_fault e ≡ fault.Memory → ⊥) → source_in bs ≡ Err (spec_fault e)
  source_refused (spec.Source f) h n = is_source ∙ ap of_spec (h (λ q. cc))
  source_refused (spec.Clause f) h n = is_source ∙ ap of_spec (h (λ q. cc))
  source_refused (spec.Ask f) h n = is_source ∙ ap of_spec (h (λ q. cc))
  source_refused (spec.Template f) h n = is_source ∙ ap of_spec (h (λ q. cc))
  source_refused spec.Memory h n = absurd (n refl)

-- ---- the verdict

-- what the sandbox answers is the verdict
pub passed : (l : Loaded) (g : Tree) → VerdictOver l g None → None ≡ verdict_over l g
passed l g v = (is_one (rows_of_app l.app) l.clauses g).only None v

-- what is said of a goal is said of it under another name too
pub said : (l : Loaded) (g : Tree) (e u : Unsafe) → e ≡ u → RefusesOver l g e → RefusesOver l g u
said l g e u same = subst (RefusesOver l g) same

module _ (l : Loaded) (g : Tree) where
  pub sandboxed : (i : Pi) → RefusesOver l g (unsafe.Sandboxed i) → Some (unsafe.Sandboxed i) ≡ verdict_over l g
  sandboxed i = (is_one (rows_of_app l.app) l.clauses g).only (Some (unsafe.Sandboxed i))

  pub uninstantiated : RefusesOver l g unsafe.Uninstantiated → Some unsafe.Uninstantiated ≡ verdict_over l g
  uninstantiated = (is_one (rows_of_app l.app) l.clauses g).only (Some unsafe.Uninstantiated)

  pub not_callable : (t : Tree) → RefusesOver l g (unsafe.NotCallable t) → Some (unsafe.NotCallable t) ≡ verdict_over l g
  not_callable t = (is_one (rows_of_app l.app) l.clauses g).only (Some (unsafe.NotCallable t))
