-- The program of a source text.
use Rattle.std.proofs.Common.{true, ◌≡◌, ℕ, List, [], map, Ok, Err, Option, Some, None, refl, ap, sym, ◌∙◌}
use Rattle.term_core.specs.declared.app.App.{App}
use Rattle.term_core.specs.declared.read_term.ReadTerm.{ReadTerm}
use Rattle.prolog_read.specs.Clauses.{iso}
use Rattle.prolog_read.specs.Outcome.{read_as, clauses_read}
use Rattle.program.specs.declared.fault.ProgFault.{ProgFault}
use Rattle.program.specs.declared.fault.ProgFault.TheVariants as program
use Rattle.program.specs.Clauses.{Clause}
use Rattle.program.specs.Loaded.{Loaded, Declared}
use Rattle.program.specs.Source.{trees_read, first_fault, clauses_in, program_of, Tells}
use Rattle.builtin_table.specs.Table.{rows_of_app, reserved_of}
use Rattle.lib_text.specs.Clauses.{library_clauses}
use Rattle.lib_text.proofs.Reading.{trees_are}
use Rattle.request_text.specs.declared.fault.SpecFault.TheVariants as spec
use Rattle.request_text.specs.Kept.{clause_fault}
use Rattle.request_text.specs.Spelled.{program_in, program_from, program_checked}

module _ (app : App) (text : List ℕ) (rs : List ReadTerm) (read : clauses_read iso text ≡ Ok (map read_as rs)) where
  checked : (f : Option ProgFault) → first_fault (reserved_of (rows_of_app app)) 1 (trees_read rs) ≡ f → program_in app text ≡ program_checked app f (trees_read rs)
  checked f e =
      ap (program_from app) read
      ∙ ap (λ ts. program_checked app (first_fault (reserved_of (rows_of_app app)) 1 ts) ts) (trees_are rs)
      ∙ ap (λ g. program_checked app g (trees_read rs)) e

  pub program_made : (p : Loaded) → p.clauses ≡ program_of (library_clauses app) (clauses_in true (trees_read rs)) → p.app ≡ app → p.declared ≡ [] →
      first_fault (reserved_of (rows_of_app app)) 1 (trees_read rs) ≡ None → program_in app text ≡ Ok p
  program_made p cs a ds e =
      checked None e
      ∙ ap (λ (xs : List Clause). Ok (record { clauses = xs; app = app; declared = [] })) (sym cs)
      ∙ ap (λ (x : App). Ok (record { clauses = p.clauses; app = x; declared = [] })) (sym a)
      ∙ ap (λ (xs : List Declared). Ok (record { clauses = p.clauses; app = p.app; declared = xs })) (sym ds)

  pub program_refused : (f : ProgFault) → Tells (first_fault (reserved_of (rows_of_app app)) 1 (trees_read rs)) f → (clause_fault f ≡ spec.Memory → ⊥) → program_in app text ≡ Err (clause_fault f)
  program_refused (program.BadDirective n) h k = checked (Some (program.BadDirective n)) h
  program_refused (program.NotCallable n) h k = checked (Some (program.NotCallable n)) h
  program_refused (program.Redefines n pi) h k = checked (Some (program.Redefines n pi)) h
  program_refused program.Memory h k = absurd (k refl)
