-- The library alone, and a text of which each term is a clause.
use Rattle.std.proofs.Common.{◌≡◌, ℕ, Bool, true, false, not, List, [], ◌∷◌, map, filter, length, if◌then◌else◌, Option, Some, None, Ok, refl, sym, ap, subst, ◌∙◌, append-nil}
use Rattle.std.proofs.lemmas.List.{length-map}
use Rattle.term_core.specs.declared.app.App.{App}
use Rattle.term_core.specs.declared.read_term.ReadTerm.{ReadTerm}
use Rattle.term_core.specs.declared.pi.Pi.{Pi}
use Rattle.term_core.specs.Tree.{Tree}
use Rattle.builtin_table.specs.Table.{rows_of_app, reserved_of}
use Rattle.prolog_read.specs.Clauses.{iso}
use Rattle.prolog_read.specs.Outcome.{read_as, clauses_read}
use Rattle.program.specs.Clauses.{Clause, indicator_of}
use Rattle.program.specs.Loaded.{Loaded}
use Rattle.program.specs.Source.{first_fault, clauses_in, defines, program_of, trees_read}
use Rattle.sandbox_walk.specs.Keeping.{keeps_sandbox, ClausesKeep, KeepsSandbox}
use Rattle.library_check.proofs.Loading.{loaded_texts_keep}
use Rattle.lib_text.specs.Clauses.{IsAccepted}
use Rattle.lib_text.proofs.Reading.{trees_are}

-- a library alone, to which a client adds nothing
pub alone : (cs : List Clause) → program_of cs (clauses_in true []) ≡ cs
unfolding program_of
alone cs = append-nil (filter (λ (c : Clause). not (defines [] c.head)) cs) ∙ all cs
  where
    all : (ds : List Clause) → filter (λ (c : Clause). not (defines [] c.head)) ds ≡ ds
    all [] = refl
    all (c ∷ ds) = by (indicator_of c.head) (all ds)
      where
        by : (i : Option Pi) → filter (λ (d : Clause). not (defines [] d.head)) ds ≡ ds →
            (if not (elim i as (λ x. Bool) [ None ↦ false | Some pi ↦ false ]) then c ∷ filter (λ (d : Clause). not (defines [] d.head)) ds else filter (λ (d : Clause). not (defines [] d.head)) ds) ≡ c ∷ ds
        by None e = ap (λ (es : List Clause). c ∷ es) e
        by (Some pi) e = ap (λ (es : List Clause). c ∷ es) e

pub all_accepted :
    (rs : List ReadTerm) (text : List ℕ) → clauses_read iso text ≡ Ok (map read_as rs) → length (clauses_in false (trees_read rs)) ≡ length rs →
    IsAccepted text
all_accepted rs text e n =
    (map read_as rs, e, ap (λ ts. length (clauses_in false ts)) (trees_are rs) ∙ n ∙ sym (length-map rs read_as))

-- clauses of which the test says that they keep to the sandbox
pub is_kept : (app : App) (cs : List Clause) (p : Loaded) (b : Bool) → p.clauses ≡ cs → p.app ≡ app → b ≡ keeps_sandbox (rows_of_app p.app) p.clauses → b ≡ true → ClausesKeep app cs
is_kept app cs p b c a h e =
    ap (λ (x : App). keeps_sandbox (rows_of_app x) cs) (sym a) ∙ ap (keeps_sandbox (rows_of_app p.app)) (sym c) ∙ sym h ∙ e

-- what is loaded over a library that keeps to the sandbox does so too
pub loaded_keeps : (app : App) (library : List Clause) (ts : List Tree) (p : Loaded) → ClausesKeep app library → first_fault (reserved_of (rows_of_app app)) 1 ts ≡ None → p.clauses ≡ program_of library (clauses_in true ts) → p.app ≡ app →
    KeepsSandbox p
loaded_keeps app library ts p k f c a =
    subst (λ (x : App). ClausesKeep x p.clauses) (sym a) (subst (ClausesKeep app) (sym c) (loaded_texts_keep app library ts k f))
