-- Reads one after the other are reads.
use Rattle.std.proofs.Common.{◌≡◌, ◌≤◌, ℕ, List, [], ◌++◌, Option, Some, None, refl, sym, ap, ◌∙◌, append_assoc, append-nil, arith}
use Rattle.std.specs.Io.KnownBytes.{Consumes, Keeps}
use Rattle.std.proofs.KnownBytes.{Consumes-nil, Consumes-trans}
use Rattle.outside.specs.declared.source.ReadGot.{ReadGot}
use Rattle.outside.specs.Faults.{Rose}
use Rattle.http_wire.specs.Reads.{Through, there, more, Reads}

pub through_join : {S A : Type 0} (step : S → A → S → Type 0) (s t u : S) → Through step s t → Through step t u → Through step s u
through_join step _ t u (there s) rest = rest
through_join step _ t u (more s v w a one first) rest = more s v u a one (through_join step v w u first rest)

-- what each step leaves, all leave
pub through_keeps : {S A X : Type 0} (step : S → A → S → Type 0) (f : S → X) → ((s t : S) (a : A) → step s a t → f t ≡ f s)
    → (s t : S) → Through step s t → f t ≡ f s
through_keeps step f kept _ _ (there s) = refl
through_keeps step f kept _ _ (more s u t a one rest) = through_keeps step f kept u t rest ∙ kept s u a one

-- a rise later in the call is a rise in the call
pub rose_later : (a b c : ℕ) → a ≤ b → Rose b c → Rose a c
rose_later a b c le rose = omega arith

pub kept_consumed : (a b : Option (List ℕ)) → Keeps a b → Consumes a b []
kept_consumed None b kept = tt
kept_consumed (Some x) None kept = absurd kept
kept_consumed (Some x) (Some y) kept = sym kept

module _ {S : Type 0} (left : S → Option (List ℕ)) (faults : S → ℕ) (reads : S → ReadGot → S → Type 0) where
  pub reads_none : (s : S) (held held' : List ℕ) → held' ≡ held → Reads left faults reads s s held held'
  reads_none s held held' same = record {
    read = [];
    consumed = Consumes-nil (left s);
    grown = same ∙ sym (append-nil held);
    through = there s;
    counted = omega arith;
  }

  pub reads_one : (s t : S) (a : ReadGot) (held held' read : List ℕ) → reads s a t → Consumes (left s) (left t) read → faults s ≤ faults t
      → held' ≡ held ++ read → Reads left faults reads s t held held'
  reads_one s t a held held' read step consumed counted grown = record {
    read = read;
    consumed = consumed;
    grown = grown;
    through = more s t t a step (there t);
    counted = counted;
  }

  pub reads_kept : (s t : S) (a : ReadGot) (held held' : List ℕ) → reads s a t → Keeps (left s) (left t) → faults s ≤ faults t
      → held' ≡ held → Reads left faults reads s t held held'
  reads_kept s t a held held' step kept counted same =
      reads_one s t a held held' [] step (kept_consumed (left s) (left t) kept) counted (same ∙ sym (append-nil held))

  pub reads_on : (s t u : S) (a b c : List ℕ) → Reads left faults reads s t a b → Reads left faults reads t u b c → Reads left faults reads s u a c
  reads_on s t u a b c first then = record {
    read = first.read ++ then.read;
    consumed = Consumes-trans (left s) (left t) (left u) first.read then.read first.consumed then.consumed;
    grown = then.grown ∙ ap (λ (l : List ℕ). l ++ then.read) first.grown ∙ append_assoc a first.read then.read;
    through = through_join reads s t u first.through then.through;
    counted = let x : faults s ≤ faults t = first.counted in let y : faults t ≤ faults u = then.counted in omega arith;
  }
