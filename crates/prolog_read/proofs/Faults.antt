-- Faults, from those of the lexer and the grammar.
use Rattle.std.proofs.Common.{◌≡◌, ℕ, Bool, true, false, Result, Ok, Err, refl, ap, IsOk}
use Rattle.std.proofs.lemmas.Bool.{false≢true}
use Rattle.prolog_grammar.specs.declared.grammar.fault.Fault.{Fault}
use Rattle.prolog_grammar.specs.declared.grammar.fault.Fault.TheVariants as grammar
use Rattle.prolog_grammar.specs.Readings.{Reading}
use Rattle.prolog_grammar.specs.Read.{nodes_of}
use Rattle.prolog_grammar.specs.Read as read
use Rattle.prolog_read.specs.declared.fault.ReadFault.{ReadFault}
use Rattle.prolog_read.specs.declared.fault.ReadFault.TheVariants.{Lex, Syntax, Nesting, Memory}
use Rattle.prolog_read.specs.Outcome.{fault_of, told, and_then, refused_at, Tells, IsRefusal}

-- an outcome is a result or a fault
is_err : {A E : Type 0} → Result A E → Bool
is_err (Ok a) = false
is_err (Err e) = true

pub ok_err : {A E : Type 0} (a : A) (e : E) → ◌≡◌ {A = Result A E} (Ok a) (Err e) → ⊥
unfolding is_err
ok_err a e h = false≢true (ap is_err h)

or_value : {A E : Type 0} → A → Result A E → A
or_value a (Ok b) = b
or_value a (Err e) = a

pub ok_same : {A E : Type 0} (a b : A) → ◌≡◌ {A = Result A E} (Ok a) (Ok b) → a ≡ b
unfolding or_value
ok_same a b h = ap (or_value a) h

or_error : {A E : Type 0} → E → Result A E → E
or_error d (Ok a) = d
or_error d (Err e) = e

pub err_same : {A E : Type 0} (d e : E) → ◌≡◌ {A = Result A E} (Err d) (Err e) → d ≡ e
unfolding or_error
err_same d e h = ap (or_error d) h

-- each refusal is told as it is
pub tells_err : {A : Type 0} (r : Result A ReadFault) (e : ReadFault) → r ≡ Err e → Tells r e
tells_err r (Lex f) h = h
tells_err r (Syntax at) h = h
tells_err r (Nesting at) h = h
tells_err r Memory h = tt

pub refusal_told : {A : Type 0} (r : Result A ReadFault) (e : ReadFault) → Tells r e → IsRefusal e → r ≡ Err e
refusal_told r (Lex f) h w = h
refusal_told r (Syntax at) h w = h
refusal_told r (Nesting at) h w = h
refusal_told r Memory h w = absurd w

-- a fault of the grammar's call is told as the reader's
pub told_fault : {A : Type 0} (r : Result A Fault) (e : Fault) → read.Tells r e → Tells (told r) (fault_of e)
told_fault r (grammar.Syntax at) h = ap told h
told_fault r (grammar.Nesting at) h = ap told h
told_fault r (grammar.IntRange at) h = ap told h
told_fault r grammar.Memory h = tt

pub nodes_fault : (r : Result Reading Fault) (e : Fault) → read.Tells (nodes_of r) e → read.Tells r e
nodes_fault (Err d) (grammar.Syntax at) h = ap Err (err_same d _ h)
nodes_fault (Err d) (grammar.Nesting at) h = ap Err (err_same d _ h)
nodes_fault (Err d) (grammar.IntRange at) h = ap Err (err_same d _ h)
nodes_fault (Err d) grammar.Memory h = tt
nodes_fault (Ok r) grammar.Memory h = tt
nodes_fault (Ok r) (grammar.Syntax at) h = absurd (ok_err _ _ h)
nodes_fault (Ok r) (grammar.Nesting at) h = absurd (ok_err _ _ h)
nodes_fault (Ok r) (grammar.IntRange at) h = absurd (ok_err _ _ h)

-- a fault goes before what follows
pub first_fault : {A B : Type 0} (r : Result A ReadFault) (f : A → Result B ReadFault) (e : ReadFault) → Tells r e → Tells (and_then r f) e
first_fault r f (Lex e) h = ap (λ x. and_then x f) h
first_fault r f (Syntax at) h = ap (λ x. and_then x f) h
first_fault r f (Nesting at) h = ap (λ x. and_then x f) h
first_fault r f Memory h = tt

-- where the tokens before are read, the next one is refused
pub refused_behind : {A : Type 0} (at : ℕ) (r : Result Reading ReadFault) → IsOk r → refused_at {A = A} at r ≡ Err (Syntax at)
refused_behind at (Ok r) h = refl
refused_behind at (Err e) h = absurd (false≢true h)

pub told_ok : {A : Type 0} (r : Result A Fault) → IsOk r → IsOk (told r)
told_ok (Ok a) h = refl
told_ok (Err e) h = absurd (false≢true h)
