-- Request lines, one after the other.
use Rattle.std.proofs.Common.{◌≡◌, ℕ, ◌+◌, ◌≤◌, ◌<◌, Bool, true, false, List, [], ◌∷◌, ◌++◌, map, length, drop, get_or, Result, Ok, Err, Option, Some, None, refl, ap, sym, ◌∙◌, arith, append_assoc, append-nil}
use Rattle.std.proofs.lemmas.List.{drop_more, drop_all, drop-map}
use Rattle.prolog_read.specs.declared.fault.ReadFault.{ReadFault}
use Rattle.prolog_read.specs.declared.fault.ReadFault.TheVariants as read
use Rattle.prolog_read.specs.Clauses.{iso}
use Rattle.prolog_read.specs.Outcome.{term_read, Tells}
use Rattle.event_core.specs.declared.settings.Settings.{Settings}
use Rattle.term_core.specs.declared.app.App.{App}
use Rattle.request_text.specs.Limits.{default_settings}
use Rattle.request_text.specs.declared.fault.ScriptFault.{ScriptFault}
use Rattle.request_text.specs.declared.sent.Sent.{Sent}
use Rattle.request_text.specs.Spelled.{is_passed, request_at, put_first, requests_in, Session, session_of, settings_at, session_from, session_in}

-- ---- what a reader tells

-- a fault that isn't want of memory is the one that is defined
pub told : {A : Type 0} (r : Result A ReadFault) (e : ReadFault) → Tells r e → (e ≡ read.Memory → ⊥) → r ≡ Err e
told r (read.Lex f) h n = h
told r (read.Syntax at) h n = h
told r (read.Nesting at) h n = h
told r read.Memory h n = absurd (n refl)

-- ---- the requests

-- these first
abbrev pub put_before : List Sent → Result (List Sent) ScriptFault → Result (List Sent) ScriptFault
put_before ss (Ok rs) = Ok (ss ++ rs)
put_before ss (Err e) = Err e

put_none : (r : Result (List Sent) ScriptFault) → r ≡ put_before [] r
put_none (Ok rs) = refl
put_none (Err e) = refl

put_one : (ss : List Sent) (s : Sent) (r : Result (List Sent) ScriptFault) → put_before ss (put_first (Ok s) r) ≡ put_before (ss ++ s ∷ []) r
put_one ss s (Ok rs) = ap Ok (sym (append_assoc ss (s ∷ []) rs))
put_one ss s (Err e) = refl

requests_none : (n : ℕ) → requests_in n [] ≡ Ok []
unfolding requests_in
requests_none n = refl

requests_some : (n : ℕ) (l : List ℕ) (ls : List (List ℕ)) (b : Bool) → is_passed l ≡ b → requests_in n (l ∷ ls) ≡ elim b [ true ↦ requests_in (n + 1) ls | false ↦ put_first (request_at n l) (requests_in (n + 1) ls) ]
unfolding requests_in
requests_some n l ls true e = rw e refl
requests_some n l ls false e = rw e refl

module _ {B : Type 0} (now : B → List ℕ) (ls : List B) where
  abbrev from : ℕ → List (List ℕ)
  from i = drop i (map now ls)

  from_more : (i : ℕ) (d : B) → i < length ls → from i ≡ now (get_or ls i d) ∷ from (i + 1)
  from_more i d lt = drop-map now i ls ∙ ap (map now) (drop_more ls i d lt) ∙ ap (λ k. now (get_or ls i d) ∷ k) (sym (drop-map now (i + 1) ls))

  from_end : (i : ℕ) → length ls ≤ i → from i ≡ []
  from_end i le = drop-map now i ls ∙ ap (map now) (drop_all i ls le)

  -- nothing was read
  pub requests_begin : (i : ℕ) → requests_in (i + 1) (from i) ≡ put_before [] (requests_in (i + 1) (from i))
  requests_begin i = put_none (requests_in (i + 1) (from i))

  -- all was read
  pub requests_end : (o : Result (List Sent) ScriptFault) (ss : List Sent) (i : ℕ) → o ≡ put_before ss (requests_in (i + 1) (from i)) → length ls ≤ i → o ≡ Ok ss
  requests_end o ss i e le =
      e ∙ ap (λ ks. put_before ss (requests_in (i + 1) ks)) (from_end i le) ∙ ap (put_before ss) (requests_none (i + 1)) ∙ ap Ok (append-nil ss)

  pub requests_passed : (o : Result (List Sent) ScriptFault) (ss : List Sent) (i : ℕ) (d : B) → o ≡ put_before ss (requests_in (i + 1) (from i)) → i < length ls → is_passed (now (get_or ls i d)) ≡ true →
      o ≡ put_before ss (requests_in ((i + 1) + 1) (from (i + 1)))
  requests_passed o ss i d e lt h =
      e ∙ ap (λ ks. put_before ss (requests_in (i + 1) ks)) (from_more i d lt) ∙ ap (put_before ss) (requests_some (i + 1) (now (get_or ls i d)) (from (i + 1)) true h)

  pub requests_more : (o : Result (List Sent) ScriptFault) (ss : List Sent) (i : ℕ) (d : B) (s : Sent) → o ≡ put_before ss (requests_in (i + 1) (from i)) → i < length ls → is_passed (now (get_or ls i d)) ≡ false → request_at (i + 1) (now (get_or ls i d)) ≡ Ok s →
      o ≡ put_before (ss ++ s ∷ []) (requests_in ((i + 1) + 1) (from (i + 1)))
  requests_more o ss i d s e lt h r =
      e ∙ ap (λ ks. put_before ss (requests_in (i + 1) ks)) (from_more i d lt) ∙ ap (put_before ss) (requests_some (i + 1) (now (get_or ls i d)) (from (i + 1)) false h)
      ∙ ap (λ x. put_before ss (put_first x (requests_in ((i + 1) + 1) (from (i + 1))))) r
      ∙ put_one ss s (requests_in ((i + 1) + 1) (from (i + 1)))

  pub requests_refused : (o : Result (List Sent) ScriptFault) (ss : List Sent) (i : ℕ) (d : B) (f : ScriptFault) → o ≡ put_before ss (requests_in (i + 1) (from i)) → i < length ls → is_passed (now (get_or ls i d)) ≡ false → request_at (i + 1) (now (get_or ls i d)) ≡ Err f →
      o ≡ Err f
  requests_refused o ss i d f e lt h r =
      e ∙ ap (λ ks. put_before ss (requests_in (i + 1) ks)) (from_more i d lt) ∙ ap (put_before ss) (requests_some (i + 1) (now (get_or ls i d)) (from (i + 1)) false h)
      ∙ ap (λ x. put_before ss (put_first x (requests_in ((i + 1) + 1) (from (i + 1))))) r

  -- ---- the line `create(Options)`

  session_none : (app : App) (n : ℕ) → session_in app n [] ≡ Ok (record { settings = (default_settings app); lines = [] })
  unfolding session_in
  session_none app n = refl

  session_some : (app : App) (n : ℕ) (l : List ℕ) (ks : List (List ℕ)) (b : Bool) → is_passed l ≡ b → session_in app n (l ∷ ks) ≡ elim b [ true ↦ session_in app (n + 1) ks | false ↦ session_from app (settings_at app (term_read iso l)) n l ks ]
  unfolding session_in
  session_some app n l ks true e = rw e refl
  session_some app n l ks false e = rw e refl

  pub session_passed : (app : App) (o : Result Session ScriptFault) (i : ℕ) (d : B) → o ≡ session_in app (i + 1) (from i) → i < length ls → is_passed (now (get_or ls i d)) ≡ true → o ≡ session_in app ((i + 1) + 1) (from (i + 1))
  session_passed app o i d e lt h = e ∙ ap (session_in app (i + 1)) (from_more i d lt) ∙ session_some app (i + 1) (now (get_or ls i d)) (from (i + 1)) true h

  -- the first line that isn't passed over
  pub session_opens : (app : App) (o : Result Session ScriptFault) (i : ℕ) (d : B) (s : Option Settings) → o ≡ session_in app (i + 1) (from i) → i < length ls → is_passed (now (get_or ls i d)) ≡ false → s ≡ settings_at app (term_read iso (now (get_or ls i d))) →
      o ≡ elim s [ Some t ↦ session_of t (requests_in ((i + 1) + 1) (from (i + 1))) | None ↦ session_of (default_settings app) (requests_in (i + 1) (from i)) ]
  session_opens app o i d s e lt h is =
      e ∙ ap (session_in app (i + 1)) (from_more i d lt) ∙ session_some app (i + 1) (now (get_or ls i d)) (from (i + 1)) false h
      ∙ ap (λ t. session_from app t (i + 1) (now (get_or ls i d)) (from (i + 1))) (sym is) ∙ by s
    where
      by : (s : Option Settings) → session_from app s (i + 1) (now (get_or ls i d)) (from (i + 1)) ≡ elim s [ Some t ↦ session_of t (requests_in ((i + 1) + 1) (from (i + 1))) | None ↦ session_of (default_settings app) (requests_in (i + 1) (from i)) ]
      by (Some t) = refl
      by None = ap (λ ks. session_of (default_settings app) (requests_in (i + 1) ks)) (sym (from_more i d lt))

  -- all lines are passed over
  pub session_empty : (app : App) (o : Result Session ScriptFault) (i : ℕ) → o ≡ session_in app (i + 1) (from i) → length ls ≤ i → o ≡ session_of (default_settings app) (requests_in (length ls + 1) (from (length ls)))
  session_empty app o i e le =
      e ∙ ap (session_in app (i + 1)) (from_end i le) ∙ session_none app (i + 1)
      ∙ ap (session_of (default_settings app)) (sym (ap (requests_in (length ls + 1)) (from_end (length ls) (omega arith)) ∙ requests_none (length ls + 1)))
