-- A fault of syntax stands at the first token that no continuation allows.
use Rattle.std.proofs.Common.{◌≡◌, ◌∙◌, ℕ, ◌⊎◌, inl, inr, Bool, true, false, nat_le, List, [], ◌∷◌, ◌++◌, length, Option, Some, None, Result, Ok, Err, refl, ap, sym, subst, append_assoc, append-nil, if◌then◌else◌}
use Rattle.std.proofs.lemmas.List.{map-append}
use Rattle.std.proofs.lemmas.Bool.{false≢true}
use Rattle.term_core.specs.Tokens.{Token}
use Rattle.term_core.specs.Tokens as lex
use Rattle.op_table.specs.declared.op.Op.{Op}
use Rattle.op_table.specs.Table.{Table}
use Rattle.prolog_lex.specs.Lexed.{tokens_of}
use Rattle.prolog_grammar.specs.declared.grammar.fault.Fault.{Fault}
use Rattle.prolog_grammar.specs.declared.grammar.fault.Fault.TheVariants as grammar
use Rattle.prolog_grammar.specs.declared.grammar.lexeme.Placed.{Placed}
use Rattle.prolog_grammar.specs.declared.grammar.lexeme.Lexeme.{Lexeme}
use Rattle.prolog_grammar.specs.Readings.{Bytes, Reading, meaning}
use Rattle.prolog_grammar.specs.Machine.{State, start, is_stuck}
use Rattle.prolog_grammar.specs.Machine as m
use Rattle.prolog_grammar.specs.Read.{refusal, unless, ok_or, reading, has_sized}
use Rattle.prolog_grammar.specs.Read as read
use Rattle.prolog_grammar.proofs.Complete.{found, none_some}
use Rattle.prolog_grammar.proofs.Viable.{least}
use Rattle.prolog_read.specs.declared.fault.ReadFault.{ReadFault}
use Rattle.prolog_read.specs.declared.fault.ReadFault.TheVariants.{Lex, Syntax, Nesting, Memory}
use Rattle.prolog_read.specs.Lexemes.{nothing_before, placed, lexemes_of}
use Rattle.prolog_read.specs.Reads.{prefix_of, infix_of, before_end, from_end, names_of}
use Rattle.prolog_read.specs.Clauses.{Sentence, sentences, obeyed}
use Rattle.prolog_read.specs.Outcome.{ReadAs, fault_of, told, and_then, lexed, place_of, term_of, alone, only_term, term_read, refused_at, reading_of, with_first, clauses_of, clauses, clauses_read, Tells}
use Rattle.prolog_read.specs.Least.{RefusesToken, WantsMore, SyntaxIn, SyntaxBehind, SyntaxAt, ClausesSyntaxAt, SourceSyntaxAt, IfSyntax}
use Rattle.prolog_read.proofs.Faults.{ok_err, err_same}
use Rattle.prolog_read.proofs.Limits.{reading_run, start_sized}
use Rattle.prolog_read.proofs.Exact.{is_term}
use Rattle.prolog_grammar.proofs.Sound.{reads}

is_syntax : Fault → Bool
is_syntax (grammar.Syntax at) = true
is_syntax _ = false

or_place : ℕ → Fault → ℕ
or_place d (grammar.Syntax at) = at
or_place d _ = d

place_same : (a b : ℕ) → grammar.Syntax a ≡ grammar.Syntax b → a ≡ b
unfolding or_place
place_same a b e = ap (or_place a) e

module _ (ops : Table) where
  abbrev P : Bytes → Option Op
  P = prefix_of ops

  abbrev I : Bytes → Option Op
  I = infix_of ops

  run_finish : (ks : List Lexeme) (S : State) → m.run P I ks S ≡ m.finish P I (m.run_to P I ks S)
  unfolding m.run m.run_to
  run_finish [] S = refl
  run_finish (k ∷ ks) S = run_finish ks (m.step P I k S)

  run_to_more : (ks : List Lexeme) (k : Lexeme) (S : State) → m.run_to P I (ks ++ k ∷ []) S ≡ m.step P I k (m.run_to P I ks S)
  unfolding m.run_to
  run_to_more [] k S = refl
  run_to_more (j ∷ ks) k S = run_to_more ks k (m.step P I j S)

  Outcome : ℕ → List Placed → ℕ → Type 0
  Outcome end ps at = RefusesToken ops ps at ⊎ (WantsMore ops ps × (at ≡ end))

  -- the state behind some tokens
  abbrev behind : List Placed → State
  behind front = m.run_to P I (lexemes_of front) start

  behind_more : (front : List Placed) (p : Placed) → behind (front ++ p ∷ []) ≡ m.step P I p.lexeme (behind front)
  behind_more front p = ap (λ ks. m.run_to P I ks start) (map-append (λ q. q.lexeme) front (p ∷ [])) ∙ run_to_more (lexemes_of front) p.lexeme start

  at_end : (front : List Placed) → is_stuck (behind front) ≡ false → m.finish P I (behind front) ≡ None → WantsMore ops front
  at_end front n e = record {
    allowed = (least P I (lexemes_of front)).viable n;
    refused = λ t. none_some _ (run_finish (lexemes_of front) start ∙ e) (found P I (lexemes_of front) t.0 t.1);
  }

  at_token : (front : List Placed) (p : Placed) (ps : List Placed) → is_stuck (behind front) ≡ false → is_stuck (m.step P I p.lexeme (behind front)) ≡ true → RefusesToken ops (front ++ p ∷ ps) p.from
  at_token front p ps n e = record {
    front = front;
    token = p;
    rest = ps;
    split = refl;
    place = refl;
    allowed = (least P I (lexemes_of front)).viable n;
    refused = (least P I (lexemes_of (front ++ p ∷ []))).refused (ap is_stuck (behind_more front p) ∙ e);
  }

  no_end : (end at : ℕ) (front : List Placed) (o : Option Reading) → is_stuck (behind front) ≡ false → m.finish P I (behind front) ≡ o → ok_or o (grammar.Syntax end) ≡ Err (grammar.Syntax at) → Outcome end front at
  unfolding Outcome
  no_end end at front None n f e = inr (at_end front n f, sym (place_same end at (err_same _ _ e)))
  no_end end at front (Some r) n f e = absurd (ok_err r _ e)

  -- a token and what is behind it
  next : (end at : ℕ) (front : List Placed) (p : Placed) (ps : List Placed) → is_stuck (behind front) ≡ false →
      (is_stuck (m.step P I p.lexeme (behind front)) ≡ false → reading P I end ps (m.step P I p.lexeme (behind front)) ≡ Err (grammar.Syntax at) → Outcome end (front ++ p ∷ ps) at) →
      unless (refusal p (is_stuck (m.step P I p.lexeme (behind front))) (has_sized (m.step P I p.lexeme (behind front)))) (reading P I end ps (m.step P I p.lexeme (behind front))) ≡ Err (grammar.Syntax at) →
      Outcome end (front ++ p ∷ ps) at
  unfolding Outcome is_syntax
  next end at front p ps n more e = by (is_stuck T) (has_sized T) refl e
    where
      T : State
      T = m.step P I p.lexeme (behind front)

      within : is_stuck T ≡ false → (d : Bool) → unless (if d then None else Some (grammar.Nesting p.from)) (reading P I end ps T) ≡ Err (grammar.Syntax at) → Outcome end (front ++ p ∷ ps) at
      within g true e = more g e
      within g false e = absurd (false≢true (ap is_syntax (err_same _ _ e)))

      by : (b c : Bool) → is_stuck T ≡ b → unless (refusal p b c) (reading P I end ps T) ≡ Err (grammar.Syntax at) → Outcome end (front ++ p ∷ ps) at
      by true c g e = inl (subst (RefusesToken ops (front ++ p ∷ ps)) (place_same p.from at (err_same _ _ e)) (at_token front p ps n g))
      by false false g e = absurd (false≢true (ap is_syntax (err_same _ _ e)))
      by false true g e = within g (nat_le p.open 4000) e

  -- behind tokens that are allowed
  behind_front : (end at : ℕ) (front ps : List Placed) → is_stuck (behind front) ≡ false → reading P I end ps (behind front) ≡ Err (grammar.Syntax at) → Outcome end (front ++ ps) at
  unfolding reading
  behind_front end at front [] n e = subst (λ ps. Outcome end ps at) (sym (append-nil front)) (no_end end at front (m.finish P I (behind front)) n refl e)
  behind_front end at front (p ∷ ps) n e =
      next end at front p ps n
      (λ g r. subst (λ qs. Outcome end qs at) (append_assoc front (p ∷ []) ps)
      (behind_front end at (front ++ p ∷ []) ps (ap is_stuck (behind_more front p) ∙ g) (ap (reading P I end ps) (behind_more front p) ∙ r))) e

  -- the tokens of a term from the first one on
  pub syntax_least : (end at : ℕ) (ps : List Placed) → reading P I end ps start ≡ Err (grammar.Syntax at) → RefusesToken ops ps at ⊎ (WantsMore ops ps × (at ≡ end))
  unfolding Outcome m.run_to
  syntax_least end at ps e = behind_front end at [] ps refl e

-- ---- faults of the reader

is_syntax_fault : ReadFault → Bool
is_syntax_fault (Syntax at) = true
is_syntax_fault _ = false

or_fault_place : ℕ → ReadFault → ℕ
or_fault_place d (Syntax at) = at
or_fault_place d _ = d

no_syntax : {A : Type 0} (f : ReadFault) (at : ℕ) → is_syntax_fault f ≡ false → ◌≡◌ {A = Result A ReadFault} (Err f) (Err (Syntax at)) → ⊥
unfolding is_syntax_fault
no_syntax f at n e = false≢true (sym n ∙ ap is_syntax_fault (err_same _ _ e))

fault_syntax : (f : Fault) (at : ℕ) → fault_of f ≡ Syntax at → f ≡ grammar.Syntax at
unfolding or_fault_place is_syntax_fault
fault_syntax (grammar.Syntax p) at e = ap grammar.Syntax (ap (or_fault_place p) e)
fault_syntax (grammar.Nesting p) at e = absurd (false≢true (ap is_syntax_fault e))
fault_syntax (grammar.IntRange p) at e = absurd (false≢true (ap is_syntax_fault e))
fault_syntax grammar.Memory at e = absurd (false≢true (ap is_syntax_fault e))

module _ (ops : Table) (text : Bytes) (ts : List Token) (end : ℕ) where
  abbrev read_tokens : Result Reading Fault
  read_tokens = reading (prefix_of ops) (infix_of ops) end (placed text nothing_before ts) start

  from_fault : (f : Fault) (at : ℕ) → read_tokens ≡ Err f → fault_of f ≡ Syntax at → SyntaxIn ops text ts end at
  from_fault f at h e = syntax_least ops end at (placed text nothing_before ts) (h ∙ ap Err (fault_syntax f at e))

  pub term_syntax : (at : ℕ) → term_of ops text end ts ≡ Err (Syntax at) → SyntaxIn ops text ts end at
  unfolding read.term_of is_syntax_fault
  term_syntax at e = by read_tokens refl e
    where
      first : ℕ
      first = read.first_place end (placed text nothing_before ts)

      limited : (r : Reading) (b : Bool) → and_then {B = ReadAs} (told (if b then Ok (meaning r) else Err (grammar.Nesting first))) (λ t. Ok (t, names_of text ts)) ≡ Err (Syntax at) → SyntaxIn ops text ts end at
      limited r true e = absurd (ok_err _ _ e)
      limited r false e = absurd (no_syntax _ at refl e)

      by : (R : Result Reading Fault) → read_tokens ≡ R → and_then {B = ReadAs} (told (read.and_then R (λ r. read.limited first (meaning r)))) (λ t. Ok (t, names_of text ts)) ≡ Err (Syntax at) → SyntaxIn ops text ts end at
      by (Err f) h e = from_fault f at h (err_same _ _ e)
      by (Ok r) h e = limited r (read.is_within (meaning r)) e

  -- what is refused from a place on, behind these tokens
  pub refused_syntax : {A : Type 0} (place at : ℕ) → refused_at {A = A} place (reading_of ops text end ts) ≡ Err (Syntax at) → SyntaxIn ops text ts end at ⊎ SyntaxBehind ops text ts place at
  unfolding or_fault_place
  refused_syntax {A} place at e = by read_tokens refl e
    where
      by : (R : Result Reading Fault) → read_tokens ≡ R → refused_at {A = A} place (told R) ≡ Err (Syntax at) → SyntaxIn ops text ts end at ⊎ SyntaxBehind ops text ts place at
      by (Err f) h e = inl (from_fault f at h (err_same _ _ e))
      by (Ok r) h e =
          let run = reading_run (prefix_of ops) (infix_of ops) end (placed text nothing_before ts) start r (start_sized (prefix_of ops) (infix_of ops)) h in
          inr ((r, reads (prefix_of ops) (infix_of ops) _ r run.0), sym (ap (or_fault_place place) (err_same _ _ e)))

module _ (text : Bytes) where
  pub syntax_at : (ops : Table) (at : ℕ) → term_read ops text ≡ Err (Syntax at) → SyntaxAt ops text at
  unfolding is_syntax_fault
  syntax_at ops at e = by (tokens_of text) refl e
    where
      In : List Token → List Token → Type 0
      In ts es = SyntaxIn ops text ts (place_of text es) at ⊎ ((e u : Token) × (us : List Token) × (es ≡ e ∷ u ∷ us) × SyntaxBehind ops text ts u.from at)

      behind_end : (ts : List Token) (e u : Token) (us : List Token) → SyntaxIn ops text ts e.from at ⊎ SyntaxBehind ops text ts u.from at → In ts (e ∷ u ∷ us)
      behind_end ts e u us (inl h) = inl h
      behind_end ts e u us (inr h) = inr (e, u, us, refl, h)

      only : (ts es : List Token) → alone ops text ts es ≡ Err (Syntax at) → In ts es
      only ts [] h = inl (term_syntax ops text ts _ at h)
      only ts (e ∷ []) h = inl (term_syntax ops text ts _ at h)
      only ts (e ∷ u ∷ us) h = behind_end ts e u us (refused_syntax ops text ts e.from u.from at h)

      by : (r : lex.Tokens) → tokens_of text ≡ r → and_then (lexed r) (only_term ops text) ≡ Err (Syntax at) → SyntaxAt ops text at
      by (Ok ts) h e = record { all = ts; tokens = h; fault = only (before_end ts) (from_end ts) e }
      by (Err f) h e = absurd (no_syntax _ at refl e)

  clauses_syntax : (at : ℕ) (ops : Table) (ss : List Sentence) (rest : List Token) → clauses_of ops text ss rest ≡ Err (Syntax at) → ClausesSyntaxAt ops text ss rest at
  clauses_syntax at ops [] [] e = absurd (ok_err _ _ e)
  clauses_syntax at ops [] (t ∷ ts) e = refused_syntax ops text (t ∷ ts) (length text) (length text) at e
  clauses_syntax at ops (s ∷ ss) rest e = by (λ x. clauses_syntax at (obeyed x.0 ops) ss rest) (term_of ops text s.1 s.0) refl e
    where
      first : (x : ReadAs) (r : Result (List ReadAs) ReadFault) → with_first x r ≡ Err (Syntax at) → r ≡ Err (Syntax at)
      first x (Ok xs) e = absurd (ok_err _ _ e)
      first x (Err f) e = ap Err (err_same _ _ e)

      by : ((x : ReadAs) → clauses_of (obeyed x.0 ops) text ss rest ≡ Err (Syntax at) → ClausesSyntaxAt (obeyed x.0 ops) text ss rest at) →
          (r : Result ReadAs ReadFault) → term_of ops text s.1 s.0 ≡ r → and_then r (λ x. with_first x (clauses_of (obeyed x.0 ops) text ss rest)) ≡ Err (Syntax at) → ClausesSyntaxAt ops text (s ∷ ss) rest at
      by more (Err f) h e = inl (term_syntax ops text s.0 s.1 at (h ∙ ap Err (err_same _ _ e)))
      by more (Ok x) h e = inr (x.0, x.1, is_term ops text s.0 s.1 x h, more x (first x _ e))

  pub source_syntax_at : (ops : Table) (at : ℕ) → clauses_read ops text ≡ Err (Syntax at) → SourceSyntaxAt ops text at
  unfolding is_syntax_fault
  source_syntax_at ops at e = by (tokens_of text) refl e
    where
      by : (r : lex.Tokens) → tokens_of text ≡ r → and_then (lexed r) (clauses ops text) ≡ Err (Syntax at) → SourceSyntaxAt ops text at
      by (Ok ts) h e = record { all = ts; tokens = h; fault = clauses_syntax at ops (sentences ts).0 (sentences ts).1 e }
      by (Err f) h e = absurd (no_syntax _ at refl e)

-- of a fault that is told
pub told_syntax : {A : Type 0} (r : Result A ReadFault) (e : ReadFault) (P : ℕ → Type 0) → ((at : ℕ) → r ≡ Err (Syntax at) → P at) → Tells r e → IfSyntax e P
told_syntax r (Syntax at) P f h = f at h
told_syntax r (Lex f) P g h = tt
told_syntax r (Nesting at) P f h = tt
told_syntax r Memory P f h = tt
