-- Tokens split at their ends, and clauses behind those that were read.
use Rattle.std.proofs.Common.{◌≡◌, ◌∙◌, ℕ, suc, ◌≤◌, ◌<◌, Bool, true, false, List, [], ◌∷◌, ◌++◌, length, take, drop, Result, Ok, Err, refl, ap, sym, arith, append_assoc, if◌then◌else◌, cond, not, ◌+◌, get_or}
use Rattle.term_core.specs.Tokens as lex
use Rattle.op_table.specs.Table.{Table}
use Rattle.prolog_lex.specs.declared.token.Token.{Token}
use Rattle.prolog_lex.specs.Lexed.{kind_of, token_of}
use Rattle.std.specs.List.{prefix_len}
use Rattle.prolog_grammar.specs.Readings.{Bytes}
use Rattle.prolog_read.specs.declared.fault.ReadFault.{ReadFault}
use Rattle.prolog_read.specs.Reads.{is_end, before_end, from_end}
use Rattle.prolog_read.specs.Clauses.{Sentences, sentences, with_token, obeyed}
use Rattle.prolog_read.specs.Outcome.{ReadAs, alone, only_term, clauses_of, clauses, unended, place_of, reading_of, refused_at, term_of, and_then, with_first, Tells}
use Rattle.prolog_read.specs.declared.fault.ReadFault.TheVariants.{Lex, Syntax, Nesting, Memory}
use Rattle.prolog_read.specs.Views.{tokens_in, is_inner}

-- the tokens before the first end, and those from it on
pub inner_tokens : (ts : List Token) → tokens_in (take (prefix_len is_inner ts) ts) ≡ before_end (tokens_in ts)
inner_tokens [] = refl
inner_tokens (t ∷ ts) = by (is_end (kind_of t.kind)) (inner_tokens ts)
  where
    by : (b : Bool) → tokens_in (take (prefix_len is_inner ts) ts) ≡ before_end (tokens_in ts) →
        tokens_in (take (cond (not b) (1 + prefix_len is_inner ts) 0) (t ∷ ts)) ≡ (if b then [] else token_of t ∷ before_end (tokens_in ts))
    by true next = refl
    by false next = let e : 1 + prefix_len is_inner ts ≡ suc (prefix_len is_inner ts) = omega arith in rw e (ap (λ us. token_of t ∷ us) next)

pub from_inner : (ts : List Token) → tokens_in (drop (prefix_len is_inner ts) ts) ≡ from_end (tokens_in ts)
from_inner [] = refl
from_inner (t ∷ ts) = by (is_end (kind_of t.kind)) (from_inner ts)
  where
    by : (b : Bool) → tokens_in (drop (prefix_len is_inner ts) ts) ≡ from_end (tokens_in ts) →
        tokens_in (drop (cond (not b) (1 + prefix_len is_inner ts) 0) (t ∷ ts)) ≡ (if b then tokens_in (t ∷ ts) else from_end (tokens_in ts))
    by true next = refl
    by false next = let e : 1 + prefix_len is_inner ts ≡ suc (prefix_len is_inner ts) = omega arith in rw e next

-- behind terms that were read
abbrev pub after : List ReadAs → Result (List ReadAs) ReadFault → Result (List ReadAs) ReadFault
after xs (Ok ys) = Ok (xs ++ ys)
after xs (Err e) = Err e

-- the sentences of tokens without an end
pub none_ended : (ts : List lex.Token) → from_end ts ≡ [] → sentences ts ≡ ([], ts)
none_ended [] e = refl
none_ended (t ∷ ts) e = by (is_end t.kind) e (none_ended ts)
  where
    by : (b : Bool) → (if b then t ∷ ts else from_end ts) ≡ [] → (from_end ts ≡ [] → sentences ts ≡ ([], ts)) →
        ◌≡◌ {A = Sentences} (if b then (([], t.from) ∷ (sentences ts).0, (sentences ts).1) else with_token t (sentences ts)) ([], t ∷ ts)
    by false e next = ap (with_token t) (next e)
    by true e next = cc

-- and of tokens with one
pub one_ended : (ts : List lex.Token) (e : lex.Token) (us : List lex.Token) → from_end ts ≡ e ∷ us → sentences ts ≡ ((before_end ts, e.from) ∷ (sentences us).0, (sentences us).1)
one_ended [] e us h = cc
one_ended (t ∷ ts) e us h = by (is_end t.kind) h (one_ended ts e us)
  where
    by : (b : Bool) → (if b then t ∷ ts else from_end ts) ≡ e ∷ us → (from_end ts ≡ e ∷ us → sentences ts ≡ ((before_end ts, e.from) ∷ (sentences us).0, (sentences us).1)) →
        ◌≡◌ {A = Sentences} (if b then (([], t.from) ∷ (sentences ts).0, (sentences ts).1) else with_token t (sentences ts)) ((if b then [] else t ∷ before_end ts, e.from) ∷ (sentences us).0, (sentences us).1)
    by false h next = ap (with_token t) (next h)
    by true h next = cc

-- ---- clauses behind those that were read

module _ (ops : Table) (text : Bytes) where
  -- tokens that have no end
  pub clauses_unended : (ts : List lex.Token) → from_end ts ≡ [] → clauses ops text ts ≡ unended ops text ts
  clauses_unended ts e = ap (λ ss. clauses_of ops text ss.0 ss.1) (none_ended ts e)

  -- and those that have one
  pub clauses_ended : (ts : List lex.Token) (e : lex.Token) (us : List lex.Token) → from_end ts ≡ e ∷ us →
      clauses ops text ts ≡ and_then (term_of ops text e.from (before_end ts)) (λ x. with_first x (clauses (obeyed x.0 ops) text us))
  clauses_ended ts e us h = ap (λ ss. clauses_of ops text ss.0 ss.1) (one_ended ts e us h)

-- a term that was read goes to those before it
pub after_first : (xs : List ReadAs) (x : ReadAs) (r : Result (List ReadAs) ReadFault) → after xs (with_first x r) ≡ after (xs ++ x ∷ []) r
after_first xs x (Ok ys) = ap Ok (sym (append_assoc xs (x ∷ []) ys))
after_first xs x (Err e) = refl

pub after_none : (r : Result (List ReadAs) ReadFault) → after [] r ≡ r
after_none (Ok ys) = refl
after_none (Err e) = refl

-- ---- what the calls read, where the tokens are split at the first end

-- tokens that have no end are all before it
pub all_before : (ts : List lex.Token) → from_end ts ≡ [] → before_end ts ≡ ts
all_before [] e = refl
all_before (t ∷ ts) e = by (is_end t.kind) e (all_before ts)
  where
    by : (b : Bool) → (if b then t ∷ ts else from_end ts) ≡ [] → (from_end ts ≡ [] → before_end ts ≡ ts) → (if b then [] else t ∷ before_end ts) ≡ t ∷ ts
    by false e next = ap (λ us. t ∷ us) (next e)
    by true e next = cc

module _ (ops : Table) (text : Bytes) (ts front behind : List Token) (n : ℕ) (count : n ≡ prefix_len is_inner ts) (in_front : front ≡ take n ts) (in_back : behind ≡ drop n ts) where
  f : tokens_in front ≡ before_end (tokens_in ts)
  f = ap tokens_in (in_front ∙ ap (λ k. take k ts) count) ∙ inner_tokens ts

  b : tokens_in behind ≡ from_end (tokens_in ts)
  b = ap tokens_in (in_back ∙ ap (λ k. drop k ts) count) ∙ from_inner ts

  at_front : only_term ops text (tokens_in ts) ≡ alone ops text (tokens_in front) (tokens_in behind)
  at_front = ap (λ us. alone ops text us (from_end (tokens_in ts))) (sym f) ∙ ap (alone ops text (tokens_in front)) (sym b)

  -- more than the end is behind the term
  pub only_more : (d : Token) → 1 < length behind →
      only_term ops text (tokens_in ts) ≡ refused_at (get_or behind 1 d).from (reading_of ops text (place_of text (tokens_in behind)) (tokens_in front))
  only_more d l = at_front ∙ more behind l
    where
      more : (es : List Token) → 1 < length es → alone ops text (tokens_in front) (tokens_in es) ≡ refused_at (get_or es 1 d).from (reading_of ops text (place_of text (tokens_in es)) (tokens_in front))
      more [] l = absurd (omega (arith, l))
      more (e ∷ []) l = absurd (omega (arith, l))
      more (e ∷ u ∷ us) l = refl

  pub only_few : length behind ≤ 1 → only_term ops text (tokens_in ts) ≡ term_of ops text (place_of text (tokens_in behind)) (tokens_in front)
  only_few l = at_front ∙ few behind l
    where
      few : (es : List Token) → length es ≤ 1 → alone ops text (tokens_in front) (tokens_in es) ≡ term_of ops text (place_of text (tokens_in es)) (tokens_in front)
      few [] l = refl
      few (e ∷ []) l = refl
      few (e ∷ u ∷ us) l = absurd (omega (arith, l))

  -- a clause, and those behind it
  pub clause_turn : 0 < length behind →
      clauses ops text (tokens_in ts) ≡ and_then (term_of ops text (place_of text (tokens_in behind)) (tokens_in front)) (λ x. with_first x (clauses (obeyed x.0 ops) text (tokens_in (drop 1 behind))))
  clause_turn l = turn behind b l
    where
      turn : (es : List Token) → tokens_in es ≡ from_end (tokens_in ts) → 0 < length es →
          clauses ops text (tokens_in ts) ≡ and_then (term_of ops text (place_of text (tokens_in es)) (tokens_in front)) (λ x. with_first x (clauses (obeyed x.0 ops) text (tokens_in (drop 1 es))))
      turn [] b l = absurd (omega (arith, l))
      turn (e ∷ us) b l =
          clauses_ended ops text (tokens_in ts) (token_of e) (tokens_in us) (sym b)
          ∙ ap (λ vs. and_then (term_of ops text e.from vs) (λ x. with_first x (clauses (obeyed x.0 ops) text (tokens_in us)))) (sym f)

  pub clause_read : 0 < length behind → (x : ReadAs) → term_of ops text (place_of text (tokens_in behind)) (tokens_in front) ≡ Ok x → (xs : List ReadAs) →
      after xs (clauses ops text (tokens_in ts)) ≡ after (xs ++ x ∷ []) (clauses (obeyed x.0 ops) text (tokens_in (drop 1 behind)))
  clause_read l x h xs =
      ap (after xs) (clause_turn l ∙ ap (λ r. and_then r (λ x. with_first x (clauses (obeyed x.0 ops) text (tokens_in (drop 1 behind))))) h)
      ∙ after_first xs x (clauses (obeyed x.0 ops) text (tokens_in (drop 1 behind)))

  -- tokens without an end
  pub no_clause : length behind ≡ 0 → 0 < length ts →
      clauses ops text (tokens_in ts) ≡ refused_at (place_of text (tokens_in behind)) (reading_of ops text (place_of text (tokens_in behind)) (tokens_in front))
  no_clause n some = last behind b n
    where
      some_left : (us : List Token) → 0 < length us → unended ops text (tokens_in us) ≡ refused_at (length text) (reading_of ops text (length text) (tokens_in us))
      some_left [] l = absurd (omega (arith, l))
      some_left (u ∷ us) l = refl

      last : (es : List Token) → tokens_in es ≡ from_end (tokens_in ts) → length es ≡ 0 →
          clauses ops text (tokens_in ts) ≡ refused_at (place_of text (tokens_in es)) (reading_of ops text (place_of text (tokens_in es)) (tokens_in front))
      last [] b n =
          clauses_unended ops text (tokens_in ts) (sym b) ∙ some_left ts some
          ∙ ap (λ us. refused_at (length text) (reading_of ops text (length text) us)) (sym (f ∙ all_before (tokens_in ts) (sym b)))
      last (e ∷ us) b n = absurd (omega (arith, n))

-- where no token is left
pub no_clauses : (ops : Table) (text : Bytes) (ts : List Token) → length ts ≡ 0 → clauses ops text (tokens_in ts) ≡ Ok []
no_clauses ops text [] n = refl
no_clauses ops text (t ∷ ts) n = absurd (omega (arith, n))

pub after_fault : (xs : List ReadAs) (r : Result (List ReadAs) ReadFault) (e : ReadFault) → Tells r e → Tells (after xs r) e
after_fault xs r (Lex e) h = ap (after xs) h
after_fault xs r (Syntax at) h = ap (after xs) h
after_fault xs r (Nesting at) h = ap (after xs) h
after_fault xs r Memory h = tt
