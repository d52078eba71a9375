-- What reading a text gives: its terms, or the first fault at its place.
use Rattle.std.specs.Prelude.{◌≡◌, ℕ, List, [], ◌∷◌, length, Result, Ok, Err, ⊤}
use Rattle.term_core.specs.Tokens.{Token, Reason, bad_char, unclosed, float_number, out_of_range}
use Rattle.term_core.specs.Tokens as lex
use Rattle.term_core.specs.declared.read_term.ReadTerm.{ReadTerm}
use Rattle.term_core.specs.Tree.{Tree}
use Rattle.op_table.specs.Table.{Table}
use Rattle.prolog_lex.specs.declared.token.LexFault.{LexFault}
use Rattle.prolog_lex.specs.declared.token.LexFault.TheVariants.{BadChar, Unclosed, FloatToken, IntRange}
use Rattle.prolog_lex.specs.declared.token.LexFault.TheVariants as lexer
use Rattle.prolog_lex.specs.Lexed.{tokens_of}
use Rattle.prolog_grammar.specs.declared.grammar.fault.Fault.{Fault}
use Rattle.prolog_grammar.specs.declared.grammar.fault.Fault.TheVariants as grammar
use Rattle.prolog_grammar.specs.Readings.{Bytes, Reading}
use Rattle.prolog_grammar.specs.Machine.{start}
use Rattle.prolog_grammar.specs.Read as grammar_read
use Rattle.prolog_read.specs.declared.fault.ReadFault.{ReadFault}
use Rattle.prolog_read.specs.declared.fault.ReadFault.TheVariants.{Lex, Syntax, Nesting, Memory}
use Rattle.prolog_read.specs.Variables.{Names}
use Rattle.prolog_read.specs.Lexemes.{nothing_before, placed}
use Rattle.prolog_read.specs.Reads.{prefix_of, infix_of, before_end, from_end, names_of}
use Rattle.prolog_read.specs.Clauses.{Sentence, sentences, obeyed}

-- a term with the names of its variables
abbrev pub ReadAs : Type 0
ReadAs = Tree × Names

abbrev pub Answer : Type 0
Answer = Result ReadAs ReadFault

abbrev pub lex_fault : lex.Fault → LexFault
lex_fault f = by f.reason
  where
    by : Reason → LexFault
    by bad_char = BadChar f.at
    by unclosed = Unclosed f.at
    by float_number = FloatToken f.at
    by out_of_range = IntRange f.at

-- a fault of the lexer's call
abbrev pub of_lexer : LexFault → ReadFault
of_lexer lexer.Memory = Memory
of_lexer f = Lex f

-- the grammar's fault, where an integer out of range is one of the tokens
abbrev pub fault_of : Fault → ReadFault
fault_of (grammar.Syntax at) = Syntax at
fault_of (grammar.Nesting at) = Nesting at
fault_of (grammar.IntRange at) = Lex (IntRange at)
fault_of grammar.Memory = Memory

abbrev pub and_then : {A B : Type 0} → Result A ReadFault → (A → Result B ReadFault) → Result B ReadFault
and_then (Ok a) f = f a
and_then (Err e) f = Err e

abbrev pub told : {A : Type 0} → Result A Fault → Result A ReadFault
told (Ok a) = Ok a
told (Err e) = Err (fault_of e)

-- the tokens of a text, or its first fault, which goes before any other
abbrev pub lexed : lex.Tokens → Result (List Token) ReadFault
lexed (Ok ts) = Ok ts
lexed (Err f) = Err (Lex (lex_fault f))

-- the place of the first of these tokens, or the text's end
abbrev pub place_of : Bytes → List Token → ℕ
place_of text [] = length text
place_of text (t ∷ ts) = t.from

-- the reading of a term's tokens, which end at this place
abbrev pub reading_of : Table → Bytes → ℕ → List Token → Result Reading ReadFault
reading_of ops text end ts = told (grammar_read.reading (prefix_of ops) (infix_of ops) end (placed text nothing_before ts) start)

-- the term of these tokens, which end at this place
abbrev pub term_of : Table → Bytes → ℕ → List Token → Answer
term_of ops text end ts =
    and_then (told (grammar_read.term_of (prefix_of ops) (infix_of ops) end (placed text nothing_before ts))) (λ t. Ok (t, names_of text ts))

-- tokens that are refused from this one on, however the ones before it are read
abbrev pub refused_at : {A : Type 0} → ℕ → Result Reading ReadFault → Result A ReadFault
refused_at at r = and_then r (λ _. Err (Syntax at))

-- ---- one term

-- a term's tokens, and what comes from the end on: nothing, or the end alone
abbrev pub alone : Table → Bytes → List Token → List Token → Answer
alone ops text ts (e ∷ u ∷ us) = refused_at u.from (reading_of ops text e.from ts)
alone ops text ts es = term_of ops text (place_of text es) ts

-- one term, an end or none, and nothing else
abbrev pub only_term : Table → Bytes → List Token → Answer
only_term ops text ts = alone ops text (before_end ts) (from_end ts)

abbrev pub term_read : Table → Bytes → Answer
term_read ops text = and_then (lexed (tokens_of text)) (only_term ops text)

-- ---- clauses

abbrev pub with_first : ReadAs → Result (List ReadAs) ReadFault → Result (List ReadAs) ReadFault
with_first x (Ok xs) = Ok (x ∷ xs)
with_first x (Err e) = Err e

-- tokens behind the last end are refused, at the text's length if not before
abbrev pub unended : Table → Bytes → List Token → Result (List ReadAs) ReadFault
unended ops text [] = Ok []
unended ops text ts = refused_at (length text) (reading_of ops text (length text) ts)

-- terms that each have an end, each read with the operators that those before it left
abbrev pub clauses_of : Table → Bytes → List Sentence → List Token → Result (List ReadAs) ReadFault
clauses_of ops text [] rest = unended ops text rest
clauses_of ops text (s ∷ ss) rest = and_then (term_of ops text s.1 s.0) (λ x. with_first x (clauses_of (obeyed x.0 ops) text ss rest))

abbrev pub clauses : Table → Bytes → List Token → Result (List ReadAs) ReadFault
clauses ops text ts = clauses_of ops text (sentences ts).0 (sentences ts).1

abbrev pub clauses_read : Table → Bytes → Result (List ReadAs) ReadFault
clauses_read ops text = and_then (lexed (tokens_of text)) (clauses ops text)

-- ---- what a call answers

-- want of memory may come in the place of any answer
abbrev pub Tells : {A : Type 0} → Result A ReadFault → ReadFault → Type 0
Tells expected Memory = ⊤
Tells expected (Lex f) = expected ≡ Err (Lex f)
Tells expected (Syntax at) = expected ≡ Err (Syntax at)
Tells expected (Nesting at) = expected ≡ Err (Nesting at)

-- a refusal, which isn't want of memory
abbrev pub IsRefusal : ReadFault → Type 0
IsRefusal Memory = ⊥
IsRefusal _ = ⊤

-- what a term that was read is, for definitions
abbrev pub read_as : ReadTerm → ReadAs
read_as r = (r.term, r.names)
