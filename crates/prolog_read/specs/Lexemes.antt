-- The lexemes of a term's tokens: what the grammar sees of them.
use Rattle.std.specs.Prelude.{ℕ, suc, ◌-◌, ◌==◌, ◌&&◌, Bool, true, false, List, [], ◌∷◌, map, Option, Some, None, if◌then◌else◌, codes, slice_range}
use Rattle.std.specs.Str.{chars, bytes_eq}
use Rattle.term_core.specs.Tokens.{Kind, name_token, open_token, close_token, open_list_token, close_list_token, open_curly_token, close_curly_token, comma_token, Token, Value, name_value, variable_value, integer_value, text_value, no_value, value}
use Rattle.prolog_grammar.specs.declared.grammar.lexeme.Placed.{Placed}
use Rattle.prolog_grammar.specs.declared.grammar.lexeme.Word.{Word}
use Rattle.prolog_grammar.specs.declared.grammar.lexeme.Lexeme.{Lexeme}
use Rattle.prolog_grammar.specs.declared.grammar.lexeme.Lexeme.TheVariants.{Name, Integer, Variable, Text, Open, Close, OpenList, CloseList, OpenCurly, CloseCurly, Comma, Bar}
use Rattle.prolog_grammar.specs.Readings.{Bytes, nil, curly}
use Rattle.prolog_read.specs.Variables.{Numbering, start, number_of, with_variable}

-- what stands before a token: the place behind the token before it, how many brackets are open, and the variables so far
pub record Before : Type 0 where
  pub to : Option ℕ
  pub brackets : ℕ
  pub variables : Numbering

-- before the first token of a term
abbrev pub nothing_before : Before
nothing_before = record { to = None; brackets = 0; variables = start }

abbrev stands_at : Option ℕ → ℕ → Bool
stands_at None from = false
stands_at (Some to) from = to == from

-- no layout stands between a token and the one before it
abbrev pub is_direct : Before → Token → Bool
is_direct b t = stands_at b.to t.from

-- what a token of the text stands for
abbrev pub value_at : Bytes → Token → Value
value_at text t = value t.kind (chars (slice_range text t.from t.to))

-- ---- brackets

-- an opening bracket and its closing one
abbrev pub is_pair : Kind → Kind → Bool
is_pair open_list_token close_list_token = true
is_pair open_curly_token close_curly_token = true
is_pair _ _ = false

-- a bracket at the head of these tokens is closed at once
abbrev pub begins_with_pair : List Token → Bool
begins_with_pair (t ∷ u ∷ ts) = is_pair t.kind u.kind
begins_with_pair _ = false

-- how many brackets are open with a token, its own among them
abbrev pub open_with : Kind → ℕ → ℕ
open_with open_token n = suc n
open_with open_list_token n = suc n
open_with open_curly_token n = suc n
open_with _ n = n

-- and behind it
abbrev pub open_behind : Kind → ℕ → ℕ
open_behind close_token n = n - 1
open_behind close_list_token n = n - 1
open_behind close_curly_token n = n - 1
open_behind k n = open_with k n

-- ---- one token

abbrev is_bare : Kind → Bool
is_bare name_token = true
is_bare _ = false

-- a name, and whether it is an unquoted minus
abbrev pub word_of : Kind → Bytes → Word
word_of k f = record { text = f; is_minus = is_bare k && bytes_eq f (codes "-") }

-- punctuation; an end is no token of a term
abbrev pub mark : Kind → Bool → Lexeme
mark open_token d = Open d
mark close_token d = Close
mark open_list_token d = OpenList
mark close_list_token d = CloseList
mark open_curly_token d = OpenCurly
mark close_curly_token d = CloseCurly
mark comma_token d = Comma
mark _ d = Bar

-- by what a token stands for, where d says that it stands directly behind the one before it
abbrev pub lexeme : Kind → Value → Bool → Numbering → Lexeme
lexeme k (name_value f) d s = Name (word_of k f)
lexeme k (variable_value w) d s = Variable (number_of s w)
lexeme k (integer_value n) d s = Integer n d
lexeme k (text_value cs) d s = Text cs
lexeme k no_value d s = mark k d

abbrev pub variables_behind : Value → Numbering → Numbering
variables_behind (variable_value w) s = with_variable s w
variables_behind _ s = s

abbrev pub single : Bytes → Before → Token → Placed
single text b t = record { lexeme = lexeme t.kind (value_at text t) (is_direct b t) b.variables; from = t.from; «open» = open_with t.kind b.brackets }

abbrev pub behind : Bytes → Before → Token → Before
behind text b t = record { to = Some t.to; brackets = open_behind t.kind b.brackets; variables = variables_behind (value_at text t) b.variables }

-- ---- a bracket that is closed at once

abbrev pub pair_name : Kind → Bytes
pair_name open_list_token = nil
pair_name _ = curly

-- `[]` and `{}` are names, with layout inside them too
abbrev pub pair : Before → Token → Placed
pair b t = record { lexeme = Name (record { text = pair_name t.kind; is_minus = false }); from = t.from; «open» = suc b.brackets }

abbrev pub behind_pair : Before → Token → Before
behind_pair b u = record b { to = Some u.to }

-- ---- the tokens of a term

-- the lexemes of these tokens, at their places
unfoldable pub placed : Bytes → Before → List Token → List Placed
placed text b [] = []
placed text b (t ∷ []) = single text b t ∷ []
placed text b (t ∷ u ∷ ts) =
    if is_pair t.kind u.kind then pair b t ∷ placed text (behind_pair b u) ts
    else single text b t ∷ placed text (behind text b t) (u ∷ ts)

-- what stands behind these tokens
unfoldable pub behind_all : Bytes → Before → List Token → Before
behind_all text b [] = b
behind_all text b (t ∷ []) = behind text b t
behind_all text b (t ∷ u ∷ ts) =
    if is_pair t.kind u.kind then behind_all text (behind_pair b u) ts
    else behind_all text (behind text b t) (u ∷ ts)

abbrev pub lexemes_of : List Placed → List Lexeme
lexemes_of ps = map (λ p. p.lexeme) ps

abbrev pub lexemes : Bytes → List Token → List Lexeme
lexemes text ts = lexemes_of (placed text nothing_before ts)
