-- The tokens of a text: those that were found, and what they stand for.
-- Characters past ASCII are classed by the properties XID_Start and XID_Continue of Unicode.
use Rattle.std.specs.Prelude.{◌≡◌, ℕ, ◌<◌, ◌≤◌, List, [], ◌∷◌, Ok, Err, slice_range}
use Rattle.std.specs.List.{Contains}
use Rattle.std.specs.Str.{chars}
use Rattle.unicode_ident.specs.Ident.{is_xid_start, is_xid_continue}
use Rattle.term_core.specs.Tokens as spec
use Rattle.prolog_lex.specs.declared.token.TokenKind.{TokenKind}
use Rattle.prolog_lex.specs.declared.token.TokenKind.TheVariants as kind
use Rattle.prolog_lex.specs.declared.token.Token.{Token}
use Rattle.prolog_lex.specs.declared.token.TokenValue.{TokenValue}
use Rattle.prolog_lex.specs.declared.token.TokenValue.TheVariants as value
use Rattle.prolog_lex.specs.declared.token.LexFault.{LexFault}
use Rattle.prolog_lex.specs.declared.token.LexFault.TheVariants.{BadChar, Unclosed, FloatToken, IntRange, Memory}

-- the tokens of a text of these bytes
abbrev pub tokens_of : List ℕ → spec.Tokens
tokens_of text = spec.tokens is_xid_start is_xid_continue (chars text)

abbrev pub kind_of : TokenKind → spec.Kind
kind_of kind.Name = spec.name_token
kind_of kind.QuotedName = spec.quoted_token
kind_of kind.Variable = spec.variable_token
kind_of kind.Integer = spec.integer_token
kind_of kind.Text = spec.text_token
kind_of kind.Open = spec.open_token
kind_of kind.Close = spec.close_token
kind_of kind.OpenList = spec.open_list_token
kind_of kind.CloseList = spec.close_list_token
kind_of kind.OpenCurly = spec.open_curly_token
kind_of kind.CloseCurly = spec.close_curly_token
kind_of kind.Comma = spec.comma_token
kind_of kind.Bar = spec.bar_token
kind_of kind.End = spec.end_token

abbrev pub token_of : Token → spec.Token
token_of t = record { kind = kind_of t.kind; from = t.from; to = t.to }

abbrev pub is_fault : spec.Reason → ℕ → spec.Tokens
is_fault reason at = Err (record { reason = reason; at = at })

-- the text has no tokens for this reason; memory may be wanted for any text
abbrev pub TellsFault : spec.Tokens → LexFault → Type 0
TellsFault read (BadChar at) = read ≡ is_fault spec.bad_char at
TellsFault read (Unclosed at) = read ≡ is_fault spec.unclosed at
TellsFault read (FloatToken at) = read ≡ is_fault spec.float_number at
TellsFault read (IntRange at) = read ≡ is_fault spec.out_of_range at
TellsFault read Memory = Unit {0}

-- between two places the tokens stand one behind the other, none of them empty
abbrev pub AreInOrder : ℕ → List Token → ℕ → Type 0
AreInOrder from [] to = from ≤ to
AreInOrder from (t ∷ ts) to = (from ≤ t.from) × (t.from < t.to) × AreInOrder t.to ts to

-- ---- the value of a token

-- one of the tokens of a text
pub record IsTokenOf (text : List ℕ) (t : Token) : Type 0 where
  pub all : List spec.Token
  pub read : tokens_of text ≡ Ok all
  pub among : Contains all (token_of t)

abbrev pub slice_of : List ℕ → Token → List ℕ
slice_of text t = slice_range text t.from t.to

-- what a token of the text stands for, by its kind and its slice
abbrev pub token_value : List ℕ → Token → spec.Value
token_value text t = spec.value (kind_of t.kind) (chars (slice_of text t))

abbrev pub value_of : TokenValue → spec.Value
value_of (value.Name bytes) = spec.name_value bytes
value_of (value.Variable bytes) = spec.variable_value bytes
value_of (value.Integer n) = spec.integer_value n
value_of (value.Text cs) = spec.text_value cs
value_of value.Mark = spec.no_value
