-- What the code's values stand for.
use Rattle.std.specs.Prelude.{◌≡◌, ℕ, Bool, not, List, map, All}
use Rattle.std.specs.BTreeMap.{get_by_text}
use Rattle.term_core.specs.Tokens as lex
use Rattle.prolog_lex.specs.declared.token.Token.{Token}
use Rattle.prolog_lex.specs.Lexed.{kind_of, token_of, IsTokenOf}
use Rattle.prolog_grammar.specs.Readings.{Bytes}
use Rattle.prolog_read.specs.Variables.{Numbering, lookup}
use Rattle.prolog_read.specs.Lexemes as spec
use Rattle.prolog_read.specs.Reads.{is_end}
use Rattle.prolog_read.specs.declared.variables.Variables.{Variables}
use Rattle.prolog_read.specs.declared.before.Before.{Before}

abbrev pub numbering : Variables → Numbering
numbering v = record { names = v.names; next = v.next }

-- the index tells the number of each name
pub record HasIndex (v : Variables) : Type 0 where
  pub each : (w : List ℕ) → get_by_text v.index w ≡ lookup w v.names

abbrev pub seen : Before → spec.Before
seen b = record { to = b.to; brackets = b.brackets; variables = numbering b.variables }

-- the tokens as definitions have them
abbrev pub tokens_in : List Token → List lex.Token
tokens_in ts = map token_of ts

-- a token that isn't an end
abbrev pub is_inner : Token → Bool
is_inner t = not (is_end (kind_of t.kind))

-- these are some of the text's tokens
abbrev pub AreTokensOf : Bytes → List Token → Type 0
AreTokensOf text ts = All (IsTokenOf text) ts
